-- Two packed lists that are walked together: the lists of the two words of an and.
use Rattle.std.specs.Prelude.{◌≡◌, ℕ, suc, ◌+◌, ◌*◌, ◌/◌, ◌<◌, ◌≤◌, min, List, [], ◌∷◌, length, Option, Some, None}
use Rattle.eb_base.specs.Document.{Doc}
use Rattle.eb_base.specs.Term.{Term}
use Rattle.eb_place.specs.declared.moment.Moment.{Moment}
use Rattle.eb_place.specs.Postings.{places}
use Rattle.eb_place.specs.Told.{Told}
use Rattle.eb_block.specs.Reading.{ListStands}
use Rattle.eb_block.specs.declared.packed_list.PackedList.{PackedList}
use Rattle.eb_cursor.specs.AndCosts.{word_parts}
use Rattle.eb_cursor.specs.Costs.{IsPaid}
use Rattle.eb_cursor.specs.Lists.{Gives, gives}
use Rattle.eb_cursor.specs.Loads.{ahead}
use Rattle.eb_cursor.specs.Posted.{is_posting, each_at, Narrow}
use Rattle.eb_cursor.specs.Ready.{IsLeaf}
use Rattle.eb_cursor.specs.Tops.{top}
use Rattle.eb_cursor.specs.declared.cursor.Cursor.{Cursor}
use Rattle.eb_cursor.specs.declared.pair.Pair.{Pair}
use Rattle.eb_cursor.specs.declared.posting_list.PostingList.TheVariants.{Packed}

-- a leaf of a current posting and a packed list
abbrev pub packed_leaf : Option ℕ → PackedList → Cursor
packed_leaf current list = record { upto = 0; lead = 0; segment = 0; current = current; list = Packed list }

-- the lower of both postings is below the end, where neither list has ended
abbrev pub IsOneBelow : Pair → ℕ → Type 0
IsOneBelow p end = (x y : ℕ) → p.left ≡ Some x → p.right ≡ Some y → min x y < end

-- both postings are in one document, where neither list has ended
abbrev pub AreTogether : Pair → Type 0
AreTogether p = (x y : ℕ) → p.left ≡ Some x → p.right ≡ Some y → x / places ≡ y / places

-- a posting is in no later document than another one, where neither list has ended
abbrev pub IsNotLater : Option ℕ → Option ℕ → Type 0
IsNotLater one other = (x y : ℕ) → one ≡ Some x → other ≡ Some y → x / places ≤ y / places

-- of two words the lists have skipped no posting in a document below the end, and the lower posting
-- is below it
pub record IsAbreast (g : Gives) (docs : List Doc) (u v : Term) (p : Pair) (end : ℕ) : Type 0 where
  pub narrow : Narrow docs
  pub first : IsLeaf g (is_posting docs u) (packed_leaf p.left p.one) (places * end)
  pub second : IsLeaf g (is_posting docs v) (packed_leaf p.right p.two) (places * end)
  pub low : IsOneBelow p (places * end)

-- so they have for some lower end, and no document from this on below the end has both words
pub record IsPast (g : Gives) (docs : List Doc) (u v : Term) (p : Pair) (end : ℕ) : Type 0 where
  pub lower : ℕ
  pub falls : lower ≤ end
  pub same : top (each_at docs (word_parts (u ∷ v ∷ []))) end ≡ top (each_at docs (word_parts (u ∷ v ∷ []))) lower
  pub abreast : IsAbreast g docs u v p lower

-- at some moment that the port stands for, the pair can pass
abbrev pub CanPass : {S : Type 0} → (S → Moment → Type 0) → S → Pair → Type 0
CanPass stands s p = (m : Moment) × (docs : List Doc) × (u : Term) × (v : Term) × (end : ℕ) × stands s m × IsAbreast (gives m) docs u v p end

-- what passing promises, for each list of documents, each two words and each end
abbrev pub GoesPast : {S : Type 0} → (S → Moment → Type 0) → (S → Moment → S → Moment → Type 0) → S → S → Pair → Pair → Type 0
GoesPast stands keeps s t old new = (docs : List Doc) (u v : Term) (end : ℕ)
    → Told stands keeps s t (λ m. IsAbreast (gives m) docs u v old end) (λ n. IsPast (gives n) docs u v new end)

-- the lists are those of two terms in segment s, still have at most this many postings to give, and
-- may load this many words together
abbrev pub PairOwes : Moment → ℕ → Term → Term → ℕ → ℕ → Pair → ℕ → Type 0
PairOwes m s t w i j p most = (xs : List ℕ) × (ys : List ℕ) × (b : ℕ) × (c : ℕ)
    × ListStands m s t p.one xs b × ListStands m s w p.two ys c × (length xs ≤ i) × (length ys ≤ j) × (b + c ≤ most)

-- a call pays for its loads by what they owed
abbrev pub PaysPair : {S : Type 0} → (S → Moment → Type 0) → (S → Moment → S → Moment → Type 0) → S → S → Pair → Pair → ℕ → ℕ → Type 0
PaysPair stands keeps p q old new before after = (s : ℕ) (t w : Term) (i j most : ℕ)
    → Told stands keeps p q (λ m. PairOwes m s t w i j old most) (λ n. IsPaid (PairOwes n s t w i j new) before most after)

-- how far both can still fall
abbrev pub both_ahead : Pair → ℕ
both_ahead p = ahead p.left + ahead p.right

-- one more than the document where both are, 0 where a list has ended
abbrev pub meeting_end : Option ℕ → Option ℕ → ℕ
meeting_end None right = 0
meeting_end (Some x) None = 0
meeting_end (Some x) (Some y) = suc (x / places)

-- the pair is that of two cursors whose lists are packed and in their last blocks, the lower
-- posting below the end
pub record IsPairOf (own other : Cursor) (end : ℕ) (p : Pair) : Type 0 where
  pub left : own.current ≡ p.left
  pub one : own.list ≡ Packed p.one
  pub right : other.current ≡ p.right
  pub two : other.list ≡ Packed p.two
  pub first_last : p.one.left ≡ 0
  pub second_last : p.two.left ≡ 0
  pub low : IsOneBelow p (places * end)
