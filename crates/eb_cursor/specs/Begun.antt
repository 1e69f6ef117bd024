-- What beginning a query in a segment gives.
use Rattle.std.specs.Prelude.{◌≡◌, ℕ, ◌*◌, Bool, true, false, ◌⊎◌, List, length, [], ◌∷◌, None}
use Rattle.eb_base.specs.Document.{Doc}
use Rattle.eb_base.specs.Query.{Tree, Trees}
use Rattle.eb_place.specs.Postings.{places}
use Rattle.eb_place.specs.declared.moment.Moment.{Moment}
use Rattle.eb_cursor.specs.Lists.{Gives, gives}
use Rattle.eb_cursor.specs.Opened.{CanRead}
use Rattle.eb_cursor.specs.Posted.{is_posting, match_at, each_at, some_at}
use Rattle.eb_cursor.specs.Ready.{Ready, AllReady, IsLeaf}
use Rattle.eb_cursor.specs.Tops.{top}
use Rattle.eb_cursor.specs.declared.cursor.Cursor.{Cursor}
use Rattle.eb_cursor.specs.declared.posting_list.PostingList.TheVariants.{Empty}

-- the cursors have passed everything, and their lists are forgotten
abbrev pub AreClear : List Cursor → Type 0
AreClear [] = Unit {0}
AreClear (c ∷ cs) = (c.current ≡ None) × (c.upto ≡ 0) × (c.list ≡ Empty) × AreClear cs

-- at some moment that the port stands for, this many documents are accepted in the segment, and can
-- be read
abbrev pub CanBegin : {S : Type 0} → (S → Moment → Type 0) → S → ℕ → ℕ → Bool → Type 0
CanBegin stands s segment documents packed = (m : Moment) × (docs : List Doc) × stands s m × CanRead m segment docs packed × (length docs ≡ documents)

-- each leaf of the terms has passed nothing below the end
abbrev pub AllAt : Gives → List Doc → List (List ℕ) → List Cursor → ℕ → Type 0
AllAt g docs [] cursors end = cursors ≡ []
AllAt g docs (t ∷ ts) [] end = ⊥
AllAt g docs (t ∷ ts) (c ∷ cs) end = IsLeaf g (is_posting docs t) c end × AllAt g docs ts cs end

-- some term occurs in none of the documents
abbrev pub HasAbsent : List Doc → List (List ℕ) → Type 0
HasAbsent docs [] = ⊥
HasAbsent docs (t ∷ ts) = ((x : ℕ) → is_posting docs t x ≡ false) ⊎ HasAbsent docs ts

-- the terms of a phrase or a window are begun, or one of them occurs in no document
pub record BegunLeaves (docs : List Doc) (ts : List (List ℕ)) (cursors : List Cursor) (may : Bool) (n : Moment) : Type 0 where
  pub ready : may ≡ true → AllAt (gives n) docs ts cursors (places * length docs)
  pub none : may ≡ false → HasAbsent docs ts

-- the query is begun; where the answer is false no document matches
pub record Begun (docs : List Doc) (q : Tree) (cursors : List Cursor) (may : Bool) (n : Moment) : Type 0 where
  pub ready : Ready (gives n) docs q cursors (length docs)
  pub none : may ≡ false → top (match_at docs q) (length docs) ≡ 0

-- all parts are begun, or one of them matches no document
pub record BegunEach (docs : List Doc) (qs : Trees) (cursors : List Cursor) (may : Bool) (n : Moment) : Type 0 where
  pub ready : may ≡ true → AllReady (gives n) docs qs cursors (length docs)
  pub ended : may ≡ false → AllReady (gives n) docs qs cursors 0
  pub none : may ≡ false → top (each_at docs qs) (length docs) ≡ 0

-- all parts are begun; where the answer is false none matches a document
pub record BegunSome (docs : List Doc) (qs : Trees) (cursors : List Cursor) (may : Bool) (n : Moment) : Type 0 where
  pub ready : AllReady (gives n) docs qs cursors (length docs)
  pub none : may ≡ false → top (some_at docs qs) (length docs) ≡ 0
