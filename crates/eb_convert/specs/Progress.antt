-- How far the conversion of a segment is.
use Rattle.std.specs.Prelude.{◌≡◌, ℕ, ◌+◌, ◌*◌, ◌^◌, ◌<◌, ◌≤◌, List, [], ◌∷◌, ◌++◌, length, take, drop}
use Rattle.eb_base.specs.Term.{Term}
use Rattle.eb_place.specs.declared.moment.Moment.{Moment}
use Rattle.eb_place.specs.Layout.Slot.{slot}
use Rattle.eb_place.specs.Layout.Region.{converted_region, directory_region, packed_region}
use Rattle.eb_place.specs.Postings.{frequency, terms_of, distinct, posting_bits}
use Rattle.eb_place.specs.Packed.{packed, packed_list}
use Rattle.eb_place.specs.Room.{cut}
use Rattle.eb_place.specs.Placing.{Store, in_row}
use Rattle.eb_place.specs.Conversion.{segment_stores, pack_stores}
use Rattle.eb_place.specs.Moments.{with_current, IsClosed}
use Rattle.eb_place.specs.Seen.{segment}
use Rattle.eb_chain.specs.Chains.{Stands}
use Rattle.eb_chain.specs.declared.chain.Chain.{Chain}
use Rattle.eb_place.specs.Falling.{IsFalling, AllBelow}

-- segment s is closed and the next to be converted, and of the stores of its conversion these are
-- left
pub record HasLeft (m : Moment) (s : ℕ) (left : List Store) : Type 0 where
  pub converted : m.conversions.converted ≡ s
  pub closed : IsClosed m s
  pub are : drop m.conversions.packed (segment_stores m.setting (with_current m.documents) s) ≡ left

-- the stores of a term: its packed words from `at` on, and its directory word
abbrev pub term_stores : Moment → ℕ → Term → ℕ → ℕ → List Store
term_stores m s t k at = in_row s packed_region at (packed t (segment m s)) ++ (slot s directory_region k, at * 2 ^ 32 + frequency t (segment m s)) ∷ []

-- a document of the segment is accepted or is being placed
unfoldable pub IsBegunAt : Moment → ℕ → Type 0
IsBegunAt m s = s < length (cut m.setting (with_current m.documents))

-- the chain still has these postings to give, and their blocks come next, from packed word `at` on;
-- other stores come after them
pub record IsBlockNext (m : Moment) (s : ℕ) (t : Term) (c : Chain) (opened at : ℕ) (rest : List ℕ) (more : List Store) : Type 0 where
  pub chain : Stands m s t c opened rest
  pub left : HasLeft m s (in_row s packed_region at (packed_list rest) ++ more)
  pub others : 1 ≤ length more
  pub falls : IsFalling rest
  pub small : AllBelow (2 ^ posting_bits) rest

-- the block of the first of them, at most 128, is put: `count` postings, up to packed word `next`
pub record IsBlockDone (n : Moment) (s : ℕ) (t : Term) (c : Chain) (opened at : ℕ) (rest : List ℕ) (more : List Store) (count next : ℕ) : Type 0 where
  pub after : IsBlockNext n s t c opened next (drop 128 rest) more
  pub many : count ≡ length (take 128 rest)
  pub place : next + length (packed_list (drop 128 rest)) ≡ at + length (packed_list rest)

-- all blocks are put
pub record AreBlocksDone (n : Moment) (s : ℕ) (at : ℕ) (rest : List ℕ) (more : List Store) (total next : ℕ) : Type 0 where
  pub left : HasLeft n s more
  pub many : total ≡ length rest
  pub place : next ≡ at + length (packed_list rest)

-- how many packed words the term takes
abbrev pub packed_of : Moment → ℕ → Term → ℕ
packed_of m s t = length (packed t (segment m s))

-- the stores of the terms from number k on, whose packed words begin at `at`, and the converted
-- word
unfoldable pub terms_left : Moment → ℕ → ℕ → ℕ → List Store
terms_left m s at k = pack_stores s (segment m s) at k (drop k (distinct (terms_of (segment m s)))) ++ (slot s converted_region 0, 1) ∷ []

-- there is a term of this number in the segment
unfoldable pub HasTerm : Moment → ℕ → ℕ → Type 0
HasTerm m s k = k < length (distinct (terms_of (segment m s)))

-- there is none
unfoldable pub HasNoTerm : Moment → ℕ → ℕ → Type 0
HasNoTerm m s k = length (distinct (terms_of (segment m s))) ≤ k
