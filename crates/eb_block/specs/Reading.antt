-- Which postings a packed list still has to give, and how many loads are left to it.
use Rattle.std.specs.Prelude.{◌≡◌, ℕ, ◌+◌, ◌<◌, ◌≤◌, ◌^◌, ◌/◌, ◌⊎◌, true, false, List, [], ◌∷◌, ◌++◌, length, drop, get_or, Option, Some, None, if◌then◌else◌, nat_lt}
use Rattle.eb_base.specs.Term.{Term}
use Rattle.eb_place.specs.declared.moment.Moment.{Moment}
use Rattle.eb_place.specs.Layout.{place}
use Rattle.eb_place.specs.Layout.Slot.{slot}
use Rattle.eb_place.specs.Layout.Region.{packed_region}
use Rattle.eb_place.specs.Packed.{differences, packed_list, packed}
use Rattle.eb_place.specs.Seen.{segment}
use Rattle.eb_place.specs.Walk.{IsTerm}
use Rattle.eb_place.specs.Falling.{IsFalling, AllBelow}
use Rattle.eb_block.specs.Fields.{HoldsFields}
use Rattle.eb_block.specs.Blocks.{most_words}
use Rattle.eb_place.specs.Postings.{posting_bits, at_most}
use Rattle.eb_place.specs.PackedLists.{IsConverted, list_start}
use Rattle.eb_block.specs.declared.packed_list.PackedList.{PackedList}

-- the place where the packed list of term number k of a segment begins
abbrev pub packed_start : Moment → ℕ → ℕ → ℕ
packed_start m s k = place m.setting (slot s packed_region (list_start (segment m s) k))

-- the word at this place is, in a converted segment, this word of the packed list of a term
pub record IsPackedAt (m : Moment) (s at value : ℕ) : Type 0 where
  pub converted : IsConverted m s
  pub term : Term
  pub number : ℕ
  pub is_term : IsTerm m s term number
  pub index : ℕ
  pub inside : index < length (packed term (segment m s))
  pub stands : at ≡ packed_start m s number + index
  pub is : value ≡ get_or (packed term (segment m s)) index 0

-- one where a header is loaded
abbrev pub loaded : ℕ → ℕ
loaded header = if nat_lt 0 header then 1 else 0

-- no block after the one that is read is skipped for a bound above `near`: there is none, or the
-- next one is known to begin no higher, or no bound is above it
abbrev pub BoundsNext : PackedList → Type 0
BoundsNext p = (p.left ≡ 0) ⊎ (((1 ≤ p.header) × (p.header / 2 ^ 16 ≤ p.near)) ⊎ (2 ^ 64 ≤ p.near + 1))

-- the list reads these words, which begin at `start`: it has still to give `rest`, and may load as
-- many words as the budget says
pub record ReadsWords (words : List ℕ) (start : ℕ) (p : PackedList) (rest : List ℕ) (budget : ℕ) : Type 0 where
  pub room : start + length words ≤ 2 ^ 27
  pub now : List ℕ
  pub later : List ℕ
  pub body : List ℕ
  pub index : ℕ
  pub at : p.at ≡ start + index
  pub short : p.next < p.at + most_words
  pub words_are : drop index words ≡ body ++ packed_list later
  pub near : start + (index + length body) ≤ p.next
  pub next : 1 ≤ length later → p.next ≡ start + (index + length body)
  pub holds : HoldsFields p.width p.bits body (differences (p.last ∷ now))
  pub narrow : p.width ≤ posting_bits
  pub inside : p.inside ≡ length now
  pub left : p.left ≡ length later
  pub block : IsFalling (p.last ∷ now)
  pub falls : IsFalling rest
  pub small : AllBelow (2 ^ posting_bits) later
  pub are : rest ≡ (if p.held then (p.last ∷ (now ++ later)) else (now ++ later))
  pub header : (p.header ≡ 0) ⊎ ((1 ≤ length later) × (p.header ≡ get_or (packed_list later) 0 0))
  pub bounds : BoundsNext p
  pub budget_is : budget + loaded p.header ≡ length body + length (packed_list later)

-- how many postings the list still has to give
abbrev pub remaining : PackedList → ℕ
remaining p = (if p.held then 1 else 0) + p.inside + p.left

-- what a seek that skips this many postings loads at most: one header for each whole block among
-- them, and two headers and the differences of a block where it begins and ends
abbrev pub seek_loads : ℕ → ℕ
seek_loads passed = passed / 128 + 1 + most_words

-- of the postings of the term in segment s, which is converted, the list has still to give these,
-- and it may load as many words as the budget says
pub record ListStands (m : Moment) (s : ℕ) (t : Term) (p : PackedList) (rest : List ℕ) (budget : ℕ) : Type 0 where
  pub converted : IsConverted m s
  pub number : ℕ
  pub is_term : IsTerm m s t number
  pub reads : ReadsWords (packed t (segment m s)) (packed_start m s number) p rest budget

-- what a call returned: the newest of what was left, none after the oldest
abbrev pub ListGives : Moment → ℕ → Term → PackedList → List ℕ → ℕ → Option ℕ → Type 0
ListGives m s t p [] budget r = (r ≡ None) × ListStands m s t p [] budget
ListGives m s t p (x ∷ xs) budget r = (r ≡ Some x) × ListStands m s t p xs budget

-- what going to the next block leaves: nothing is skipped where the block before was given, else
-- only what is above its first posting
pub record HasPassed (p : PackedList) (rest after : List ℕ) : Type 0 where
  pub same : p.held ≡ false → p.inside ≡ 0 → after ≡ rest
  pub skips : (most : ℕ) → most ≤ p.header / 2 ^ 16 → at_most most after ≡ at_most most rest

-- the blocks after the one that is read begin with a posting below `most`, or there are none, or a
-- posting is held that isn't above it
abbrev pub IsNear : ℕ → PackedList → Type 0
IsNear most p = (p.left ≡ 0) ⊎ (((1 ≤ p.header) × (p.header / 2 ^ 16 < most)) ⊎ ((p.held ≡ true) × (p.last ≤ most)))
