-- What is left of a list, and for which bounds no later block is skipped.
use Rattle.std.proofs.Common.{◌≡◌, ℕ, inl, inr, false, [], ◌∷◌, refl, arith}
use Rattle.std.proofs.lemmas.Bool.{false≢true}
use Rattle.eb_place.specs.Postings.{at_most}
use Rattle.eb_block.specs.Reading.{BoundsNext, IsNear, remaining}
use Rattle.eb_block.specs.declared.packed_list.PackedList.{PackedList}

-- a list at posting 900, with this header, this many postings in later blocks and this bound
abbrev list : ℕ → ℕ → ℕ → PackedList
list header left near = record { at = 3; bits = record { low = 0; count = 0 }; width = 5; inside = 2; last = 900; held = false; next = 9; header = header; left = left; near = near }

-- two in its block, and those in later blocks
left : remaining (list 0 128 700) ≡ 130
left = refl

-- those of a falling list that aren't above
not_above : at_most 5 (9 ∷ 7 ∷ 5 ∷ 2 ∷ []) ≡ 5 ∷ 2 ∷ []
not_above = refl

all_above : at_most 1 (9 ∷ 7 ∷ 5 ∷ 2 ∷ []) ≡ []
all_above = refl

-- there is no block after it
last_block : BoundsNext (list 0 0 0)
last_block = inl refl

-- the next block is known to begin with posting 700, which is 700 times 2^16 in its header
next_known : BoundsNext (list 45875200 128 700)
next_known = inr (inl (omega arith, omega arith))

-- for a bound of 650 what is before it is skipped
not_lower : BoundsNext (list 45875200 128 649) → ⊥
not_lower h = elim h [
  | inl e ↦ omega (arith, e)
  | inr i ↦ elim i [
    | inl b ↦ omega (arith, b.1)
    | inr b ↦ omega (arith, b)
  ]
]

-- where it begins isn't known, and a bound may be any number of 64 bits
next_unknown : BoundsNext (list 0 128 18446744073709551615)
next_unknown = inr (inr (omega arith))

not_known : BoundsNext (list 0 128 700) → ⊥
not_known h = elim h [
  | inl e ↦ omega (arith, e)
  | inr i ↦ elim i [
    | inl b ↦ omega (arith, b.0)
    | inr b ↦ omega (arith, b)
  ]
]

-- the next block begins below 701
near : IsNear 701 (list 45875200 128 700)
near = inr (inl (omega arith, omega arith))

not_near : IsNear 700 (list 45875200 128 700) → ⊥
not_near h = elim h [
  | inl e ↦ omega (arith, e)
  | inr i ↦ elim i [
    | inl b ↦ omega (arith, b.1)
    | inr b ↦ false≢true b.0
  ]
]
