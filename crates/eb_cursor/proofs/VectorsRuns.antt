-- Which run of the terms is the longest, and where its terms are, counted down from the last.
use Rattle.std.proofs.Common.{◌≡◌, ℕ, zero, suc, ◌≤◌, ◌<◌, Bool, eqb, List, [], ◌∷◌, get_or, None, Some, refl, arith}
use Rattle.std.specs.Prelude.{◌%◌}
use Rattle.eb_cursor.specs.Runs.{back, IsRun, IsLongest}
use Rattle.eb_cursor.specs.declared.run.Run.{Run}

-- the term stands at each odd place
abbrev is_odd : ℕ → Bool
is_odd n = eqb (n % 2) 1

-- the last of the run is at place 7, which counts as 8
itself : back is_odd 0 8 ≡ 8
itself = refl

-- the one before it at place 5, and the one before that at 3
next : back is_odd 1 8 ≡ 6
next = refl

third : back is_odd 2 8 ≡ 4
third = refl

-- four places are there, so a fifth term has none
first : back is_odd 3 8 ≡ 2
first = refl

none_left : back is_odd 4 8 ≡ 0
none_left = refl

-- the terms: "a" twice, and three times
abbrev two : List (List ℕ)
two = (97 ∷ []) ∷ (97 ∷ []) ∷ []

abbrev three : List (List ℕ)
three = (97 ∷ []) ∷ two

abbrev of_three : Run
of_three = record { from = 0; to = 3 }

three_are_one : (k : ℕ) → 0 ≤ k → k < 3 → get_or three k [] ≡ get_or three 0 []
three_are_one zero l h = refl
three_are_one (suc zero) l h = refl
three_are_one (suc (suc zero)) l h = refl
three_are_one (suc (suc (suc k))) l h = absurd (omega (arith, h))

run_of_three : IsRun three of_three
run_of_three = record { several = omega arith; within = omega arith; one = three_are_one }

-- two are too few for a run to be named, three are enough
two_are_few : IsLongest None two
two_are_few r is = omega (arith, is.within)

three_are_enough : IsLongest (Some of_three) three
three_are_enough = (omega arith, λ r is. (omega (arith, is.within), λ low. omega (arith, low)))

three_are_not_few : IsLongest None three → ⊥
three_are_not_few none = omega (arith, none of_three run_of_three)
