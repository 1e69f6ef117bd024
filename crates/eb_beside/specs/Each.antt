-- Calls at each place of a list, whose places are counted from a number.
use Rattle.std.specs.Prelude.{ℕ, ◌+◌, List, [], ◌∷◌}
use Rattle.std.specs.Fork.{AcceptsAt, ChangesAt}
use denote.Ref.{MutBor}
use denote.Param.Members.{Shared}

module _ {F T : Type 0} (g : Shared F (ℕ × (MutBor T × Unit {0})) ((Unit {0}) × (MutBor T × Unit {0}))) (f : F) where
  -- f may be called at each place
  unfoldable pub AcceptsFrom : ℕ → List T → Type 0
  AcceptsFrom from [] = Unit {0}
  AcceptsFrom from (x ∷ xs) = AcceptsAt g f from x × AcceptsFrom (from + 1) xs

  -- each element is what a call of f left at its place
  unfoldable pub ChangesFrom : ℕ → List T → List T → Type 0
  ChangesFrom from [] ys = Unit {0}
  ChangesFrom from (x ∷ xs) [] = ⊥
  ChangesFrom from (x ∷ xs) (y ∷ ys) = ChangesAt g f from x y × ChangesFrom (from + 1) xs ys
