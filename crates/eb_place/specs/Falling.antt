-- Lists of numbers that fall, or stay below a bound.
use Rattle.std.specs.Prelude.{ℕ, ◌<◌, List, [], ◌∷◌}

-- each is below the one before it
abbrev pub IsFalling : List ℕ → Type 0
IsFalling [] = Unit {0}
IsFalling (x ∷ []) = Unit {0}
IsFalling (x ∷ y ∷ ys) = (y < x) × IsFalling (y ∷ ys)

-- each is below n
abbrev pub AllBelow : ℕ → List ℕ → Type 0
AllBelow n [] = Unit {0}
AllBelow n (x ∷ xs) = (x < n) × AllBelow n xs
