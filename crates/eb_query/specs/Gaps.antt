-- What the writer puts before a part, by the part's index.
use Rattle.std.specs.Prelude.{ℕ, zero, suc, List, [], ◌∷◌}

-- nothing before the first part of an and, and a space before each later one; so between terms too
abbrev pub and_gap : ℕ → List ℕ
and_gap zero = []
and_gap (suc n) = 32 ∷ []

-- nothing before the first part of an or, and ` OR ` before each later one
abbrev pub or_gap : ℕ → List ℕ
or_gap zero = []
or_gap (suc n) = 32 ∷ 79 ∷ 82 ∷ 32 ∷ []
