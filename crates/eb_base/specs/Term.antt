-- Terms.
use Rattle.std.specs.Prelude.{ℕ, ◌<◌, List}
use Rattle.std.specs.List.{All}

-- a term is a list of bytes
abbrev pub Term : Type 0
Term = List ℕ

-- each number is a byte
abbrev pub AreBytes : List ℕ → Type 0
AreBytes = All (λ b. b < 256)
