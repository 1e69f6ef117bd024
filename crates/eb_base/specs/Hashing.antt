-- The hash of a term.
use Rattle.std.specs.Prelude.{ℕ, ◌+◌, ◌*◌, ◌%◌, ◌^◌, List, fold}
use Rattle.eb_base.specs.Term.{Term}

-- the hash of bytes, some of which have this hash and the others follow
abbrev pub hashed : ℕ → List ℕ → ℕ
hashed h bytes = fold (λ h b. (h * 31 + b) % 2 ^ 32) h bytes

-- the hash of a term, of 32 bits
abbrev pub hash : Term → ℕ
hash t = hashed 0 t
