-- A key as it is in memory.
use Rattle.std.specs.Prelude.{ℕ, List, Option, option_map}
use Rattle.std.specs.declared.vec.Vec.{Vec}

-- the terms of the key
abbrev pub key_terms : {Z : Type 0} → Option (Vec (List ℕ) Z) → Option (List (List ℕ))
key_terms key = option_map (λ v. v.items) key
