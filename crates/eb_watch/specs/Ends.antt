-- Where terms that occur in their order from a place on end.
use Rattle.std.specs.Prelude.{◌≡◌, ◌≢◌, ◌⊎◌, ℕ, suc, ◌+◌, ◌<◌, ◌≤◌, nat_lt, eqb, if◌then◌else◌, List, [], ◌∷◌, length, drop, get_or}
use Rattle.eb_base.specs.Match.{Stand}

-- the end of a place from which they don't occur
abbrev pub none : ℕ
none = 18446744073709551615

-- the end of a term alone
abbrev pub first_end : ℕ → ℕ → ℕ → ℕ
first_end number place at = if eqb place number then at else none

-- the least of the ends
abbrev pub least : List ℕ → ℕ
least [] = none
least (e ∷ es) = if nat_lt (least es) e then least es else e

-- the end of terms that begin with one of this number, by the ends without it
abbrev pub stepped : ℕ → List ℕ → List ℕ → ℕ → ℕ
stepped number places ends at = if eqb (get_or places at 0) number then least (drop (suc at) ends) else none

-- some end is at most this many after its place
abbrev pub IsNear : List ℕ → ℕ → Type 0
IsNear ends reach = (k : ℕ) × (k < length ends) × (get_or ends k 0 ≢ none) × (get_or ends k 0 ≤ k + reach)

-- of each place of `terms` the least end of `ts`, or none
pub record AreEnds (terms ts : List (List ℕ)) (ends : List ℕ) : Type 0 where
  pub stand : (k : ℕ) → k < length terms → (get_or ends k 0 ≡ none) ⊎ Stand terms ts k (get_or ends k 0)
  pub lowest : (k l : ℕ) → Stand terms ts k l → get_or ends k 0 ≤ l
