-- What a source gives.
use Rattle.std.specs.Prelude.{◌≡◌, ℕ, ◌≤◌, List, [], ◌++◌, take, Option, Some, None, option_map}
use Rattle.eb_io.specs.declared.source.Got.{Got}
use Rattle.eb_io.specs.declared.source.Got.TheVariants.{Bytes, End, Failed}

-- these bytes, and then what is left, where that is known
abbrev pub after : List ℕ → Option (List ℕ) → Option (List ℕ)
after bytes left = option_map (λ rest. bytes ++ rest) left

-- how many bytes a read gave
abbrev pub got_count : Got → ℕ
got_count (Bytes n) = n
got_count End = 0
got_count Failed = 0

-- the bytes that a read gave: they are at the start of the buffer
abbrev pub got : Got → List ℕ → List ℕ
got (Bytes n) buffer = take n buffer
got End buffer = []
got Failed buffer = []

-- a read into n places gives from one to n bytes, or none at all
abbrev pub IsCount : ℕ → Got → Type 0
IsCount room (Bytes n) = (1 ≤ n) × (n ≤ room)
IsCount room End = Unit {0}
IsCount room Failed = Unit {0}

-- nothing is left, so far as that is known
abbrev pub IsEmpty : Option (List ℕ) → Type 0
IsEmpty None = Unit {0}
IsEmpty (Some bytes) = bytes ≡ []
