-- What a sink takes.
use Rattle.std.specs.Prelude.{ℕ, List, ◌++◌, Option, option_map, Result, Ok, Err}

-- what was taken, where that is known, with these bytes after it
abbrev pub grown : Option (List ℕ) → List ℕ → Option (List ℕ)
grown taken bytes = option_map (λ front. front ++ bytes) taken

-- how many bytes a put took
abbrev pub put_count : {E : Type 0} → Result ℕ E → ℕ
put_count (Ok n) = n
put_count (Err e) = 0
