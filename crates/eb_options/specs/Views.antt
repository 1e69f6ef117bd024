-- Flags, options and words of the code as the definitions have them.
use Rattle.std.specs.Prelude.{ℕ, Bool, List, Option, map, option_map, string_bytes}
use Rattle.std.specs.Borrow.{Bor}
use Rattle.eb_options.specs.declared.items.Flag.{Flag}
use Rattle.eb_options.specs.declared.items.Number.{Number}
use Rattle.eb_options.specs.declared.split.Split.{Split}
use Rattle.eb_options.specs.declared.split.Value.{Value}
use Rattle.eb_options.specs.Items as words

abbrev pub flag_view : Flag → List ℕ × Bool
flag_view f = (string_bytes f.name, f.is_there)

abbrev pub number_view : Number → List ℕ × Option ℕ
number_view n = (string_bytes n.name, n.number)

abbrev pub value_view : Value → words.Value
value_view v = (string_bytes v.name, string_bytes v.text)

abbrev pub parts_view : Split → words.Parts
parts_view s = record { flags = map string_bytes s.flags.items; values = map value_view s.values.items }

-- the option that waits for its value
abbrev pub waiting : Split → Option (List ℕ)
waiting s = option_map string_bytes s.waits

abbrev pub item_view : Bor (List ℕ) × Option (Bor (List ℕ)) → List ℕ × Option (List ℕ)
item_view item = (item.0.now, option_map (λ (t : Bor (List ℕ)). t.now) item.1)
