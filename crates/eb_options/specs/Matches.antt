-- The options of a command as clap has them, and what its matches say.
use Rattle.std.specs.Prelude.{ℕ, List, Option, Some, None, codes, true, map, option_map}
use Rattle.clap.specs.Walk.{Rule, Row, Text, first_of}
use Rattle.clap.specs.Simple.{App, Shape, new_app, new_rule, on_top}
use Rattle.eb_options.specs.Numbers.{number}

-- an option with a value
abbrev pub option : Text → Rule
option name = record (new_rule name) { long = Some name }

-- without the flags for help and version, and with no program's name before the words
abbrev pub bare : Shape → Shape
bare s = record s { disable_help_flag = true; disable_version_flag = true; no_binary_name = true }

-- the command with these options, each taking one value
abbrev pub app : List Text → App
app names = on_top (λ s. record (bare s) { rules = map option names }) (new_app (codes "options"))

-- the number that the first text is, if there is one
abbrev pub read_first : Option Text → Option (Option ℕ)
read_first None = Some None
read_first (Some word) = option_map (λ n. Some n) (number 9 word)

-- the number of an option in the matches
abbrev pub number_at : List Row → Text → Option (Option ℕ)
number_at rows name = read_first (first_of name rows)
