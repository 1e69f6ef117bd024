use Rattle.std.proofs.Common.{◌≡◌, ◌++◌, drop, map, option_map, string_bytes, List, ℕ, Bool}
use Rattle.eb_options.specs.Items.{flag_in, texts, with_each}
use Rattle.eb_options.specs.Views.{flag_view}
use Rattle.eb_options.proofs.items.read_flags.Given as goal

abbrev pub invariant-loop-name : goal.invariant-loop-name
invariant-loop-name l = with_each (flag_in (map string_bytes l.words)) (texts l.fn.names)
    ≡ option_map (λ (more : List (List ℕ × Bool)). map flag_view l.flags.items ++ more) (with_each (flag_in (map string_bytes l.words)) (texts (drop l.name-index l.fn.names)))
