use Rattle.std.proofs.Common.{◌≡◌, ◌++◌, drop, map, option_map, List, ℕ, Option}
use Rattle.clap.specs.Walk.{rows_of}
use Rattle.clap.specs.Words.{found_of}
use Rattle.eb_options.specs.Items.{texts, with_each}
use Rattle.eb_options.specs.Matches.{number_at}
use Rattle.eb_options.specs.Views.{number_view}
use Rattle.eb_options.proofs.items.read_numbers.Given as goal

abbrev pub invariant-loop-name : goal.invariant-loop-name
invariant-loop-name l = with_each (number_at (rows_of (found_of l.matches))) (texts l.fn.names)
    ≡ option_map (λ (more : List (List ℕ × Option ℕ)). map number_view l.numbers.items ++ more) (with_each (number_at (rows_of (found_of l.matches))) (texts (drop l.name-index l.fn.names)))
