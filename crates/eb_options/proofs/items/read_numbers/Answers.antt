use Rattle.std.proofs.Common.{◌∙◌, sym, map}
use Rattle.clap.specs.Walk.{rows_of}
use Rattle.clap.specs.Words.{found_of}
use Rattle.eb_options.specs.Matches.{number_at}
use Rattle.eb_options.specs.Views.{number_view}
use Rattle.eb_options.proofs.Eachs.{each_ends, each_goes, each_stops}
use Rattle.eb_options.proofs.items.read_numbers.Goals as goal

pub returns-in_default-clause-usage : goal.returns-in_default-clause-usage
returns-in_default-clause-usage c = λ e. each_stops (number_at (rows_of (found_of c.args.matches.now))) c.args.names.now c.loop-name.name-index _ _
    (map number_view c.loop-name.numbers.items) c.loop-name-test.true
    (sym c.find_number.ensures ∙ c.in_default.is) c.loop-name.invariant

pub loop-name-preserved : goal.loop-name-preserved
loop-name-preserved c = each_goes (number_at (rows_of (found_of c.args.matches.now))) c.args.names.now c.loop-name.name-index _ _
    (map number_view c.loop-name.numbers.items) _ c.in-Some.number c.loop-name-test.true
    (sym c.find_number.ensures ∙ c.in-Some.is) c.in-Ok.ensures c.loop-name.invariant

pub returns-clause-numbers : goal.returns-clause-numbers
returns-clause-numbers c = each_ends (number_at (rows_of (found_of c.args.matches.now))) c.args.names.now c.loop-name.name-index _
    (map number_view c.loop-name.numbers.items) c.loop-name-test.false c.loop-name.invariant
