use Rattle.std.proofs.Common.{◌∙◌, sym, map, string_bytes}
use Rattle.eb_options.specs.Items.{flag_in}
use Rattle.eb_options.specs.Views.{flag_view}
use Rattle.eb_options.proofs.Eachs.{each_ends, each_goes, each_stops}
use Rattle.eb_options.proofs.items.read_flags.Goals as goal

pub returns-in_default-clause-usage : goal.returns-in_default-clause-usage
returns-in_default-clause-usage c = λ e. each_stops (flag_in (map string_bytes c.args.words.now)) c.args.names.now c.loop-name.name-index _ _
    (map flag_view c.loop-name.flags.items) c.loop-name-test.true
    (sym c.find_flag.ensures ∙ c.in_default.is) c.loop-name.invariant

pub loop-name-preserved : goal.loop-name-preserved
loop-name-preserved c = each_goes (flag_in (map string_bytes c.args.words.now)) c.args.names.now c.loop-name.name-index _ _
    (map flag_view c.loop-name.flags.items) _ c.in-Some.is_there c.loop-name-test.true
    (sym c.find_flag.ensures ∙ c.in-Some.is) c.in-Ok.ensures c.loop-name.invariant

pub returns-clause-flags : goal.returns-clause-flags
returns-clause-flags c = each_ends (flag_in (map string_bytes c.args.words.now)) c.args.names.now c.loop-name.name-index _
    (map flag_view c.loop-name.flags.items) c.loop-name-test.false c.loop-name.invariant
