use Rattle.std.proofs.Common.{◌∙◌, ap₂}
use Rattle.clap.specs.Simple.{with_rule}
use Rattle.eb_options.proofs.Eachs.{app_all, app_more}
use Rattle.eb_options.proofs.matches.make_command.Goals as goal

pub loop-name-preserved : goal.loop-name-preserved
loop-name-preserved c =
    let one = c.in_ok-command.ensures.shape c.make_option.ensures.local ∙ ap₂ with_rule c.loop-name.invariant c.make_option.ensures.rule in
    one ∙ app_more c.args.names.now c.loop-name.name-index _ c.loop-name-test.true

pub returns : goal.returns
returns c = c.loop-name.invariant ∙ app_all c.args.names.now c.loop-name.name-index c.loop-name-test.false
