use Rattle.std.proofs.Common.{◌∙◌, sym}
use Rattle.eb_options.specs.Items.{texts}
use Rattle.eb_options.specs.Views.{parts_view}
use Rattle.eb_options.proofs.Splitting.{all_read, still_waits}
use Rattle.eb_options.proofs.split.split_words.Goals as goal

pub returns-then-is_some-clause-usage : goal.returns-then-is_some-clause-usage
returns-then-is_some-clause-usage c = λ _. still_waits (texts c.args.flags.now) (texts c.args.options.now) c.args.words.now c.loop-word.word-index c.loop-word-test.false _
    (parts_view c.loop-word.split) c.loop-word.split.waits c.loop-word.invariant (sym c.is_some.ensures ∙ c.if-is_some.true)

pub returns-clause-parts : goal.returns-clause-parts
returns-clause-parts c = all_read (texts c.args.flags.now) (texts c.args.options.now) c.args.words.now c.loop-word.word-index c.loop-word-test.false _
    (parts_view c.loop-word.split) c.loop-word.split.waits c.loop-word.invariant (sym c.is_some.ensures ∙ c.if-is_some.false)
