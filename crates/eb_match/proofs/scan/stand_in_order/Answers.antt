use Rattle.std.proofs.Common.{◌∙◌, sym, arith}
use Rattle.eb_match.proofs.Windows.{at_the_end}
use Rattle.eb_match.proofs.scan.stand_in_order.Goals as goal

pub returns : goal.returns
returns c = c.is_empty.ensures ∙ sym (at_the_end c.loop-term.left.now c.args.terms.now c.loop-term.term-index (omega arith)) ∙ c.loop-term.invariant
