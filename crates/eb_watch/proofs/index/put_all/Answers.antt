use Rattle.std.proofs.Common.{◌==◌, ◌∙◌, bytes_eq}
use Rattle.eb_watch.specs.Index.{leads}
use Rattle.eb_watch.proofs.Numbers.{on_err}
use Rattle.eb_watch.proofs.Gather.{not_yet}
use Rattle.eb_watch.proofs.index.put_all.Goals as goal

pub returns-in_err-put_number-clause-err : goal.returns-in_err-put_number-clause-err
returns-in_err-put_number-clause-err c =
    on_err c.from_residual.result
    (λ t n h. c.in_err-put_number.ensures.err t n ∙ c.loop-term.invariant t n
    ∙ not_yet (n == c.args.number) (leads c.args.by_term.now t n) (bytes_eq t) c.args.terms.now c.loop-term.term-index h)
