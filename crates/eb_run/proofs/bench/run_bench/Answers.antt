use Rattle.std.proofs.Common.{List, subst, sym, arith}
use Rattle.eb_io.specs.Lines.{Line}
use Rattle.eb_run.specs.Bench.{PrintsFigures}
use Rattle.eb_run.proofs.Benches.{figures_none}
use Rattle.eb_run.proofs.MadeLines.{made_lines}
use Rattle.eb_run.proofs.bench.run_bench.Goals as goal

pub returns-in_default-clause-printed : goal.returns-in_default-clause-printed
returns-in_default-clause-printed g c = figures_none _ _

pub returns-clause-printed : goal.returns-clause-printed
returns-clause-printed g c =
    let P : List Line → Type 0 = λ ls. PrintsFigures c.print.result ls (g.K.Sink.taken c.args.out.now) (g.K.Sink.taken c.print.new.out) in
    subst P (sym (made_lines c.args.start c.args.docs (omega (arith, c.requires)))) (c.print.ensures.printed _ c.in-Ok.ensures)
