use Rattle.std.proofs.Common.{List, sym, subst}
use Rattle.eb_io.specs.Lines.{Line}
use Rattle.eb_run.specs.Bench.{HasCounted}
use Rattle.eb_run.proofs.MadeLines.{until_none}
use Rattle.eb_run.proofs.bench.count_made.Goals as goal

pub loop-number-init : goal.loop-number-init
loop-number-init g c =
    let H : List Line → Type 0 = HasCounted c.in_ok-bench.bench in
    subst H (sym (until_none c.args.start c.args.docs)) c.in_ok-bench.ensures
