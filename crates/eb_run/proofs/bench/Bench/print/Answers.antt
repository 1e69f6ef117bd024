use Rattle.eb_run.specs.Bench.{usual}
use Rattle.eb_lines.specs.Progress.{accepted}
use Rattle.eb_run.proofs.Benches.{figures_are}
use Rattle.eb_run.proofs.bench.Bench.print.Goals as goal

pub returns-clause-printed : goal.returns-clause-printed
returns-clause-printed g c = λ lines h. (
  h.readings,
  h.read,
  figures_are h.readings c.print_figures.result _ _ _ _ _ _ _ (c.accepted-documents.ensures usual (accepted h.readings) h.holds) h.queries h.refused h.ids h.sum c.print_figures.ensures.printed,
)
