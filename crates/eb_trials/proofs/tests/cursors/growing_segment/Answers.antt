use Rattle.std.proofs.Common.{ap}
use Rattle.eb_base.specs.Setting.{Setting}
use Rattle.eb_trials.proofs.OneSegment.{held}
use Rattle.eb_trials.proofs.tests.cursors.growing_segment.Goals as goal

pub returns : goal.returns
returns c =
    let w = c.in_ok-port.ensures in
    let a = c.grow_by.ensures w.0 w.1 in
    (a.moment, a.stands, held w.0 a.moment _ _ a.stands.words.moment w.2 (ap (λ (σ : Setting). σ.segments) c.in_ok-config.ensures.ok) a.later)
