use Rattle.std.proofs.Common.{ap}
use Rattle.eb_base.specs.Setting.{Setting}
use Rattle.eb_place.proofs.LaterMoments.{later_self}
use Rattle.eb_trials.proofs.OneSegment.{held}
use Rattle.eb_trials.proofs.tests.cursors.one_segment.Goals as goal

pub returns : goal.returns
returns c =
    let w = c.in_ok-words.ensures in
    (w.0, w.1, held w.0 w.0 _ _ w.1.moment w.2 (ap (λ (σ : Setting). σ.segments) c.in_ok-config.ensures.ok) (later_self w.0))
