use Rattle.std.proofs.Common.{ap, arith}
use Rattle.eb_engine.specs.Tokens.{HistoryToken}
use Rattle.eb_place.proofs.Prefixes.{prefix_self}
use Rattle.eb_search.proofs.Beginnings.{cut_short}
use Rattle.eb_engine.proofs.writer.Writer.segments.Goals as goal

pub returns-clause-few : goal.returns-clause-few
returns-clause-few c =
    let m = c.self.inside.seat.moment in
    let i = c.self.invariant in
    omega (arith, c.segments.ensures.cut m i.1, cut_short m m.documents.accepted i.0 (prefix_self m.documents.accepted), ap (λ (t : HistoryToken). t.index.setting.segments) c.self.view_is)
