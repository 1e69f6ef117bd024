use Rattle.std.proofs.Common.{ap, ◌∙◌}
use Rattle.eb_table.specs.Known.{Words}
use Rattle.eb_engine.specs.Tokens.{HistoryToken}
use Rattle.eb_engine.proofs.Alone.{bounded_alone, and_bounded_alone}
use Rattle.eb_engine.proofs.Knows.{stays}
use Rattle.eb_engine.proofs.writer.Writer.search_likely.Goals as goal

pub invariant_of-self : goal.invariant_of-self
invariant_of-self g c = let e = c.search_alone_likely.ensures in stays _ _ _ _ e.made.moment e.later e.documents c.self.invariant

pub returns-clause-loads : goal.returns-clause-loads
returns-clause-loads g c = λ t is.
    let e = c.search_alone_likely.ensures in
    let here = ap (λ (w : Words). w.setting) (ap (λ (t : HistoryToken). t.index) c.self.view_is ∙ c.requires) in
    bounded_alone _ c.search_alone_likely.new.seat.moment _ here e.documents c.self.invariant.1.idle c.args.likely _ _ t _ _ _ c.self.invariant.2 e.count (e.loads t is)

pub returns-clause-rounds : goal.returns-clause-rounds
returns-clause-rounds g c = λ ts is.
    let e = c.search_alone_likely.ensures in
    let here = ap (λ (w : Words). w.setting) (ap (λ (t : HistoryToken). t.index) c.self.view_is ∙ c.requires) in
    and_bounded_alone _ c.search_alone_likely.new.seat.moment _ here e.documents c.self.invariant.1.idle c.args.likely _ ts _ _ _ e.count (e.rounds ts is)
