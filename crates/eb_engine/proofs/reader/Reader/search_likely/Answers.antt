use Rattle.std.proofs.Common.{ℕ, ◌≤◌, List, ap, ◌∙◌, subst}
use Rattle.eb_place.proofs.LaterMoments.{later_on}
use Rattle.eb_table.specs.Known.{Words}
use mathlib.Core.List.{IsPrefix}
use Rattle.eb_base.specs.Document.{Doc}
use Rattle.eb_engine.specs.Tokens.{HistoryToken, first_of}
use Rattle.eb_engine.proofs.Bounded.{bounded, and_bounded, counted_then}
use Rattle.eb_engine.proofs.Knows.{finds_more_likely, finds_likely, front_of}
use Rattle.eb_engine.proofs.reader.Reader.search_likely.Goals as goal

pub returns-clause-known : goal.returns-clause-known
returns-clause-known g c =
    let now = c.search_words_likely-count.new.seat in
    subst (λ (docs : List Doc). IsPrefix docs (first_of c.search_words_likely-count.result now)) (ap (λ (t : HistoryToken). t.docs) c.self.view_is)
    (finds_more_likely c.self.inside.seat now c.self.inside.seen c.search_words_likely-count.result _ _ _ _ c.self.invariant.1 c.search_words_likely-count.ensures.answer)

pub returns-clause-ids : goal.returns-clause-ids
returns-clause-ids g c = λ none.
    let e = c.search_words_likely-count.ensures in
    finds_likely _ c.search_words_likely-count.new.seat c.args.index.now.setting c.search_words_likely-count.result _ _ _ _
    (e.made.setting ∙ ap (λ (w : Words). w.setting) c.index.view_is) e.answer none

pub returns-clause-loads : goal.returns-clause-loads
returns-clause-loads g c = λ t is.
    let was = c.self.inside.seat.moment in
    let e = c.search_words_likely-count.ensures in
    let knew = subst (λ (docs : List Doc). IsPrefix docs was.documents.accepted) (ap (λ (t : HistoryToken). t.docs) c.self.view_is) (front_of c.self.inside.seen was.documents.accepted) in
    let packed = subst (λ (k : ℕ). k ≤ was.conversions.converted) (ap (λ (t : HistoryToken). t.converted) c.self.view_is) c.self.invariant.2 in
    bounded c.args.likely was _ _ _ e.made.moment (e.made.setting ∙ ap (λ (w : Words). w.setting) c.index.view_is) (counted_then _ _ _ e.answer.count e.answer.before)
    _ _ t _ _ _ (later_on _ _ _ e.answer.after e.answer.before) knew packed (e.loads t is)

pub returns-clause-rounds : goal.returns-clause-rounds
returns-clause-rounds g c = λ ts is.
    let e = c.search_words_likely-count.ensures in
    and_bounded c.args.likely c.self.inside.seat.moment _ _ _ e.made.moment (e.made.setting ∙ ap (λ (w : Words). w.setting) c.index.view_is)
    (counted_then _ _ _ e.answer.count e.answer.before) ts _ _ _ (e.rounds ts is)
