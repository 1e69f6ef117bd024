use Rattle.std.proofs.Common.{ℕ, ◌≤◌, List, ap, ◌∙◌, subst}
use Rattle.eb_place.proofs.LaterMoments.{later_on}
use mathlib.Core.List.{IsPrefix}
use Rattle.eb_base.specs.Document.{Doc}
use Rattle.eb_table.specs.Known.{Words}
use Rattle.eb_engine.specs.Tokens.{HistoryToken, first_of}
use Rattle.eb_engine.proofs.Bounded.{bounded, counted_then}
use Rattle.eb_engine.proofs.Knows.{front_of, counts_more, counts_front_likely}
use Rattle.eb_engine.proofs.reader.Reader.count_likely.Goals as goal

pub returns-clause-known : goal.returns-clause-known
returns-clause-known g c =
    let now = c.count_words_likely-count.new.seat in
    let s = c.count_words_likely-count.ensures.counts in
    subst (λ (docs : List Doc). IsPrefix docs (first_of c.count_words_likely-count.result now)) (ap (λ (t : HistoryToken). t.docs) c.self.view_is)
    (counts_more c.self.inside.seat now c.self.inside.seen c.count_words_likely-count.result s.loaded c.self.invariant.1 s.after s.before s.count)

pub returns-clause-counts : goal.returns-clause-counts
returns-clause-counts g c = λ none.
    let e = c.count_words_likely-count.ensures in
    counts_front_likely _ c.count_words_likely-count.new.seat c.args.index.now.setting c.count_words_likely-count.result _ _ _ _
    (e.made.setting ∙ ap (λ (w : Words). w.setting) c.index.view_is) e.counts none

pub returns-clause-loads : goal.returns-clause-loads
returns-clause-loads g c = λ t is.
    let was = c.self.inside.seat.moment in
    let e = c.count_words_likely-count.ensures in
    let knew = subst (λ (docs : List Doc). IsPrefix docs was.documents.accepted) (ap (λ (t : HistoryToken). t.docs) c.self.view_is) (front_of c.self.inside.seen was.documents.accepted) in
    let packed = subst (λ (k : ℕ). k ≤ was.conversions.converted) (ap (λ (t : HistoryToken). t.converted) c.self.view_is) c.self.invariant.2 in
    bounded c.args.likely was _ _ _ e.made.moment (e.made.setting ∙ ap (λ (w : Words). w.setting) c.index.view_is) (counted_then _ _ _ e.counts.count e.counts.before)
    _ _ t _ _ _ (later_on _ _ _ e.counts.after e.counts.before) knew packed (e.loads t is)
