use Rattle.std.proofs.Common.{◌≡◌, ℕ, length, sym, ap, subst, ◌∙◌}
use Rattle.std.specs.Prelude.{OnOk}
use Rattle.std.proofs.lemmas.List.{length-replicate}
use Rattle.run_store.specs.Stores.{PutsAnswer}
use Rattle.eb_base.specs.Query.{tree}
use Rattle.eb_count.specs.Tallies.{Numbers}
use Rattle.eb_query.specs.declared.ask.Ask.{Ask}
use Rattle.eb_query.specs.declared.ask.Ask.TheVariants.{Counts}
use Rattle.run_index.specs.Indexed.{IsIndexed}
use Rattle.run_index.proofs.indexed.IndexedStore.answer.Goals as goal

pub returns-in-Newest-clause-ok : goal.returns-in-Newest-clause-ok
returns-in-Newest-clause-ok g c =
    subst (λ (a : Ask). OnOk c.answer_newest.result (PutsAnswer IsIndexed c.args.self.now c.answer_newest.new.self c.args.number a (tree c.args.query)
    c.args.text.now.items c.answer_newest.new.text.items)) (sym c.in-Newest.is) c.answer_newest.ensures.ok

pub returns-in_ok-tally-in-Counts-clause-ok : goal.returns-in_ok-tally-in-Counts-clause-ok
returns-in_ok-tally-in-Counts-clause-ok g c =
    let asked : Counts c.in_ok-tally-in-Counts.tally.start c.in_ok-tally-in-Counts.tally.width (length c.in_ok-tally-in-Counts.tally.buckets) ≡ c.args.ask =
    ap (λ (t : Numbers). Counts t.start t.width (length t.buckets)) c.in_ok-tally-in-Counts.ensures
    ∙ ap (λ (n : ℕ). Counts c.in-Counts.start c.in-Counts.width n) (length-replicate {A = ℕ} c.in-Counts.buckets 0) ∙ sym c.in-Counts.is in
    subst (λ (a : Ask). OnOk c.answer_counts.result (PutsAnswer IsIndexed c.args.self.now c.answer_counts.new.self c.args.number a (tree c.args.query)
    c.args.text.now.items c.answer_counts.new.text.items)) asked c.answer_counts.ensures.ok
