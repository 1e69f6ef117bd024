use Rattle.std.proofs.Common.{sym, ap, ◌∙◌, subst, length}
use Rattle.eb_blend.specs.Frames.{Asks}
use Rattle.eb_blend.specs.Parts.{Parts}
use Rattle.run_over_parts.proofs.Placings.{answers_all, counts_all, found_few}
use Rattle.run_over_parts.proofs.store.Store.search.Goals as goal

pub returns-clause-count : goal.returns-clause-count
returns-clause-count g c = λ parts σ docs h few. counts_all c.args.self.now parts σ docs c.search_alone.result h few c.search_alone.ensures.count

pub returns-clause-ids : goal.returns-clause-ids
returns-clause-ids g c = λ parts σ docs q k h asks.
    answers_all c.args.self.now parts σ docs q k _ h
    (c.search_alone.ensures.ids q k (subst (λ n. Asks c.args.frame.now q k n) (sym (ap (λ (b : Parts). length b.indexes) h.blend ∙ h.number)) asks))

pub returns-clause-few : goal.returns-clause-few
returns-clause-few g c = λ parts σ docs q k h asks. found_few q k docs _ (returns-clause-ids g c parts σ docs q k h asks)
