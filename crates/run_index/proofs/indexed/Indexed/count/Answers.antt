use Rattle.std.proofs.Common.{◌≡◌, ℕ, ◌<◌, ◌^◌, List, length, ap, subst, ◌∙◌, arith}
use Rattle.std.proofs.lemmas.List.{length-replicate}
use Rattle.eb_base.specs.Document.{Doc}
use Rattle.eb_count.specs.Tallies.{Numbers, HasCounted}
use Rattle.eb_count.proofs.Counting.{counts_are}
use Rattle.eb_cursor.specs.Frames.{query_of}
use Rattle.eb_engine.specs.Tokens.{HistoryToken}
use Rattle.run_index.proofs.indexed.Indexed.count.Goals as goal

pub returns-clause-start : goal.returns-clause-start
returns-clause-start g c = c.count_all.ensures.counts.start ∙ ap (λ (t : Numbers). t.start) c.clear.ensures

pub returns-clause-width : goal.returns-clause-width
returns-clause-width g c = c.count_all.ensures.counts.width ∙ ap (λ (t : Numbers). t.width) c.clear.ensures

pub returns-clause-number : goal.returns-clause-number
returns-clause-number g c =
    c.count_all.ensures.counts.long ∙ ap (λ (t : Numbers). length t.buckets) c.clear.ensures ∙ length-replicate {A = ℕ} (length c.args.tally.now.buckets) 0

pub returns-clause-counts : goal.returns-clause-counts
returns-clause-counts g c = λ σ docs h.
    let q = query_of c.args.frame.now in
    let e = c.count_all.ensures in
    let all : c.count_all.new.writer.docs ≡ docs = ap (λ (w : HistoryToken). w.docs) e.writer ∙ h.documents in
    let few : length docs < 2 ^ 64 = omega (arith, e.count, ap length all) in
    let counted : HasCounted q docs c.clear.new.self c.count_all.new.tally = subst (λ (z : List Doc). HasCounted q z c.clear.new.self c.count_all.new.tally) all e.counts in
    counts_are q docs c.clear.new.self c.count_all.new.tally (length c.args.tally.now.buckets) few
    (ap (λ (t : Numbers). t.total) c.clear.ensures) (ap (λ (t : Numbers). t.buckets) c.clear.ensures) counted
