use Rattle.std.proofs.Common.{List, length, ap, ◌∙◌, sym, subst}
use Rattle.eb_base.specs.Document.{Doc}
use Rattle.eb_base.specs.Setting.{Setting}
use Rattle.eb_count.specs.Tallies.{HasCounted}
use Rattle.eb_cursor.specs.Frames.{query_of, k_of}
use Rattle.eb_flat.specs.Flat.{StandsFor}
use Rattle.eb_c.specs.declared.counting.Counting.{Counting}
use Rattle.eb_c.specs.Counting.{wanted, IsPrepared, CountsOver}
use Rattle.eb_c.proofs.Counted.{counted_over}
use Rattle.eb_c.proofs.Holdings.{begun_of}
use Rattle.eb_c.proofs.counting.count_read.Goals as goal

pub returns-in_default-clause-told : goal.returns-in_default-clause-told
returns-in_default-clause-told c docs h = absurd (c.in_default.ensures (begun_of _ _ docs h))

pub returns-in-Counts-clause-told : goal.returns-in-Counts-clause-told
returns-in-Counts-clause-told c docs h =
    let n = length c.args.buckets.now in
    let frame = c.in-Counts.frame in
    let tally = c.in-Counts.tally in
    let seen = c.count_words-seen in
    let st : StandsFor (record { setting = c.in-Some.config; words = c.args.words.now }) h.moment =
    subst (λ (σ : Setting). StandsFor (record { setting = σ; words = c.args.words.now }) h.moment) (sym c.in-Some.ensures.1) h.image in
    subst (λ (a : Counting). CountsOver (length docs) docs c.args.axis (wanted a) 0 c.put_counts.new.count c.args.buckets.now c.put_counts.new.buckets) (sym c.in-Counts.is)
    (counted_over c.args.axis n (length docs) seen.result (k_of frame) docs (query_of frame) tally seen.new.tally c.put_counts.new.count c.args.buckets.now c.put_counts.new.buckets
    (subst (λ (a : Counting). IsPrepared c.args.axis n a) c.in-Counts.is c.requires.prepared) (λ i. n)
    (subst (λ (ds : List Doc). HasCounted (query_of frame) ds tally seen.new.tally) h.accepted (seen.ensures.counts h.moment st))
    (seen.ensures.count h.moment st ∙ ap length h.accepted) c.put_counts.ensures.count c.put_counts.ensures.buckets)
