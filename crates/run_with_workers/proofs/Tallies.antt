-- A tally that was cleared, and then counted.
use Rattle.std.proofs.Common.{◌≡◌, ℕ, ◌<◌, ◌^◌, List, length, replicate, ap, ◌∙◌}
use Rattle.std.proofs.lemmas.List.{length-replicate}
use Rattle.eb_base.specs.Document.{Doc}
use Rattle.eb_base.specs.Query.{Tree}
use Rattle.eb_count.specs.Tallies.{Numbers, HasCounted, AreCounts}
use Rattle.eb_count.proofs.Counting.{counts_are}
use Rattle.run_with_workers.specs.Offices.{HasBucketsOf}

abbrev pub cleared_of : Numbers → Numbers
cleared_of t = record { start = t.start; width = t.width; total = 0; buckets = replicate (length t.buckets) 0 }

pub has_buckets : (q : Tree) (docs : List Doc) (old cleared new : Numbers) → cleared ≡ cleared_of old → HasCounted q docs cleared new → HasBucketsOf old new
has_buckets q docs old cleared new is h = record {
  start = h.start ∙ ap (λ (t : Numbers). t.start) is;
  width = h.width ∙ ap (λ (t : Numbers). t.width) is;
  long = h.long ∙ ap (λ (t : Numbers). length t.buckets) is ∙ length-replicate {A = ℕ} (length old.buckets) 0;
}

pub cleared_counts : (q : Tree) (docs : List Doc) (old cleared new : Numbers) → cleared ≡ cleared_of old → length docs < 2 ^ 64 → HasCounted q docs cleared new → AreCounts q docs new
cleared_counts q docs old cleared new is few h =
    counts_are q docs cleared new (length old.buckets) few (ap (λ (t : Numbers). t.total) is) (ap (λ (t : Numbers). t.buckets) is) h
