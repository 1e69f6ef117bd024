-- The counts of a tally are those that a line prints.
use Rattle.std.proofs.Common.{◌≡◌, ℕ, ◌<◌, ◌^◌, List, map, length, replicate, sym, ap, ap₂, ◌∙◌, arith}
use Rattle.std.specs.List.{range_with_len}
use Rattle.std.proofs.lemmas.List.{ext_get_or, length-replicate}
use Rattle.std.proofs.lemmas.List.FromFn.{length-map-range_with_len, get_or-map-range_with_len}
use Rattle.eb_base.specs.Document.{Doc}
use Rattle.eb_base.specs.Query.{Tree}
use Rattle.eb_count.specs.Counts.{bucket_count}
use Rattle.eb_count.specs.Tallies.{Numbers, HasCounted, AreCounts}
use Rattle.eb_count.proofs.Counting.{counts_are}
use Rattle.eb_query.specs.declared.ask.Ask.TheVariants.{Counts}
use Rattle.eb_lines.specs.declared.form.Form.{Form}
use Rattle.eb_lines.specs.Text.{bucket_counts, count_line, asked_line}

buckets_are : (q : Tree) (docs : List Doc) (t : Numbers) → AreCounts q docs t → t.buckets ≡ bucket_counts q t.start t.width (length t.buckets) docs
buckets_are q docs t are =
    let n = length t.buckets in
    let f : ℕ → ℕ = λ i. bucket_count q t.start t.width i docs in
    ext_get_or 0 t.buckets (map f (range_with_len 0 n)) (sym (length-map-range_with_len f 0 n))
    (λ i l. are.buckets i l ∙ sym (get_or-map-range_with_len f 0 n i i 0 l (omega arith)))

counted_line : (form : Form) (number seen : ℕ) (q : Tree) (docs : List Doc) (t : Numbers) → AreCounts q docs t
    → count_line form number seen t.total t.buckets ≡ asked_line form number seen (Counts t.start t.width (length t.buckets)) q docs
counted_line form number seen q docs t are = ap₂ (λ total buckets. count_line form number seen total buckets) are.total (buckets_are q docs t are)

-- where the buckets are those that were asked for
pub counted_as : (form : Form) (number seen : ℕ) (q : Tree) (docs : List Doc) (t : Numbers) (x w n : ℕ) → t.start ≡ x → t.width ≡ w → length t.buckets ≡ n → AreCounts q docs t
    → count_line form number seen t.total t.buckets ≡ asked_line form number seen (Counts x w n) q docs
counted_as form number seen q docs t x w n start width long are =
    counted_line form number seen q docs t are ∙ ap₂ (λ y v. asked_line form number seen (Counts y v (length t.buckets)) q docs) start width
    ∙ ap (λ m. asked_line form number seen (Counts x w m) q docs) long

-- from a tally that was cleared before
pub counted_anew : (form : Form) (number seen : ℕ) (q : Tree) (docs : List Doc) (old cleared new : Numbers) → length docs < 2 ^ 64
    → cleared ≡ record { start = old.start; width = old.width; total = 0; buckets = replicate (length old.buckets) 0 } → HasCounted q docs cleared new
    → count_line form number seen new.total new.buckets ≡ asked_line form number seen (Counts old.start old.width (length old.buckets)) q docs
counted_anew form number seen q docs old cleared new few is counts =
    counted_as form number seen q docs new old.start old.width (length old.buckets) (counts.start ∙ ap (λ (t : Numbers). t.start) is)
    (counts.width ∙ ap (λ (t : Numbers). t.width) is)
    (counts.long ∙ ap (λ (t : Numbers). length t.buckets) is ∙ length-replicate {A = ℕ} (length old.buckets) 0)
    (counts_are q docs cleared new (length old.buckets) few (ap (λ (t : Numbers). t.total) is) (ap (λ (t : Numbers). t.buckets) is) counts)
