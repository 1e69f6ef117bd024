use Rattle.std.proofs.Common.{◌≡◌, ℕ, ◌<◌, ◌^◌, List, ◌++◌, length, replicate, take, sym, ap, ap₂, ◌∙◌, arith}
use Rattle.std.proofs.lemmas.List.{length-replicate}
use Rattle.std.proofs.Math.Seq.{take-length}
use Rattle.eb_base.specs.Document.{Doc}
use Rattle.eb_base.specs.Query.{Tree}
use Rattle.eb_count.specs.Tallies.{Numbers, HasCounted}
use Rattle.eb_cursor.specs.Frames.{query_of}
use Rattle.eb_query.specs.declared.ask.Ask.TheVariants.{Counts}
use Rattle.eb_lines.specs.declared.form.Form.{Form}
use Rattle.eb_lines.specs.Text.{count_line, asked_line}
use Rattle.eb_lines.proofs.Counted.{counted_anew}
use Rattle.eb_rounds.proofs.answering.count.Goals as goal

long_as : (old cleared new : Numbers) → cleared ≡ record { start = old.start; width = old.width; total = 0; buckets = replicate (length old.buckets) 0 } → length new.buckets ≡ length cleared.buckets
    → length new.buckets ≡ length old.buckets
long_as old cleared new is long = long ∙ ap (λ (t : Numbers). length t.buckets) is ∙ length-replicate {A = ℕ} (length old.buckets) 0

-- what is put is the line that is asked for, over all documents
put_as : (form : Form) (n seen : ℕ) (q : Tree) (docs : List Doc) (old cleared new : Numbers) (before after buckets : List ℕ) (total : ℕ) → after ≡ before ++ count_line form n seen total buckets
    → total ≡ new.total → buckets ≡ new.buckets → seen ≡ length docs → length docs < 2 ^ 64
    → cleared ≡ record { start = old.start; width = old.width; total = 0; buckets = replicate (length old.buckets) 0 } → HasCounted q docs cleared new
    → after ≡ before ++ asked_line form n (length docs) (Counts old.start old.width (length old.buckets)) q (take (length docs) docs)
put_as form n seen q docs old cleared new before after buckets total put sum each all few is counts =
    put ∙ ap₂ (λ (t : ℕ) (xs : List ℕ). before ++ count_line form n seen t xs) sum each
    ∙ ap (λ (x : List ℕ). before ++ x) (counted_anew form n seen q docs old cleared new few is counts)
    ∙ ap₂ (λ (s : ℕ) (ds : List Doc). before ++ asked_line form n s (Counts old.start old.width (length old.buckets)) q ds) all (sym (take-length docs))

pub put_count-requires : goal.put_count-requires
put_count-requires g c =
    let new = c.count_unmetered-seen.new.tally in
    let long = long_as c.args.tally.now c.clear.new.self new c.clear.ensures c.count_unmetered-seen.ensures.counts.long in
    omega (arith, c.requires.room, long, ap length c.buckets.ensures)

pub returns-clause-buckets : goal.returns-clause-buckets
returns-clause-buckets g c = long_as c.args.tally.now c.clear.new.self c.count_unmetered-seen.new.tally c.clear.ensures c.count_unmetered-seen.ensures.counts.long

pub returns-clause-len : goal.returns-clause-len
returns-clause-len g c =
    let new = c.count_unmetered-seen.new.tally in
    let long = long_as c.args.tally.now c.clear.new.self new c.clear.ensures c.count_unmetered-seen.ensures.counts.long in
    omega (arith, c.put_count.ensures.len, long, ap length c.buckets.ensures)

pub returns-clause-text : goal.returns-clause-text
returns-clause-text g c =
    let docs = c.count_unmetered-seen.new.self.docs in
    let e = c.count_unmetered-seen.ensures in
    let few : length docs < 2 ^ 64 = omega (arith, e.count) in
    put_as c.args.setup.now.form c.args.number c.count_unmetered-seen.result (query_of c.args.frame.now) docs c.args.tally.now c.clear.new.self c.count_unmetered-seen.new.tally c.args.text.now.items
    c.put_count.new.text.items c.buckets.result.now c.total.result c.put_count.ensures.text c.total.ensures c.buckets.ensures e.count few c.clear.ensures e.counts
