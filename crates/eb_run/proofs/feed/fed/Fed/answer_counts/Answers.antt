use Rattle.std.proofs.Common.{◌<◌, ◌^◌, ℕ, List, ◌++◌, length, sym, ap, ap₂, subst, ◌∙◌, arith}
use Rattle.run_store.specs.Rules.{Rules}
use Rattle.eb_base.specs.Document.{Doc}
use Rattle.eb_base.specs.Query.{Tree, tree}
use Rattle.eb_count.specs.Tallies.{HasCounted}
use Rattle.eb_feed.specs.Generations.{kept}
use Rattle.eb_feed.proofs.Generations.{kept_few}
use Rattle.eb_query.specs.declared.ask.Ask.TheVariants.{Counts}
use Rattle.eb_lines.specs.declared.form.Form.{Form}
use Rattle.eb_lines.specs.Text.{count_line, asked_line}
use Rattle.eb_lines.proofs.Counted.{counted_anew}
use Rattle.eb_run.proofs.feed.fed.Fed.answer_counts.Goals as goal

pub returns-clause-ok : goal.returns-clause-ok
returns-clause-ok g c = λ rules docs none h few.
    let n = c.args.number in
    let q = tree c.args.query in
    let t = c.args.tally in
    let cleared = c.clear.new.self in
    let new = c.count_unmetered-seen.new.tally in
    let before = c.args.text.now.items in
    let over = kept h.setting h.keep docs in
    let start = ap (λ (r : Rules (Unit {0})). length r.start) h.by_rules in
    let small : length over < 2 ^ 64 = omega (arith, few, start, kept_few h.setting h.keep docs) in
    let counts : HasCounted q over cleared new =
    subst (λ (z : Tree). HasCounted z over cleared new) c.in_ok-frame.ensures.query (c.count_unmetered-seen.ensures.counts h.setting h.keep docs h.fed) in
    let line = counted_anew rules.form n (length docs) q over t cleared new small c.clear.ensures counts in (
      record { dialect = h.dialect; setting = h.setting; keep = h.keep; by_rules = h.by_rules; fed = c.count_unmetered-seen.ensures.taken h.setting h.keep docs h.fed },
      c.put_count.ensures.text ∙ ap (λ (x : List ℕ). x ++ count_line c.args.self.now.form n c.count_unmetered-seen.result c.total.result c.buckets-2.result.now) c.in_ok-reserve.ensures.items
          ∙ ap (λ (f : Form). before ++ count_line f n c.count_unmetered-seen.result c.total.result c.buckets-2.result.now) (sym (ap (λ (r : Rules (Unit {0})). r.form) h.by_rules))
          ∙ ap (λ (s : ℕ). before ++ count_line rules.form n s c.total.result c.buckets-2.result.now) (c.count_unmetered-seen.ensures.seen h.setting h.keep docs h.fed)
          ∙ ap₂ (λ (s : ℕ) (xs : List ℕ). before ++ count_line rules.form n (length docs) s xs) c.total.ensures c.buckets-2.ensures ∙ ap (λ (x : List ℕ). before ++ x) line
          ∙ ap (λ (ds : List Doc). before ++ asked_line rules.form n (length docs) (Counts t.start t.width (length t.buckets)) q ds)
          (sym (ap (λ (r : Rules (Unit {0})). r.sees docs) h.by_rules)),
    )
