use Rattle.std.proofs.Common.{◌≡◌, ℕ, List, ◌++◌, length, sym, ap, ap₂, subst, ◌∙◌}
use Rattle.run_store.specs.Rules.{Rules}
use Rattle.eb_base.specs.Document.{Doc}
use Rattle.eb_base.specs.Query.{Tree, tree}
use Rattle.eb_count.specs.Tallies.{AreCounts}
use Rattle.eb_cursor.specs.Frames.{query_of}
use Rattle.eb_query.specs.declared.ask.Ask.TheVariants.{Counts}
use Rattle.eb_lines.specs.declared.form.Form.{Form}
use Rattle.eb_lines.specs.Text.{count_line, asked_line}
use Rattle.eb_lines.proofs.Counted.{counted_as}
use Rattle.run_index.specs.declared.indexed.Indexed.{Indexed}
use Rattle.run_index.specs.Indexed.{IsIndexed}
use Rattle.run_index.proofs.indexed.Indexed.answer_counts.Goals as goal

pub returns-clause-ok : goal.returns-clause-ok
returns-clause-ok g c = λ rules docs none h few.
    let e = c.count-seen.ensures in
    let n = c.args.number in
    let q = tree c.args.query in
    let t = c.args.tally in
    let new = c.count-seen.new.tally in
    let before = c.args.text.now.items in
    let form : c.count-seen.new.self.form ≡ rules.form = ap (λ (s : Indexed). s.form) e.same ∙ sym (ap (λ (r : Rules (Unit {0})). r.form) h.by_rules) in
    let are : AreCounts q docs new = subst (λ (z : Tree). AreCounts z docs new) (ap query_of c.deref_mut.ensures.value ∙ c.in_ok-frame.ensures.query) (e.counts h.setting docs h.holds) in
    let line = counted_as rules.form n (length docs) q docs new t.start t.width (length t.buckets) e.start e.width e.number are in (
      subst (λ (s : Indexed). IsIndexed s rules docs none) (sym e.same) h,
      c.put_count.ensures.text ∙ ap (λ (x : List ℕ). x ++ count_line c.count-seen.new.self.form n c.count-seen.result c.total.result c.buckets-2.result.now) c.in_ok-reserve.ensures.items
          ∙ ap (λ (f : Form). before ++ count_line f n c.count-seen.result c.total.result c.buckets-2.result.now) form
          ∙ ap (λ (s : ℕ). before ++ count_line rules.form n s c.total.result c.buckets-2.result.now) (e.count h.setting docs h.holds)
          ∙ ap₂ (λ (s : ℕ) (xs : List ℕ). before ++ count_line rules.form n (length docs) s xs) c.total.ensures c.buckets-2.ensures ∙ ap (λ (x : List ℕ). before ++ x) line
          ∙ ap (λ (ds : List Doc). before ++ asked_line rules.form n (length docs) (Counts t.start t.width (length t.buckets)) q ds)
          (sym (ap (λ (r : Rules (Unit {0})). r.sees docs) h.by_rules)),
    )
