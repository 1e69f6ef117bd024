use Rattle.std.proofs.Common.{◌<◌, ◌^◌, ℕ, List, ◌++◌, length, sym, ap, ap₂, subst, ◌∙◌, arith}
use Rattle.run_store.specs.Rules.{Rules}
use Rattle.eb_base.specs.Document.{Doc}
use Rattle.eb_base.specs.Query.{Tree, tree}
use Rattle.eb_count.specs.Tallies.{HasCounted}
use Rattle.eb_query.specs.declared.ask.Ask.TheVariants.{Counts}
use Rattle.eb_lines.specs.declared.form.Form.{Form}
use Rattle.eb_lines.specs.Text.{count_line, asked_line}
use Rattle.eb_lines.proofs.Counted.{counted_anew}
use Rattle.run_over_parts.specs.declared.store.Store.{Store}
use Rattle.run_over_parts.specs.Stores.{Holds}
use Rattle.run_over_parts.proofs.parted.Parted.answer_counts.Goals as goal

pub put_count-requires : goal.put_count-requires
put_count-requires g c =
    let s = c.requires.state in
    let counts = c.in_ok-seen.ensures.counts c.args.self.now.number s.is.setting s.docs s.is.holds in
    omega (arith, c.in_ok-reserve.ensures.ok, c.in_ok-reserve.ensures.len, counts.long, ap length c.buckets-2.ensures, ap length c.buckets.ensures, c.line_room.ensures)

pub returns-clause-ok : goal.returns-clause-ok
returns-clause-ok g c = λ rules docs none h few.
    let parts = c.args.self.now.number in
    let n = c.args.number in
    let q = tree c.args.query in
    let t = c.args.tally in
    let cleared = c.clear.new.self in
    let new = c.count.new.tally in
    let before = c.args.text.now.items in
    let start = ap (λ (r : Rules (Unit {0})). length r.start) h.by_rules in
    let small : length docs < 2 ^ 64 = omega (arith, few, start) in
    let counts : HasCounted q docs cleared new = subst (λ (z : Tree). HasCounted z docs cleared new) c.in_ok-frame.ensures.query (c.in_ok-seen.ensures.counts parts h.setting docs h.holds) in
    let line = counted_anew rules.form n (length docs) q docs t cleared new small c.clear.ensures counts in
    let after = subst (λ (z : Store). Holds z parts h.setting docs) (sym c.in_ok-seen.ensures.store) h.holds in (
      record { dialect = h.dialect; setting = h.setting; by_rules = h.by_rules; holds = after },
      c.put_count.ensures.text ∙ ap (λ (x : List ℕ). x ++ count_line c.args.self.now.form n c.in_ok-seen.seen c.total.result c.buckets-2.result.now) c.in_ok-reserve.ensures.items
          ∙ ap (λ (f : Form). before ++ count_line f n c.in_ok-seen.seen c.total.result c.buckets-2.result.now) (sym (ap (λ (r : Rules (Unit {0})). r.form) h.by_rules))
          ∙ ap (λ (s : ℕ). before ++ count_line rules.form n s c.total.result c.buckets-2.result.now) (c.in_ok-seen.ensures.count parts h.setting docs h.holds small)
          ∙ ap₂ (λ (s : ℕ) (xs : List ℕ). before ++ count_line rules.form n (length docs) s xs) c.total.ensures c.buckets-2.ensures ∙ ap (λ (x : List ℕ). before ++ x) line
          ∙ ap (λ (ds : List Doc). before ++ asked_line rules.form n (length docs) (Counts t.start t.width (length t.buckets)) q ds)
          (sym (ap (λ (r : Rules (Unit {0})). r.sees docs) h.by_rules)),
    )
