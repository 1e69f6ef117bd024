use Rattle.std.proofs.Common.{◌<◌, ℕ, List, ◌++◌, length, sym, ap, ap₂, subst, ◌∙◌, arith}
use Rattle.std.specs.Prelude.{◌^◌}
use Rattle.run_store.specs.Rules.{Rules}
use Rattle.eb_base.specs.Match.{answer}
use Rattle.eb_base.specs.Query.{tree}
use Rattle.eb_blend.specs.Frames.{Asks}
use Rattle.eb_blend.specs.Parts.{Parts}
use Rattle.eb_lines.specs.declared.form.Form.{Form}
use Rattle.eb_lines.specs.Text.{answer_line}
use Rattle.run_over_parts.specs.declared.store.Store.{Store}
use Rattle.run_over_parts.specs.Stores.{Holds}
use Rattle.run_over_parts.proofs.parted.Parted.answer_newest.Goals as goal

pub search-seen-requires-clause-frame : goal.search-seen-requires-clause-frame
search-seen-requires-clause-frame g c =
    let h = c.requires.state.is.holds in
    let parts = ap (λ (b : Parts). length b.indexes) h.blend ∙ h.number in
    (tree c.args.query, c.args.k, subst (λ (n : ℕ). Asks c.in_ok-frame.frame (tree c.args.query) c.args.k n) (sym parts) c.in_ok-frame.ensures.asks)

pub put_answer-requires : goal.put_answer-requires
put_answer-requires g c =
    let s = c.requires.state in
    let n = c.args.self.now.number in
    let few = c.search-seen.ensures.few n s.is.setting s.docs (tree c.args.query) c.args.k s.is.holds c.in_ok-frame.ensures.asks in
    let ids = ap length c.ids.ensures in
    omega (arith, c.in_ok-reserve.ensures.ok, c.in_ok-reserve.ensures.len, few, ids)

pub returns-clause-ok : goal.returns-clause-ok
returns-clause-ok g c = λ rules docs none h few.
    let n = c.args.self.now.number in
    let start = ap (λ (r : Rules (Unit {0})). length r.start) h.by_rules in
    let small : length docs < 2 ^ 64 = omega (arith, few, start) in
    let found = c.ids.ensures ∙ c.search-seen.ensures.ids n h.setting docs (tree c.args.query) c.args.k h.holds c.in_ok-frame.ensures.asks in
    let after = subst (λ (z : Store). Holds z n h.setting docs) (sym c.search-seen.ensures.store) h.holds in (
      record { dialect = h.dialect; setting = h.setting; by_rules = h.by_rules; holds = after },
      c.put_answer.ensures.text ∙ ap (λ (t : List ℕ). t ++ answer_line c.args.self.now.form c.args.number c.search-seen.result c.ids.result.now) c.in_ok-reserve.ensures.items
          ∙ ap (λ (f : Form). c.args.text.now.items ++ answer_line f c.args.number c.search-seen.result c.ids.result.now) (sym (ap (λ (r : Rules (Unit {0})). r.form) h.by_rules))
          ∙ ap₂ (λ (s : ℕ) (xs : List ℕ). c.args.text.now.items ++ answer_line rules.form c.args.number s xs) (c.search-seen.ensures.count n h.setting docs h.holds small)
          (found ∙ ap (λ (r : Rules (Unit {0})). answer (tree c.args.query) c.args.k (r.sees docs)) (sym h.by_rules)),
    )
