use Rattle.eb_fields.specs.Dialect.{dialect_of}
use Rattle.std.proofs.Common.{ℕ, List, ◌++◌, sym, ap, ◌∙◌, subst}
use Rattle.run_images.specs.declared.saving.Saving.{Saving}
use Rattle.eb_lines.specs.Reading.{document}
use Rattle.run_images.specs.Saving.{TakesLine}
use Rattle.run_images.proofs.Savings.{takes_document, takes_full}
use Rattle.run_images.proofs.saving.Saving.save.Goals as goal
use Rattle.run_images.proofs.saving.Saving.save.Goals.{in-Ok, in-Err}

pub returns-clause-ok : goal.returns-clause-ok
returns-clause-ok g c = elim c.match-add.branch [
  | in-Ok w ↦
      let is = w.self-is in
      takes_document c.args.self.now c.match-add.self c.args.document.now c.args.text.now.items c.in_ok-part.part.items c.match-add.text.items w.in-Ok.ensures.ok.0
      (ap (λ (s : Saving _). dialect_of s.dialect) is) (ap (λ (s : Saving _). s.index) is) (ap (λ (s : Saving _). s.writer) is ∙ w.in-Ok.ensures.ok.1) (ap (λ (s : Saving _). s.number) is)
      (ap (λ (s : Saving _). s.refused) is) c.in_ok-part.ensures
      (ap (λ t. t.items) w.text-is ∙ w.put.ensures ∙ ap (λ t. t ++ w.deref.result.now) c.in_ok-reserve.ensures.items ∙ ap (λ b. c.args.text.now.items ++ b) w.deref.ensures.value)
  | in-Err w ↦
      let is = w.self-is in
      let T : List ℕ → Type 0 = λ t. TakesLine c.args.self.now c.match-add.self c.args.text.now.items t (document c.args.document.now) in
      subst T (sym (ap (λ t. t.items) w.text-is ∙ c.in_ok-reserve.ensures.items))
      (takes_full c.args.self.now c.match-add.self c.args.document.now c.args.text.now.items w.in-Err.ensures.full.0 (ap (λ (s : Saving _). dialect_of s.dialect) is)
      (ap (λ (s : Saving _). s.index) is)
      (ap (λ (s : Saving _). s.writer) is ∙ w.in-Err.ensures.full.1) (ap (λ (s : Saving _). s.number) is) (ap (λ (s : Saving _). s.refused) is))
]
