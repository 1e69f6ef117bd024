use Rattle.std.proofs.Common.{◌++◌, ap, ◌∙◌}
use Rattle.eb_lines.proofs.TextOfForm.{json_refusal, word_refusal}
use Rattle.eb_lines.proofs.writing.put_refusal.Goals as goal

pub returns-then-form-clause-text : goal.returns-then-form-clause-text
returns-then-form-clause-text c =
    c.put_refusal_json.ensures.text ∙ ap (λ t. c.args.text.now.items ++ t) (json_refusal c.args.form c.if-form.true c.args.number c.args.refusal)

pub returns-else-form-clause-text : goal.returns-else-form-clause-text
returns-else-form-clause-text c =
    c.put_refusal_words.ensures.text ∙ ap (λ t. c.args.text.now.items ++ t) (word_refusal c.args.form c.if-form.false c.args.number c.args.refusal)
