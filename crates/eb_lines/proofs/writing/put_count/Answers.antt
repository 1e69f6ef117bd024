use Rattle.std.proofs.Common.{◌++◌, ap, ◌∙◌}
use Rattle.eb_lines.proofs.TextOfForm.{json_count, word_count}
use Rattle.eb_lines.proofs.writing.put_count.Goals as goal

pub returns-then-form-clause-text : goal.returns-then-form-clause-text
returns-then-form-clause-text c =
    c.put_count_json.ensures.text ∙ ap (λ t. c.args.text.now.items ++ t) (json_count c.args.form c.if-form.true c.args.number c.args.seen c.args.total c.args.buckets.now)

pub returns-else-form-clause-text : goal.returns-else-form-clause-text
returns-else-form-clause-text c =
    c.put_count_words.ensures.text ∙ ap (λ t. c.args.text.now.items ++ t) (word_count c.args.form c.if-form.false c.args.number c.args.seen c.args.total c.args.buckets.now)
