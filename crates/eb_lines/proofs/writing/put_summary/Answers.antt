use Rattle.std.proofs.Common.{◌++◌, ap₂, ◌∙◌}
use Rattle.eb_lines.proofs.TextOfForm.{json_summary, word_summary}
use Rattle.eb_lines.proofs.writing.put_summary.Goals as goal

pub returns-then-form-clause-ok : goal.returns-then-form-clause-ok
returns-then-form-clause-ok c =
    c.put_summary_json.ensures ∙ ap₂ (λ t u. t ++ u) c.in_ok-reserve.ensures.items (json_summary c.args.form c.if-form.true c.args.documents c.args.queries c.args.refused c.args.tail)

pub returns-else-form-clause-ok : goal.returns-else-form-clause-ok
returns-else-form-clause-ok c =
    c.put_summary_words.ensures ∙ ap₂ (λ t u. t ++ u) c.in_ok-reserve.ensures.items (word_summary c.args.form c.if-form.false c.args.documents c.args.queries c.args.refused c.args.tail)
