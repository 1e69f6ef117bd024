use Rattle.std.proofs.Common.{◌≡◌, [], ◌++◌, length, ap, ◌∙◌, arith}
use Rattle.eb_lines.proofs.TextOfForm.{json_watch, word_watch, watch_told}
use Rattle.eb_lines.proofs.writing.put_watches.Goals as goal

pub returns-then-form-clause-text : goal.returns-then-form-clause-text
returns-then-form-clause-text c =
    let ns = c.args.watches.now in
    let some : ns ≡ [] → ⊥ = λ e. grind (arith, ap length e, c.if-is_empty.ensures, c.if-is_empty.false) in
    c.put_watch_json.ensures.text ∙ ap (λ t. c.args.text.now.items ++ t) (json_watch c.args.form c.if-form.true c.args.number ns ∙ watch_told c.args.form c.args.number ns some)

pub returns-else-form-clause-text : goal.returns-else-form-clause-text
returns-else-form-clause-text c =
    let ns = c.args.watches.now in
    let some : ns ≡ [] → ⊥ = λ e. grind (arith, ap length e, c.if-is_empty.ensures, c.if-is_empty.false) in
    c.put_watch_words.ensures.text ∙ ap (λ t. c.args.text.now.items ++ t) (word_watch c.args.form c.if-form.false c.args.number ns ∙ watch_told c.args.form c.args.number ns some)
