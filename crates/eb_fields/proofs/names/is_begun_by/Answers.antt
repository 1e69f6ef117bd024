use Rattle.std.proofs.Common.{◌∙◌}
use Rattle.std.proofs.lemmas.Str.Pattern.{starts_text}
use Rattle.eb_fields.proofs.Listed.{colon_after}
use Rattle.eb_fields.proofs.names.is_begun_by.Goals as goal

pub returns-then-starts_with : goal.returns-then-starts_with
returns-then-starts_with c =
    let e = starts_text c.starts_with.result c.args.name.now c.args.text.now c.starts_with.ensures.cases in
    let k = rw c.if-starts_with.true at (colon_after c.starts_with.result c.args.text.now c.args.name.now e) in
    let h = rw c.as_bytes.ensures.value at c.has_colon_at.ensures in h ∙ k

pub returns-else-starts_with : goal.returns-else-starts_with
returns-else-starts_with c =
    let e = starts_text c.starts_with.result c.args.name.now c.args.text.now c.starts_with.ensures.cases in
    let k = rw c.if-starts_with.false at (colon_after c.starts_with.result c.args.text.now c.args.name.now e) in c.if-starts_with.false ∙ k
