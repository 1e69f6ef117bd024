use Rattle.std.proofs.Common.{◌≡◌, true, ap, ◌∙◌}
use Rattle.eb_fields.specs.Dialect.{dialect_of}
use Rattle.eb_query.specs.Head.{begins_query}
use Rattle.eb_lines.proofs.LineKinds.{kind_query, kind_bad}
use Rattle.eb_lines.proofs.kind.query_kind.Goals as goal

pub returns-in_default : goal.returns-in_default
returns-in_default c = kind_bad (dialect_of c.args.dialect) c.args.bytes.now c.requires c.in_default.ensures.cases.0

pub returns : goal.returns
returns c =
    let how = dialect_of c.args.dialect in
    let bytes = c.args.bytes.now in
    let mark : begins_query how bytes ≡ true = c.requires in
    let same = c.in-Ok.ensures.cases.0 in
    (kind_query how bytes mark c.in-Ok.ensures.cases.1, same, ap (begins_query how) same ∙ mark)
