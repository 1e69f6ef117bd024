use Rattle.std.proofs.Common.{◌≡◌, ap, ◌∙◌, sym, false}
use Rattle.eb_base.specs.Query.{tree}
use Rattle.eb_fields.specs.Dialect.{Dialect, dialect_of}
use Rattle.eb_query.proofs.OneOutcome.{newest_alone}
use Rattle.eb_query.proofs.read.read_query_with.Goals as goal

pub unreachable-requires : goal.unreachable-requires
unreachable-requires c =
    let none : (dialect_of c.uncounted.result).counts ≡ false = ap (λ (how : Dialect). how.counts) c.uncounted.ensures in
    let found = newest_alone (dialect_of c.uncounted.result) c.args.line.now c.in-Ok-Counts-default.field-0-0 (tree c.in-Ok-Counts-default.field-0-1) none c.in-Ok-Counts-default.ensures.asks in
    let same = sym c.in-Ok-Counts-default.field-0-0-is ∙ found.1 in
    cc
