use Rattle.eb_fields.specs.Dialect.{dialect_of}
use Rattle.std.proofs.Common.{◌+◌, drop}
use Rattle.eb_base.specs.Query.{tree}
use Rattle.eb_query.specs.Head.{is_count}
use Rattle.eb_query.specs.Reading.{without_number}
use Rattle.eb_query.specs.Refusal.{IsRefusedWith}
use Rattle.eb_query.proofs.Asks.{asked, faulted, handed_on, within_by}
use Rattle.eb_query.proofs.Formed.{given_formed}
use Rattle.eb_query.proofs.read.read_ask.Goals as goal

pub returns-in_default-clause-refused : goal.returns-in_default-clause-refused
returns-in_default-clause-refused c = without_number c.in_default.ensures.none

pub returns-in_err-query-clause-refused : goal.returns-in_err-query-clause-refused
returns-in_err-query-clause-refused c =
    handed_on (IsRefusedWith (dialect_of c.args.dialect.now) c.args.line.now) c.in_err-query.field-0.0 c.from_residual.result c.from_residual.ensures.1
    (faulted (dialect_of c.args.dialect.now) c.args.line.now c.in-Some.head.ask c.in-Some.head.end c.in-Some.ensures.some c.in_err-query.field-0.0 c.in_err-query.ensures)

pub returns-clause-asks : goal.returns-clause-asks
returns-clause-asks c = asked (dialect_of c.args.dialect.now) c.args.line.now c.in-Some.head.ask c.in-Some.head.end c.in_ok-query.query c.in-Some.ensures.some c.in_ok-query.ensures

pub returns-clause-within : goal.returns-clause-within
returns-clause-within c = within_by (is_count (dialect_of c.args.dialect.now) c.args.line.now) c.args.line.now c.in-Some.head.ask c.in-Some.head.end c.in-Some.ensures.some

pub returns-clause-well_formed : goal.returns-clause-well_formed
returns-clause-well_formed c =
    given_formed c.in-Some.head.ask (dialect_of c.args.dialect.now) c.args.line.now (c.in-Some.head.end + 1) (drop c.in-Some.head.end c.args.line.now) (tree c.in_ok-query.query) c.in_ok-query.ensures
