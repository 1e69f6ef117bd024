use Rattle.eb_fields.specs.Dialect.{dialect_of}
use Rattle.std.proofs.Common.{Option, None, Some}
use Rattle.std.specs.Prelude.{option_map, IfSome}
use Rattle.eb_base.specs.declared.query.Query.{Query}
use Rattle.eb_base.specs.Query.{tree, IsWellFormed}
use Rattle.run_with_watches.specs.Others.{IsFormed}
use Rattle.run_with_watches.proofs.OtherLines.{reads_asked, reads_refused}
use Rattle.run_with_watches.proofs.other.read_text.Goals as goal

is_formed : (o : Option Query) → IfSome o (λ q. IsWellFormed (tree q)) → IsFormed o
is_formed None h = tt
is_formed (Some q) h = h

pub returns-in-Ok : goal.returns-in-Ok
returns-in-Ok c =
    let asked = c.in-Ok.asked in
    (is_formed asked.1 c.in-Ok.ensures.well_formed, reads_asked (dialect_of c.args.dialect) c.args.text.now asked.0 (option_map tree asked.1) c.requires c.utf8.text c.in-Ok.ensures.asks)

pub returns-in_ok-query_refusal-in-Err : goal.returns-in_ok-query_refusal-in-Err
returns-in_ok-query_refusal-in-Err c =
    reads_refused (dialect_of c.args.dialect) c.args.text.now c.in-Err.fault _ c.requires c.utf8.text c.in-Err.ensures.refused c.in_ok-query_refusal-in-Err.ensures.ok
