use Rattle.eb_fields.specs.Dialect.{dialect_of}
use Rattle.run_with_watches.proofs.OtherLines.{reads_not_utf8}
use Rattle.run_with_watches.proofs.other.read_marked.Goals as goal

pub returns-in-Err : goal.returns-in-Err
returns-in-Err c = reads_not_utf8 (dialect_of c.args.dialect) c.args.bytes.now c.requires c.in-Err.ensures.cases.0
