use Rattle.eb_fields.specs.Dialect.{dialect_of}
use Rattle.std.proofs.Common.{subst}
use Rattle.eb_io.specs.Lines.{line}
use Rattle.eb_lines.specs.Kinds.{query_line}
use Rattle.eb_lines.specs.Reads.{ReadsByKind}
use Rattle.run_store.proofs.ByKind.{reads_with}
use Rattle.eb_lines.proofs.Results.{ok_on, err_on}
use Rattle.eb_lines.proofs.Runs.{stays_at}
use Rattle.run_store.specs.Answering.{HasAnswered}
use Rattle.run_store.proofs.answering.AnsweringLineProgram.take_line.Goals as goal

pub returns-in-Query-clause-ok : goal.returns-in-Query-clause-ok
returns-in-Query-clause-ok g c =
    let bytes = c.args.bytes.now in
    let is = c.in-Query.ensures in
    ok_on c.take_query.result c.take_query.ensures.ok (λ x. x.2 (line bytes) (reads_with g.S.Store.other (dialect_of c.args.self.now.dialect) bytes query_line x.0 is.0
    (subst (λ b. ReadsByKind (dialect_of c.args.self.now.dialect) query_line b x.0) is.1 x.1)))

pub returns-in-Query-clause-err : goal.returns-in-Query-clause-err
returns-in-Query-clause-err g c = err_on c.take_query.result c.take_query.ensures.err (λ e. stays_at (HasAnswered g.S.Store.other g.S.Store.holds) c.args.self.now c.take_query.new.self _ _ e.0 e.1)
