use Rattle.eb_fields.specs.Dialect.{dialect_of}
use Rattle.std.proofs.Common.{refl}
use Rattle.eb_io.specs.Lines.{line}
use Rattle.eb_lines.specs.declared.refusal.Refusal.TheVariants.{BadLine}
use Rattle.eb_lines.specs.Reading.{blank, refused}
use Rattle.eb_lines.proofs.Results.{err_on}
use Rattle.eb_lines.proofs.Runs.{stays_at}
use Rattle.run_images.specs.Saving.{HasSaved}
use Rattle.run_images.proofs.Savings.{reads_to_save}
use Rattle.run_images.proofs.saving.SavingLineProgram.take_line.Goals as goal

pub returns-in-Document-clause-err : goal.returns-in-Document-clause-err
returns-in-Document-clause-err g c = err_on c.take_document.result c.take_document.ensures.err (λ e. stays_at HasSaved c.args.self.now c.take_document.new.self _ _ e.0 e.1)

pub returns-in-Blank-clause-ok : goal.returns-in-Blank-clause-ok
returns-in-Blank-clause-ok g c = let bytes = c.args.bytes.now in c.pass.ensures _ (line bytes) (reads_to_save (dialect_of c.args.self.now.dialect) bytes _ blank c.in-Blank.ensures refl)

pub returns-in-Query-clause-ok : goal.returns-in-Query-clause-ok
returns-in-Query-clause-ok g c =
    let bytes = c.args.bytes.now in c.refuse.ensures _ (line bytes) (reads_to_save (dialect_of c.args.self.now.dialect) bytes _ (refused BadLine) c.in-Query.ensures.0 refl)

pub returns-in-Bad-clause-ok : goal.returns-in-Bad-clause-ok
returns-in-Bad-clause-ok g c =
    let bytes = c.args.bytes.now in c.refuse-in-Bad.ensures _ (line bytes) (reads_to_save (dialect_of c.args.self.now.dialect) bytes _ (refused BadLine) c.in-Bad.ensures refl)
