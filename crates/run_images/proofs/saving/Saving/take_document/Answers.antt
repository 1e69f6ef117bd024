use Rattle.eb_fields.specs.Dialect.{dialect_of}
use Rattle.eb_io.specs.Lines.{line}
use Rattle.eb_lines.specs.Reading.{document, refused}
use Rattle.eb_lines.proofs.Results.{ok_on}
use Rattle.run_images.proofs.Savings.{reads_to_save}
use Rattle.run_images.proofs.saving.Saving.take_document.Goals as goal

pub returns-in-Ok-clause-ok : goal.returns-in-Ok-clause-ok
returns-in-Ok-clause-ok g c =
    let bytes = c.args.bytes.now in
    let reads = reads_to_save (dialect_of c.args.self.now.dialect) bytes _ (document c.in-Ok.document) c.requires.document (rw c.in-Ok.is at c.in_ok-document.ensures) in
    ok_on c.save.result c.save.ensures.ok (λ takes. takes (line bytes) reads)

pub returns-in-Err-clause-ok : goal.returns-in-Err-clause-ok
returns-in-Err-clause-ok g c =
    let bytes = c.args.bytes.now in
    let reads = reads_to_save (dialect_of c.args.self.now.dialect) bytes _ (refused c.in-Err.refusal) c.requires.document (rw c.in-Err.is at c.in_ok-document.ensures) in
    c.refuse.ensures _ (line bytes) reads
