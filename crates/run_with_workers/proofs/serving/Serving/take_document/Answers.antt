use Rattle.std.proofs.Common.{subst}
use Rattle.std.specs.Prelude.{Result}
use Rattle.eb_base.specs.Document.{Doc}
use Rattle.eb_doc.specs.WithFields.{document_with}
use Rattle.eb_fields.specs.Dialect.{dialect_of}
use Rattle.eb_lines.specs.declared.refusal.Refusal.{Refusal}
use Rattle.eb_lines.specs.Reading.{document, refused}
use Rattle.eb_lines.specs.Reads.{IsOfDocument}
use Rattle.eb_lines.specs.Works.{document_reading}
use Rattle.eb_lines.proofs.Results.{ok_on}
use Rattle.run_with_workers.proofs.serving.Serving.take_document.Goals as goal

pub returns-in-Ok-clause-ok : goal.returns-in-Ok-clause-ok
returns-in-Ok-clause-ok g c =
    let D : Result Doc Refusal → Type 0 = λ read. IsOfDocument (document_with (dialect_of c.args.self.now.dialect) c.args.bytes.now) (document_reading read) in
    let is = subst D c.in-Ok.is c.in_ok-document.ensures in
    ok_on c.add.result c.add.ensures.ok (λ takes. (document c.in-Ok.document, is, takes))

pub returns-in-Err-clause-ok : goal.returns-in-Err-clause-ok
returns-in-Err-clause-ok g c =
    let D : Result Doc Refusal → Type 0 = λ read. IsOfDocument (document_with (dialect_of c.args.self.now.dialect) c.args.bytes.now) (document_reading read) in
    let is = subst D c.in-Err.is c.in_ok-document.ensures in
    (refused c.in-Err.refusal, is, c.refuse.ensures)
