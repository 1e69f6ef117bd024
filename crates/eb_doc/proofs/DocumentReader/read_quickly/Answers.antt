use Rattle.std.proofs.Common.{inl, inr, ◌∙◌, Some, None}
use Rattle.std.proofs.lemmas.Result.{IfOk-weaker, IfErr-weaker}
use Rattle.eb_fields.specs.Dialect.{dialect_of}
use Rattle.eb_doc.specs.declared.look.Look.{Look}
use Rattle.eb_doc.specs.DocumentLine.{value_of}
use Rattle.eb_doc.specs.Looked.{IsLook}
use Rattle.eb_doc.proofs.WithNames.{with_by_value, as_look}
use Rattle.eb_doc.proofs.DocumentReader.read_quickly.Goals as goal

pub returns-in-Ok-Object-clause-document : goal.returns-in-Ok-Object-clause-document
returns-in-Ok-Object-clause-document c =
    let how = dialect_of c.args.dialect.now in
    let look : IsLook how (Look.Object c.in-Ok-Object.found) (value_of c.args.line.now) =
    as_look how _ _ _ c.in-Ok-Object.field-0-is c.in-Ok-Object.ensures in
    IfOk-weaker c.document_by.result _ _ (λ document told. with_by_value how c.args.line.now (Some look.0) look.1 ∙ told look.0 look.2) c.document_by.ensures.document

pub returns-in-Ok-Object-clause-refused : goal.returns-in-Ok-Object-clause-refused
returns-in-Ok-Object-clause-refused c =
    let how = dialect_of c.args.dialect.now in
    let look : IsLook how (Look.Object c.in-Ok-Object.found) (value_of c.args.line.now) =
    as_look how _ _ _ c.in-Ok-Object.field-0-is c.in-Ok-Object.ensures in
    IfErr-weaker c.document_by.result _ _
    (λ fault told. elim told [
      | inl memory ↦ inl memory
      | inr other ↦ inr (with_by_value how c.args.line.now (Some look.0) look.1 ∙ other look.0 look.2)
    ]) c.document_by.ensures.refused

pub returns-in-Ok-NoJson-clause-refused : goal.returns-in-Ok-NoJson-clause-refused
returns-in-Ok-NoJson-clause-refused c =
    let how = dialect_of c.args.dialect.now in
    inr (with_by_value how c.args.line.now None (as_look how _ Look.NoJson _ c.in-Ok-NoJson.field-0-is c.in-Ok-NoJson.ensures))
