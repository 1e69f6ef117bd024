use Rattle.std.proofs.Common.{◌≡◌, ◌⊎◌, inl, inr, sym, subst, ◌∙◌, Some, None}
use Rattle.std.specs.Prelude.{Ok, Err, IfOk, IfErr, Result}
use Rattle.serde_json.specs.View.{view}
use Rattle.eb_base.specs.Document.{Doc}
use Rattle.eb_fields.specs.Dialect.{dialect_of}
use Rattle.eb_doc.specs.declared.LineFault.{LineFault}
use Rattle.eb_doc.specs.declared.LineFault.TheVariants.{NoMemory as out_of_memory, BadJson}
use Rattle.eb_doc.proofs.WithNames.{with_by_value}
use Rattle.eb_doc.proofs.fielded.read_with_fields.Goals as goal

pub returns-in-Ok-clause-document : goal.returns-in-Ok-clause-document
returns-in-Ok-clause-document c =
    let is = with_by_value (dialect_of c.args.dialect.now) c.args.line.now (Some (view c.in-Ok.value)) c.in-Ok.ensures.value in
    let P : Result Doc LineFault → Type 0 = λ r. IfOk c.fielded_document.result (λ d. r ≡ Ok d) in
    subst P (sym is) c.fielded_document.ensures.document

pub returns-in-Ok-clause-refused : goal.returns-in-Ok-clause-refused
returns-in-Ok-clause-refused c =
    let is = with_by_value (dialect_of c.args.dialect.now) c.args.line.now (Some (view c.in-Ok.value)) c.in-Ok.ensures.value in
    let P : Result Doc LineFault → Type 0 = λ r. IfErr c.fielded_document.result (λ fault. (fault ≡ out_of_memory) ⊎ (r ≡ Err fault)) in
    subst P (sym is) c.fielded_document.ensures.refused

pub returns-in-Err-clause-refused : goal.returns-in-Err-clause-refused
returns-in-Err-clause-refused c = elim c.in-Err.ensures.refused [
  | inl memory ↦ inl memory
  | inr bad ↦ inr (with_by_value (dialect_of c.args.dialect.now) c.args.line.now None bad.1 ∙ (let same : Err BadJson ≡ Err c.in-Err.fault = cc in same))
]
