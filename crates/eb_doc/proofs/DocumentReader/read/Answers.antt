use Rattle.std.proofs.Common.{◌≡◌, ◌⊎◌, subst, ap, ◌∙◌}
use Rattle.std.specs.Prelude.{Ok, Err, IfOk, IfErr, Result}
use Rattle.eb_base.specs.Document.{Doc}
use Rattle.eb_doc.specs.declared.LineFault.{LineFault}
use Rattle.eb_doc.specs.declared.LineFault.TheVariants.{NoMemory as out_of_memory}
use Rattle.eb_doc.specs.WithFields.{document_with}
use Rattle.eb_doc.proofs.WithNames.{in_plain}
use Rattle.eb_doc.proofs.DocumentReader.read.Goals as goal

pub returns-clause-document : goal.returns-clause-document
returns-clause-document c =
    let is = ap (λ how. document_with how c.args.line.now) c.plain.ensures ∙ in_plain c.args.line.now in
    let P : Result Doc LineFault → Type 0 = λ r. IfOk c.read_with.result (λ d. r ≡ Ok d) in
    subst P is c.read_with.ensures.document

pub returns-clause-refused : goal.returns-clause-refused
returns-clause-refused c =
    let is = ap (λ how. document_with how c.args.line.now) c.plain.ensures ∙ in_plain c.args.line.now in
    let P : Result Doc LineFault → Type 0 = λ r. IfErr c.read_with.result (λ fault. (fault ≡ out_of_memory) ⊎ (r ≡ Err fault)) in
    subst P is c.read_with.ensures.refused
