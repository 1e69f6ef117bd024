use Rattle.std.proofs.Common.{◌≡◌, ◌⊎◌, Result, Err, ap, ◌∙◌, subst}
use Rattle.eb_base.specs.Document.{Doc}
use Rattle.eb_c.specs.declared.refusal.Refusal.{Refusal}
use Rattle.eb_c.specs.declared.refusal.Refusal.TheVariants.{NoMemory as out_of_memory}
use Rattle.eb_c.specs.Adding.{document_in_by}
use Rattle.eb_c.proofs.Dialected.{in_plain_line}
use Rattle.eb_c.proofs.reading.document_in_line.Goals as goal

pub returns : goal.returns
returns c =
    let line = c.args.line.now in
    let r = c.line_document.result in
    subst (λ (x : Result Doc Refusal). (r ≡ Err out_of_memory) ⊎ (r ≡ x)) (ap (λ how. document_in_by how line) c.plain.ensures ∙ in_plain_line line) c.line_document.ensures
