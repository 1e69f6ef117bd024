use Rattle.std.proofs.Common.{◌≡◌, ◌⊎◌, Bool, ℕ, List, Result, Err, inr, ap, sym, subst}
use Rattle.std.proofs.lemmas.Bool.{false_from_ne_true}
use Rattle.std.proofs.lemmas.Str.{IsUtf8-from_is_utf8, is_utf8-from_IsUtf8}
use Rattle.std.specs.Prelude.{if◌then◌else◌}
use Rattle.eb_base.specs.Document.{Doc}
use Rattle.eb_text.specs.Pieces.{tokens_by}
use Rattle.eb_fields.specs.Dialect.{Dialect, dialect_of}
use Rattle.eb_doc.specs.DocumentLine.{message}
use Rattle.eb_c.specs.declared.refusal.Refusal.{Refusal}
use Rattle.eb_c.specs.declared.refusal.Refusal.TheVariants.{BadText, NoMemory as out_of_memory}
use Rattle.eb_c.specs.Adding.{or_refused}
use Rattle.eb_c.proofs.reading.text_document.Goals as goal

by_test : Dialect → ℕ → List ℕ → Bool → Result Doc Refusal
by_test how id text utf8 = if utf8 then or_refused (message id (tokens_by how.cut text)) else Err BadText

pub returns-in-Ok : goal.returns-in-Ok
unfolding by_test
returns-in-Ok c =
    let how = dialect_of c.args.dialect in
    let bytes = c.args.text.now in
    let r = c.document_of_text.result in
    let P : Bool → Type 0 = λ b. (r ≡ Err out_of_memory) ⊎ (r ≡ by_test how c.args.id bytes b) in
    let Q : List ℕ → Type 0 = λ t. (r ≡ Err out_of_memory) ⊎ (r ≡ or_refused (message c.args.id (tokens_by how.cut t))) in
    subst P (sym (is_utf8-from_IsUtf8 bytes c.in-Ok.ensures.cases.1)) (subst Q c.in-Ok.ensures.cases.0 c.document_of_text.ensures)

pub returns-in-Err : goal.returns-in-Err
unfolding by_test
returns-in-Err c =
    let how = dialect_of c.args.dialect in
    let bytes = c.args.text.now in
    inr (sym (ap (by_test how c.args.id bytes) (false_from_ne_true _ (λ h. c.in-Err.ensures.cases.0 (IsUtf8-from_is_utf8 bytes h)))))
