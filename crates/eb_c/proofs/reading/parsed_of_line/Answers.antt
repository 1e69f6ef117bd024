use Rattle.std.proofs.Common.{◌≡◌, ◌⊎◌, Bool, ℕ, List, inr, refl, sym, subst}
use Rattle.std.proofs.lemmas.Bool.{false_from_ne_true}
use Rattle.std.proofs.lemmas.Str.{IsUtf8-from_is_utf8, is_utf8-from_IsUtf8}
use Rattle.std.specs.Prelude.{false}
use Rattle.eb_fields.specs.Dialect.{dialect_of}
use Rattle.eb_c.specs.declared.refusal.Refusal.TheVariants.{NoMemory as out_of_memory, BadLine}
use Rattle.eb_c.specs.Asking.{ReadsBy, AsksBy, parsed_of, refused}
use Rattle.eb_c.proofs.reading.parsed_of_line.Goals as goal

pub returns-in-Ok : goal.returns-in-Ok
returns-in-Ok c =
    let how = dialect_of c.args.dialect in
    let bytes = c.args.line.now in
    let x = parsed_of c.parsed_behind.result in
    let P : Bool → Type 0 = λ b. (x ≡ refused out_of_memory 0) ⊎ AsksBy how false b bytes x in
    let Q : List ℕ → Type 0 = λ t. (x ≡ refused out_of_memory 0) ⊎ ReadsBy how 0 t x in
    subst P (sym (is_utf8-from_IsUtf8 bytes c.in-Ok.ensures.cases.1)) (subst Q c.in-Ok.ensures.cases.0 c.parsed_behind.ensures)

pub returns-in-Err : goal.returns-in-Err
returns-in-Err c =
    let how = dialect_of c.args.dialect in
    let bytes = c.args.line.now in
    let P : Bool → Type 0 = λ b. AsksBy how false b bytes (refused BadLine 0) in
    inr (subst P (sym (false_from_ne_true _ (λ h. c.in-Err.ensures.cases.0 (IsUtf8-from_is_utf8 bytes h)))) refl)
