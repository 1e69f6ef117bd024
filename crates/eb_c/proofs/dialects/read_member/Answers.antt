use Rattle.std.proofs.Common.{◌≡◌, ℕ, List, [], Some, length, ap, ◌∙◌, arith}
use Rattle.std.proofs.lemmas.Bool.{false_from_ne_true}
use Rattle.std.proofs.lemmas.Str.{IsUtf8-from_is_utf8, is_utf8-from_IsUtf8}
use Rattle.eb_c.proofs.Dialected.{member_read, no_member}
use Rattle.eb_c.proofs.dialects.read_member.Goals as goal

pub returns-in-Ok : goal.returns-in-Ok
returns-in-Ok c =
    let bytes = c.args.name.now in
    let some : bytes ≡ [] → ⊥ = λ e. grind (arith, ap length e, c.if-is_empty.ensures, c.if-is_empty.false) in
    ap (λ (b : List ℕ). Some (Some b)) c.in-Ok.ensures.cases.0 ∙ member_read bytes some (is_utf8-from_IsUtf8 bytes c.in-Ok.ensures.cases.1)

pub returns-in-Err : goal.returns-in-Err
returns-in-Err c =
    let bytes = c.args.name.now in
    let some : bytes ≡ [] → ⊥ = λ e. grind (arith, ap length e, c.if-is_empty.ensures, c.if-is_empty.false) in
    no_member bytes some (false_from_ne_true _ (λ h. c.in-Err.ensures.cases.0 (IsUtf8-from_is_utf8 bytes h)))
