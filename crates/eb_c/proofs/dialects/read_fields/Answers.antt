use Rattle.std.proofs.Common.{◌≡◌, ℕ, List, [], length, ap, subst, arith}
use Rattle.std.proofs.lemmas.Bool.{false_from_ne_true}
use Rattle.std.proofs.lemmas.Str.{IsUtf8-from_is_utf8, is_utf8-from_IsUtf8}
use Rattle.std.specs.Prelude.{is_some, IfSome}
use Rattle.eb_fields.specs.Fields.{is_field_list, names, names_in}
use Rattle.eb_c.proofs.Dialected.{fields_read, no_fields}
use Rattle.eb_c.proofs.dialects.read_fields.Goals as goal

pub returns-in-Ok : goal.returns-in-Ok
returns-in-Ok c =
    let bytes = c.args.names.now in
    let r = c.read.result in
    let same = c.in-Ok.ensures.cases.0 in
    let some : bytes ≡ [] → ⊥ = λ e. grind (arith, ap length e, c.if-is_empty.ensures, c.if-is_empty.false) in
    fields_read bytes r some (is_utf8-from_IsUtf8 bytes c.in-Ok.ensures.cases.1)
    (subst (λ (ns : List ℕ). is_some r ≡ is_field_list ns) same c.read.ensures.some)
    (subst (λ (ns : List ℕ). IfSome r (λ f. names f ≡ names_in ns)) same c.read.ensures.names)

pub returns-in-Err : goal.returns-in-Err
returns-in-Err c =
    let bytes = c.args.names.now in
    let some : bytes ≡ [] → ⊥ = λ e. grind (arith, ap length e, c.if-is_empty.ensures, c.if-is_empty.false) in
    no_fields bytes some (false_from_ne_true _ (λ h. c.in-Err.ensures.cases.0 (IsUtf8-from_is_utf8 bytes h)))
