-- How lines are read, as a caller says it, step by step.
use Rattle.std.proofs.Common.{◌≡◌, ℕ, true, false, List, [], ◌∷◌, Option, Some, None, Result, Err, inl, inr, ◌⊎◌, refl, ap, ap₂, ◌∙◌, sym, subst}
use Rattle.std.specs.Prelude.{is_some, IfSome, ◌&&◌, if◌then◌else◌}
use Rattle.std.specs.Str.{is_utf8}
use Rattle.eb_base.specs.Document.{Doc}
use Rattle.eb_fields.specs.Dialect.{plain}
use Rattle.eb_fields.specs.Fields.{is_field_list, names, names_in}
use Rattle.eb_fields.specs.declared.fields.Fields.{Fields}
use Rattle.eb_doc.specs.declared.LineFault.{LineFault}
use Rattle.eb_doc.proofs.WithNames.{in_plain}
use Rattle.eb_c.specs.declared.refusal.Refusal.TheVariants.{LongLine, BadLine, NoMemory as out_of_memory}
use Rattle.eb_c.specs.Adding.{is_long, begins_with, or_refused, document_in, document_in_by}
use Rattle.eb_fields.specs.Given.{told_fields}
use Rattle.eb_c.specs.Asking.{Asked, refused}
use Rattle.eb_c.specs.Dialects.{names_by, member_by}

pub fields_read : (bs : List ℕ) (r : Option Fields) → (bs ≡ [] → ⊥) → is_utf8 bs ≡ true → is_some r ≡ is_field_list bs → IfSome r (λ f. names f ≡ names_in bs)
    → told_fields r ≡ names_by bs
fields_read [] r some utf8 is named = absurd (some refl)
fields_read (b ∷ bs) (Some f) some utf8 is named =
    ap (λ ns. Some ns) named ∙ sym (ap₂ (λ u l. if u && l then Some (names_in (b ∷ bs)) else None) utf8 (sym is))
fields_read (b ∷ bs) None some utf8 is named = sym (ap₂ (λ u l. if u && l then Some (names_in (b ∷ bs)) else None) utf8 (sym is))

pub no_fields : (bs : List ℕ) → (bs ≡ [] → ⊥) → is_utf8 bs ≡ false → None ≡ names_by bs
no_fields [] some utf8 = absurd (some refl)
no_fields (b ∷ bs) some utf8 = sym (ap (λ u. if u && is_field_list (b ∷ bs) then Some (names_in (b ∷ bs)) else None) utf8)

pub member_read : (bs : List ℕ) → (bs ≡ [] → ⊥) → is_utf8 bs ≡ true → Some (Some bs) ≡ member_by bs
member_read [] some utf8 = absurd (some refl)
member_read (b ∷ bs) some utf8 = sym (ap (λ u. if u then Some (Some (b ∷ bs)) else None) utf8)

pub no_member : (bs : List ℕ) → (bs ≡ [] → ⊥) → is_utf8 bs ≡ false → None ≡ member_by bs
no_member [] some utf8 = absurd (some refl)
no_member (b ∷ bs) some utf8 = sym (ap (λ u. if u then Some (Some (b ∷ bs)) else None) utf8)

-- where no option says otherwise
pub in_plain_line : (line : List ℕ) → document_in_by plain line ≡ document_in line
in_plain_line line =
    ap (λ (d : Result Doc LineFault). if is_long line then Err LongLine else (if begins_with 123 line then or_refused d else Err BadLine)) (in_plain line)

-- a question is what was read, unless memory ran out
pub asked_as : (IsAsked : Asked → Type 0) (x y : Asked) → (x ≡ refused out_of_memory 0) ⊎ (x ≡ y) → (y ≡ refused out_of_memory 0) ⊎ IsAsked y
    → (x ≡ refused out_of_memory 0) ⊎ IsAsked x
asked_as IsAsked x y (inl none) parsed = inl none
asked_as IsAsked x y (inr same) (inl none) = inl (same ∙ none)
asked_as IsAsked x y (inr same) (inr asked) = inr (subst IsAsked (sym same) asked)
