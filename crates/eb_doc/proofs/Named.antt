-- What is seen of an object with one more member.
use Rattle.std.proofs.Common.{◌≡◌, ℕ, List, Option, Some, None, option_and_then, unwrap_or, refl, ap, sym, ◌∙◌}
use Rattle.std.specs.Prelude.{codes}
use Rattle.serde_json.specs.Data.{Data, Members, no_members, object, put}
use Rattle.serde_json.specs.Find.{as_number, as_u64, as_str, get_member}
use Rattle.serde_json.proofs.Views.{get_member-put, get_member-put_other}
use Rattle.eb_fields.specs.Given.{told_text}
use Rattle.eb_doc.specs.declared.seen.Seen.{Seen}
use Rattle.eb_doc.specs.DocumentLine.{number_in, string_in}
use Rattle.eb_doc.specs.WithFields.{given_id, id_by}
use Rattle.eb_doc.specs.Seen.{Shows, seen_id}

module _ (looked name : List ℕ) (d : Data) (ms : Members) where
  pub number_here : name ≡ looked → number_in looked (object (put name d ms)) ≡ option_and_then as_u64 (as_number d)
  number_here e = ap (λ k. option_and_then as_u64 (option_and_then as_number (get_member looked (put k d ms)))) e
      ∙ ap (λ m. option_and_then as_u64 (option_and_then as_number m)) (get_member-put looked d ms)

  pub string_here : name ≡ looked → string_in looked (object (put name d ms)) ≡ as_str d
  string_here e = ap (λ k. option_and_then as_str (get_member looked (put k d ms))) e ∙ ap (λ m. option_and_then as_str m) (get_member-put looked d ms)

  pub number_stays : (looked ≡ name → ⊥) → number_in looked (object (put name d ms)) ≡ number_in looked (object ms)
  number_stays other = ap (λ m. option_and_then as_u64 (option_and_then as_number m)) (get_member-put_other looked name d ms other)

  pub string_stays : (looked ≡ name → ⊥) → string_in looked (object (put name d ms)) ≡ string_in looked (object ms)
  string_stays other = ap (λ m. option_and_then as_str m) (get_member-put_other looked name d ms other)

-- the id of an object without members, and of one with one more

pub no_id : (given : Option (List ℕ)) → None ≡ id_by given (object no_members)
no_id None = refl
no_id (Some own) = refl

module _ (name : List ℕ) (d : Data) (ms : Members) where
  pub id_here : (given : Option (List ℕ)) (seen : Seen) → name ≡ unwrap_or given (codes "id") → Shows seen d → seen_id given seen ≡ id_by given (object (put name d ms))
  id_here None seen e shown = shown.number ∙ sym (number_here (codes "id") name d ms e)
  id_here (Some own) seen e shown =
      ap (λ n. given_id n (told_text seen.string)) (shown.number ∙ sym (number_here own name d ms e))
      ∙ ap (given_id (number_in own (object (put name d ms)))) (shown.string ∙ sym (string_here own name d ms e))

  pub id_stays : (given : Option (List ℕ)) → (unwrap_or given (codes "id") ≡ name → ⊥) → id_by given (object (put name d ms)) ≡ id_by given (object ms)
  id_stays None other = number_stays (codes "id") name d ms other
  id_stays (Some own) other =
      ap (λ n. given_id n (string_in own (object (put name d ms)))) (number_stays own name d ms other)
      ∙ ap (given_id (number_in own (object ms))) (string_stays own name d ms other)
