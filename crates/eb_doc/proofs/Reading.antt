-- What a document line is, step by step.
use Rattle.std.proofs.Common.{◌≡◌, ℕ, ◌||◌, Bool, true, false, refl, length, List, Option, Some, None, ap, ◌∙◌, inl, inr}
use Rattle.std.specs.Prelude.{IsUtf8, if◌then◌else◌, nat_lt, Ok, Err, codes}
use Rattle.std.specs.Str.{is_utf8}
use Rattle.std.proofs.lemmas.Bool.{cases_Bool}
use Rattle.std.proofs.lemmas.Str.{IsUtf8-from_is_utf8, is_utf8-from_IsUtf8}
use Rattle.serde_json.specs.Data.{Data}
use Rattle.serde_json.specs.Read.{read}
use Rattle.eb_base.specs.Document.{bytes_of, most_tokens, most_bytes}
use Rattle.eb_text.specs.Tokens.{tokens_of}
use Rattle.eb_doc.specs.declared.LineFault.TheVariants.{TooLong, NoMemory}
use Rattle.eb_doc.specs.DocumentLine.{value_of, number_in, string_in, message, with_members, with_value, document_of}

pub value_some : (line : List ℕ) (v : Data) → IsUtf8 line → read line ≡ Some v → value_of line ≡ Some v
unfolding value_of
value_some line v utf8 e = ap (λ b. if b then read line else None) (is_utf8-from_IsUtf8 line utf8) ∙ e

pub value_none : (line : List ℕ) → (IsUtf8 line → read line ≡ None) → value_of line ≡ None
unfolding value_of
value_none line h = elim (cases_Bool (is_utf8 line)) [
  | inl yes_is ↦ ap (λ b. if b then read line else None) yes_is ∙ h (IsUtf8-from_is_utf8 line yes_is)
  | inr no_is ↦ ap (λ b. if b then read line else None) no_is
]

-- no line is read as out of memory
pub no_memory_message : (id : ℕ) (terms : List (List ℕ)) → message id terms ≡ Err NoMemory → ⊥
no_memory_message id terms = by_test (nat_lt most_tokens (length terms) || nat_lt most_bytes (bytes_of terms)) refl
  where
    by_test : (b : Bool) → nat_lt most_tokens (length terms) || nat_lt most_bytes (bytes_of terms) ≡ b → message id terms ≡ Err NoMemory → ⊥
    by_test true e h = let is : message id terms ≡ Err TooLong = rw e refl in let no : ⊥ = cc in no
    by_test false e h = let is : message id terms ≡ Ok (record { id = id; terms = terms }) = rw e refl in let no : ⊥ = cc in no

no_memory_members : (id : Option ℕ) (t : Option (List ℕ)) → with_members id t ≡ Err NoMemory → ⊥
no_memory_members (Some id) (Some t) h = no_memory_message id (tokens_of t) h
no_memory_members (Some id) None h = let no : ⊥ = cc in no
no_memory_members None t h = let no : ⊥ = cc in no

pub document_of-no_memory : (bytes : List ℕ) → document_of bytes ≡ Err NoMemory → ⊥
unfolding document_of
document_of-no_memory bytes = go (value_of bytes)
  where
    go : (v : Option Data) → with_value v ≡ Err NoMemory → ⊥
    go None h = let no : ⊥ = cc in no
    go (Some v) h = no_memory_members (number_in (codes "id") v) (string_in (codes "text") v) h
