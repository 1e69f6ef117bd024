-- What a document line is by the dialect, step by step.
use Rattle.std.proofs.Common.{◌≡◌, ℕ, Bool, true, false, List, [], ◌++◌, Option, Some, None, refl, ap, ◌∙◌, append-nil, cond}
use Rattle.std.specs.Prelude.{Err, codes}
use Rattle.serde_json.specs.Data.{Data}
use Rattle.eb_text.specs.Pieces.{tokens_by}
use Rattle.eb_fields.specs.Dialect.{Dialect, plain}
use Rattle.eb_doc.specs.declared.LineFault.TheVariants.{TooLong, NoMemory}
use Rattle.eb_doc.specs.DocumentLine.{value_of, number_in, string_in, message, with_members, with_value, document_of}
use Rattle.eb_doc.specs.FieldTerms.{field_terms, has_long_value}
use Rattle.eb_doc.specs.WithFields.{id_in, text_in, message_with, read_with, document_with}
use Rattle.eb_doc.specs.Laws.{InPlain}
use Rattle.eb_doc.specs.Looked.{IsLook}
use Rattle.eb_doc.specs.declared.look.Look.{Look}
use Rattle.eb_doc.proofs.Reading.{no_memory_message}

-- where there is no field, the terms of the text are all
pub no_names : (d : Dialect) (value : Data) (id : ℕ) (text : List ℕ) → d.names ≡ [] → message_with d value (Some id) (Some text) ≡ message id (tokens_by d.cut text)
no_names d value id text none =
    ap (λ (ns : List (List ℕ)). cond (has_long_value ns value) (Err TooLong) (message id (tokens_by d.cut text ++ field_terms ns value))) none
    ∙ ap (message id) (append-nil (tokens_by d.cut text))

same_message : (value : Data) (id : Option ℕ) (text : Option (List ℕ)) → message_with plain value id text ≡ with_members id text
same_message value (Some id) (Some text) = no_names plain value id text refl
same_message value (Some id) None = refl
same_message value None text = refl

same_reading : (value : Option Data) → read_with plain value ≡ with_value value
same_reading None = refl
same_reading (Some value) = same_message value (number_in (codes "id") value) (string_in (codes "text") value)

pub in_plain : InPlain
unfolding document_with document_of
in_plain line = same_reading (value_of line)

pub with_by_value : (d : Dialect) (line : List ℕ) (value : Option Data) → value_of line ≡ value → document_with d line ≡ read_with d value
unfolding document_with
with_by_value d line value e = ap (read_with d) e

-- no line is read as out of memory
no_memory_with : (d : Dialect) (value : Data) (id : Option ℕ) (text : Option (List ℕ)) → message_with d value id text ≡ Err NoMemory → ⊥
no_memory_with d value (Some id) (Some text) h = by_test (has_long_value d.names value) (tokens_by d.cut text ++ field_terms d.names value) h
  where
    by_test : (b : Bool) (terms : List (List ℕ)) → cond b (Err TooLong) (message id terms) ≡ Err NoMemory → ⊥
    by_test true terms h = let no : ⊥ = cc in no
    by_test false terms h = no_memory_message id terms h
no_memory_with d value (Some id) None h = let no : ⊥ = cc in no
no_memory_with d value None text h = let no : ⊥ = cc in no

pub document_with-no_memory : (d : Dialect) (line : List ℕ) → document_with d line ≡ Err NoMemory → ⊥
unfolding document_with
document_with-no_memory d line = go (value_of line)
  where
    go : (v : Option Data) → read_with d v ≡ Err NoMemory → ⊥
    go None h = let no : ⊥ = cc in no
    go (Some v) h = no_memory_with d v (id_in d v) (text_in d v) h

-- what is seen of a line
pub as_look : (how : Dialect) (seen look : Look) (value : Option Data) → seen ≡ look → IsLook how seen value → IsLook how look value
as_look how seen look value g h = rw (← g) h
