-- What a document line is by the dialect: a document, or the first of its refusals.
use Rattle.std.specs.Prelude.{◌≡◌, ◌⊎◌, ℕ, Bool, true, false, List, ◌++◌, codes, Option, Some, None, option_and_then, unwrap_or, Result, Ok, Err, if◌then◌else◌}
use Rattle.serde_json.specs.Data.{Data}
use Rattle.eb_base.specs.Document.{Doc}
use Rattle.eb_text.specs.Pieces.{tokens_by}
use Rattle.eb_fields.specs.Dialect.{Dialect}
use Rattle.eb_fields.specs.Ids.{id_of}
use Rattle.eb_doc.specs.declared.LineFault.{LineFault}
use Rattle.eb_doc.specs.declared.LineFault.TheVariants.{BadJson, BadDocument, TooLong, NoMemory}
use Rattle.eb_doc.specs.DocumentLine.{value_of, number_in, string_in, message}
use Rattle.eb_doc.specs.FieldTerms.{field_terms, has_long_value}

-- the names of the members that are the id and the text
abbrev pub id_name : Dialect → List ℕ
id_name d = unwrap_or d.id (codes "id")

abbrev pub text_name : Dialect → List ℕ
text_name d = unwrap_or d.text (codes "text")

-- the number that a member is, or else the one that its string writes
abbrev pub given_id : Option ℕ → Option (List ℕ) → Option ℕ
given_id (Some n) string = Some n
given_id None string = option_and_then id_of string

-- the id: a number, and where its member has a name of its own, a string of digits too
abbrev pub id_by : Option (List ℕ) → Data → Option ℕ
id_by None value = number_in (codes "id") value
id_by (Some name) value = given_id (number_in name value) (string_in name value)

abbrev pub id_in : Dialect → Data → Option ℕ
id_in d value = id_by d.id value

abbrev pub text_in : Dialect → Data → Option (List ℕ)
text_in d value = string_in (text_name d) value

-- an id, a text and the fields of this value
abbrev pub message_with : Dialect → Data → Option ℕ → Option (List ℕ) → Result Doc LineFault
message_with d value (Some id) (Some text) =
    if has_long_value d.names value then Err TooLong else message id (tokens_by d.cut text ++ field_terms d.names value)
message_with d value (Some id) None = Err BadDocument
message_with d value None text = Err BadDocument

abbrev pub read_with : Dialect → Option Data → Result Doc LineFault
read_with d None = Err BadJson
read_with d (Some value) = message_with d value (id_in d value) (text_in d value)

-- the document that the line is, with the tokens of its text as terms and after them the terms of its fields, or the first refusal:
--   BadJson without a value, BadDocument where the id or the text is missing or of another kind, TooLong
unfoldable pub document_with : Dialect → List ℕ → Result Doc LineFault
document_with d line = read_with d (value_of line)

-- the terms and then these, unless memory ran out or some value is too long, as the flag says
abbrev pub Adds : Bool → List (List ℕ) → List (List ℕ) → Result (List (List ℕ)) LineFault → Type 0
Adds long more terms (Ok all) = (long ≡ false) × (all ≡ terms ++ more)
Adds long more terms (Err fault) = (fault ≡ NoMemory) ⊎ ((fault ≡ TooLong) × (long ≡ true))
