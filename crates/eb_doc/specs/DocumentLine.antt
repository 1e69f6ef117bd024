-- What a document line is: a document, or the first of its refusals.
use Rattle.std.specs.Prelude.{ℕ, ◌||◌, List, length, codes, nat_lt, Option, Some, None, option_and_then, Result, Ok, Err, if◌then◌else◌}
use Rattle.std.specs.Str.{is_utf8}
use Rattle.serde_json.specs.Data.{Data}
use Rattle.serde_json.specs.Read.{read}
use Rattle.serde_json.specs.Find.{get, as_number, as_u64, as_str}
use Rattle.eb_base.specs.Document.{Doc, bytes_of, most_tokens, most_bytes}
use Rattle.eb_text.specs.Tokens.{tokens_of}
use Rattle.eb_doc.specs.declared.LineFault.{LineFault}
use Rattle.eb_doc.specs.declared.LineFault.TheVariants.{BadJson, BadDocument, TooLong}

-- the JSON value that the line is, where it is UTF-8 and one value of RFC 8259 by `serde_json`
unfoldable pub value_of : List ℕ → Option Data
value_of line = if is_utf8 line then read line else None

-- the number of the member of this name, and its string; where a name occurs twice, the value keeps
-- the last
abbrev pub number_in : List ℕ → Data → Option ℕ
number_in name value = option_and_then as_u64 (option_and_then as_number (get name value))

abbrev pub string_in : List ℕ → Data → Option (List ℕ)
string_in name value = option_and_then as_str (get name value)

-- an id with these terms is a document, unless there are too many terms, or too many bytes in all
abbrev pub message : ℕ → List (List ℕ) → Result Doc LineFault
message id terms = if nat_lt most_tokens (length terms) || nat_lt most_bytes (bytes_of terms) then Err TooLong else Ok (record { id = id; terms = terms })

abbrev pub with_members : Option ℕ → Option (List ℕ) → Result Doc LineFault
with_members (Some id) (Some text) = message id (tokens_of text)
with_members (Some id) None = Err BadDocument
with_members None text = Err BadDocument

abbrev pub with_value : Option Data → Result Doc LineFault
with_value None = Err BadJson
with_value (Some value) = with_members (number_in (codes "id") value) (string_in (codes "text") value)

-- the document that the line is, with the tokens of its text as terms, or the first refusal:
--   BadJson without a value, BadDocument where a member is missing or of another kind, TooLong
unfoldable pub document_of : List ℕ → Result Doc LineFault
document_of line = with_value (value_of line)
