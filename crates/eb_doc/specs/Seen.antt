-- What is seen of a value, and of an object.
use Rattle.std.specs.Prelude.{◌≡◌, ℕ, List, Option, Some, None, option_and_then}
use Rattle.serde_json.specs.Data.{Data}
use Rattle.serde_json.specs.Find.{as_number, as_u64, as_str}
use Rattle.eb_fields.specs.Dialect.{Dialect}
use Rattle.eb_fields.specs.Given.{told_text}
use Rattle.eb_doc.specs.WithFields.{given_id, id_in, text_in}
use Rattle.eb_doc.specs.declared.seen.Seen.{Seen}
use Rattle.eb_doc.specs.declared.seen.Members.{Members}

pub record Shows (seen : Seen) (value : Data) : Type 0 where
  pub number : seen.number ≡ option_and_then as_u64 (as_number value)
  pub string : told_text seen.string ≡ as_str value

-- the id that a member is of which this is seen, where this name is given for it or none
abbrev pub seen_id : Option (List ℕ) → Seen → Option ℕ
seen_id None seen = seen.number
seen_id (Some name) seen = given_id seen.number (told_text seen.string)

-- the members that are the id and the text
pub record ShowsMembers (how : Dialect) (found : Members) (value : Data) : Type 0 where
  pub id : found.id ≡ id_in how value
  pub text : told_text found.text ≡ text_in how value
