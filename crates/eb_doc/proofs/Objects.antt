-- A text that begins as an object.
use Rattle.std.proofs.Common.{◌≡◌, ℕ, List, [], ◌∷◌, length, Some, None, ap, ◌∙◌, lit<}
use Rattle.json.specs.Token.{Token}
use Rattle.json.specs.Lex.{tokens}
use Rattle.json.specs.Json.{parse_map, members, value}
use Rattle.json.proofs.Grammar.{value-begin_object}
use Rattle.serde_json.specs.Data.{Members, no_members, object}
use Rattle.serde_json.specs.Read.{of_json, of_members, converted, read}
use Rattle.eb_doc.proofs.Values.{converted-object, whole_read, whole_and_more, whole_refused}

module _ (text : List ℕ) (rest : List Token) (begins : tokens text ≡ Token.begin_object ∷ rest) where
  opened : converted of_json (value 127 (tokens text)) ≡ parse_map object (converted (λ js. of_members js no_members) (members (value 126) (length rest) rest))
  opened = ap (λ z. converted of_json (value 127 z)) begins ∙ ap (converted of_json) (value-begin_object 127 rest (lit< tt)) ∙ converted-object (members (value 126) (length rest) rest)

  pub object_read : (ms : Members) → converted (λ js. of_members js no_members) (members (value 126) (length rest) rest) ≡ Some (ms, []) → read text ≡ Some (object ms)
  object_read ms e = whole_read (value 127 (tokens text)) (object ms) (opened ∙ ap (parse_map object) e)

  pub object_and_more : (ms : Members) (t : Token) (r : List Token) → converted (λ js. of_members js no_members) (members (value 126) (length rest) rest) ≡ Some (ms, t ∷ r) → read text ≡ None
  object_and_more ms t r e = whole_and_more (value 127 (tokens text)) (object ms) t r (opened ∙ ap (parse_map object) e)

  pub object_refused : converted (λ js. of_members js no_members) (members (value 126) (length rest) rest) ≡ None → read text ≡ None
  object_refused e = whole_refused (value 127 (tokens text)) (opened ∙ ap (parse_map object) e)
