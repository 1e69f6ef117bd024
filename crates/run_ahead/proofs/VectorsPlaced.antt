-- What comes of three items, of which two are documents, in a store that has room for one more.
use Rattle.eb_fields.specs.Dialect.{plain}
use Rattle.std.proofs.Common.{◌≡◌, ℕ, false, List, [], ◌∷◌, length, Option, None, Some, refl}
use Rattle.std.specs.Prelude.{Result, Ok, Err, nat_lt, if◌then◌else◌}
use Rattle.run_store.specs.Rules.{Rules, plain_rules}
use Rattle.eb_base.specs.Document.{Doc}
use Rattle.eb_lines.specs.declared.form.Form.{Form}
use Rattle.eb_lines.specs.declared.form.Tail.TheVariants.{Nothing}
use Rattle.eb_lines.specs.declared.refusal.Refusal.{Refusal}
use Rattle.eb_lines.specs.declared.refusal.Refusal.TheVariants.{Full}
use Rattle.run_ahead.specs.Placed.{item_refusals, docs_after}

abbrev doc : ℕ → Doc
doc n = record { id = n; terms = (97 ∷ []) ∷ [] }

-- two documents at most
abbrev room_for_two : List Doc → Doc → Option Refusal
room_for_two docs d = if nat_lt (length docs) 2 then None else Some Full

abbrev words : Form
words = record { json = false; stats = false }

abbrev rules : Rules (Unit {0})
rules = plain_rules plain [] room_for_two (λ docs. docs) words (λ docs. Nothing)

-- a document, what is none, and a document, after one that is held
abbrev items : List (Result Doc ℕ)
items = Ok (doc 2) ∷ Err 7 ∷ Ok (doc 3) ∷ []

refusals : item_refusals rules (doc 1 ∷ []) items ≡ None ∷ None ∷ Some Full ∷ []
unfolding item_refusals
refusals = refl

held : docs_after rules (doc 1 ∷ []) items ≡ doc 1 ∷ doc 2 ∷ []
unfolding docs_after
held = refl
