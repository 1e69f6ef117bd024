-- What holds of the terms of fields, over the definitions alone.
use Rattle.std.specs.Prelude.{◌≡◌, ◌≢◌, ℕ, List}
use Rattle.std.specs.List.{All, Contains}
use Rattle.std.specs.Str.{IsUtf8}
use Rattle.eb_text.specs.Tokens.{folded}
use Rattle.eb_text.specs.Pieces.{tokens_by}
use Rattle.eb_text.specs.declared.cutting.Cut.{Cut}
use Rattle.eb_fields.specs.Fields.{field_term}

-- no token of a text is a field's term, however the text is cut
abbrev pub IsNoToken : Type 0
IsNoToken = (cut : Cut) (text name value : List ℕ) → IsUtf8 text → Contains (tokens_by cut text) (field_term name value) → ⊥

-- the name has no colon
abbrev pub HasNoColon : List ℕ → Type 0
HasNoColon name = All (λ b. b ≢ 58) name

-- terms are the same only where their names and their folded values are
abbrev pub NamesApart : Type 0
NamesApart = (name other value more : List ℕ) → HasNoColon name → HasNoColon other
    → field_term name value ≡ field_term other more → (name ≡ other) × (folded value ≡ folded more)
