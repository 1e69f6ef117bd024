-- Moments of the words, and what each word is in them.
use Rattle.std.specs.Prelude.{ℕ, zero, suc, ◌+◌, ◌<◌, ◌≤◌, List, [], ◌∷◌, ◌++◌, length, map, take, Option, Some, None, if◌then◌else◌, ◌==◌}
use Rattle.std.specs.List.{range_with_len}
use Rattle.eb_base.specs.Document.{Doc}
use Rattle.eb_base.specs.Setting.{Setting, IsSetting, words_of}
use Rattle.eb_place.specs.declared.moment.Documents.{Documents}
use Rattle.eb_place.specs.declared.moment.Conversions.{Conversions}
use Rattle.eb_place.specs.declared.moment.Moment.{Moment}
use Rattle.eb_place.specs.Room.{cut, IsLawful}
use Rattle.eb_place.specs.Placing.{Store, pairs_of, doc_stores}
use Rattle.eb_place.specs.Conversion.{segment_stores}

-- the document that is being placed, if there is one
abbrev pub current_of : Option (Doc × ℕ) → List Doc
current_of None = []
current_of (Some c) = c.0 ∷ []

-- the history, and then the document that is being placed
abbrev pub with_current : Documents → List Doc
with_current x = x.accepted ++ current_of x.current

-- the stores that place further documents after a history, one document after the other
unfoldable pub placings_after : Setting → List Doc → List Doc → List Store
placings_after σ before [] = []
placings_after σ before (d ∷ ds) = doc_stores σ before d ++ placings_after σ (before ++ d ∷ []) ds

-- the stores that place a whole history
abbrev pub placings : Setting → List Doc → List Store
placings σ docs = placings_after σ [] docs

-- the stores that are done of the document that is being placed
abbrev pub current_stores : Setting → List Doc → Option (Doc × ℕ) → List Store
current_stores σ docs None = []
current_stores σ docs (Some c) = take c.1 (doc_stores σ docs c.0)

-- the writer's stores
unfoldable pub document_stores : Setting → Documents → List Store
document_stores σ x = placings σ x.accepted ++ current_stores σ x.accepted x.current

-- the stores that convert the first segments of a history
unfoldable pub conversions : Setting → List Doc → ℕ → List Store
conversions σ docs zero = []
conversions σ docs (suc s) = conversions σ docs s ++ segment_stores σ docs s

-- the converter's stores: those of the converted segments, and the first ones of the next
-- conversion
unfoldable pub conversion_stores : Setting → List Doc → Conversions → List Store
conversion_stores σ docs c = conversions σ docs c.converted ++ take c.packed (segment_stores σ docs c.converted)

-- the value at a place after the stores, where it was v: that of the last store to the place
unfoldable pub value_after : ℕ → ℕ → List (ℕ × ℕ) → ℕ
value_after place v [] = v
value_after place v (x ∷ xs) = value_after place (if x.0 == place then x.1 else v) xs

-- the word at a place: the value of the last store to it, of the writer or of the converter, else 0
unfoldable pub word : Moment → ℕ → ℕ
word m place = value_after place 0 (pairs_of m.setting (document_stores m.setting m.documents ++ conversion_stores m.setting (with_current m.documents) m.conversions))

-- all words, in order
unfoldable pub image : Moment → List ℕ
image m = map (word m) (range_with_len 0 (words_of m.setting))

-- a segment is closed where a document of the next one is accepted or is being placed
abbrev pub IsClosed : Moment → ℕ → Type 0
IsClosed m s = s + 1 < length (cut m.setting (with_current m.documents))

-- a document is being placed with at least its first store done, and not all of them
abbrev pub IsBegun : Setting → List Doc → Option (Doc × ℕ) → Type 0
IsBegun σ docs None = Unit {0}
IsBegun σ docs (Some c) = (1 ≤ c.1) × (c.1 < length (doc_stores σ docs c.0))

-- a moment that an index can be in: an allowed setting; a lawful history, also with the document
-- that is being placed, which is begun; each converted segment is closed, and so is the next one
-- where some stores of its conversion are done, which are never all of them
pub record IsMoment (m : Moment) : Type 0 where
  pub setting : IsSetting m.setting
  pub lawful : IsLawful m.setting (with_current m.documents)
  pub begun : IsBegun m.setting m.documents.accepted m.documents.current
  pub closed : (s : ℕ) → s < m.conversions.converted → IsClosed m s
  pub packs : 1 ≤ m.conversions.packed → IsClosed m m.conversions.converted × (m.conversions.packed < length (segment_stores m.setting (with_current m.documents) m.conversions.converted))

-- the moment without a document
abbrev pub empty_moment : Setting → Moment
empty_moment σ = record { setting = σ; documents = record { accepted = []; current = None }; conversions = record { converted = 0; packed = 0 } }
