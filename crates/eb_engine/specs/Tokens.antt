-- What an index, and its writer, readers and converter are to a contract.
use Rattle.std.specs.Prelude.{◌≡◌, ℕ, ◌+◌, ◌<◌, ◌≤◌, List, [], ◌∷◌, ◌++◌, length, take, Option, None, Some}
use Rattle.eb_base.specs.Document.{Doc}
use Rattle.eb_base.specs.Setting.{Setting}
use Rattle.eb_convert.specs.declared.conversion.Converted.{Converted}
use Rattle.eb_convert.specs.declared.conversion.Converted.TheVariants.{One, Nothing}
use Rattle.eb_place.specs.Room.{cut}
use Rattle.eb_table.specs.Known.{Words, Known}

-- of a writer: its index, and its history, which is the documents that it added, in order, and all
-- that was stored of documents, since it places none between two calls. Of a reader: its index, and
-- the documents that it knows, which are the first ones of the writer's history. Of both: how many
-- segments it knows to be converted, which are the first ones
pub record HistoryToken : Type 0 where
  pub index : Words
  pub docs : List Doc
  pub converted : ℕ

-- of a converter: its index, the documents that it knows, which are the first ones of the writer's
-- history, the document that it knows to be placed after these, if there is one, and the number of
-- segments that it converted
pub record ConverterToken : Type 0 where
  pub index : Words
  pub docs : List Doc
  pub placing : Option Doc
  pub converted : ℕ

-- the index that a seat is of
abbrev pub index_of : Known → Words
index_of k = record { table = k.table; setting = k.moment.setting }

-- the first n documents that are accepted at the moment that a seat knows
abbrev pub first_of : ℕ → Known → List Doc
first_of n k = take n k.moment.documents.accepted

-- each of the first n segments is closed in the history: a further one is begun
abbrev pub AreClosed : Setting → List Doc → ℕ → Type 0
AreClosed σ docs n = (s : ℕ) → s < n → s + 1 < length (cut σ docs)

-- the document of a placing that is begun
abbrev pub placed_by : Option (Doc × ℕ) → Option Doc
placed_by None = None
placed_by (Some c) = Some c.0

-- the history, and the document that is being placed after it, if there is one
abbrev pub with_placing : List Doc → Option Doc → List Doc
with_placing docs None = docs
with_placing docs (Some d) = docs ++ d ∷ []

-- all documents that a converter knows, also the one that is being placed
abbrev pub known_to : ConverterToken → List Doc
known_to t = with_placing t.docs t.placing

-- what a call of the converter did: it converted the next segment, which is closed by a document
-- that it knows; or nothing, and no document that it then knows begins the segment after the next
-- one
abbrev pub Converts : Setting → ConverterToken → ConverterToken → Converted → Type 0
Converts σ old new (One s) = (s ≡ old.converted) × (new.converted ≡ old.converted + 1) × (s + 1 < length (cut σ (known_to new)))
Converts σ old new Nothing = (new.converted ≡ old.converted) × (length (cut σ (known_to new)) ≤ old.converted + 1)
