-- What a blend, its tokens and its frames are to a contract.
use Rattle.std.specs.Prelude.{◌≡◌, ◌≢◌, ℕ, ◌+◌, ◌-◌, ◌<◌, ◌%◌, ◌^◌, List, [], ◌∷◌, ◌++◌, map, flat_map, zip, length, get_or, set, min, sum, Option, Some, None}
use mathlib.Core.List.{IsPrefix}
use Rattle.eb_base.specs.Document.{Doc}
use Rattle.eb_base.specs.Setting.{Setting}
use Rattle.eb_place.specs.Room.{cut}
use Rattle.eb_table.specs.Known.{Words}
use Rattle.eb_engine.specs.Tokens.{HistoryToken, ConverterToken, AreClosed}

-- the setting of each part, and the index of each part
pub record Parts : Type 0 where
  pub setting : Setting
  pub indexes : List Words

-- of a writer: the index of each part, the history of each part, and the id of the document that
-- was added last, if there is one
pub record WriterTokens : Type 0 where
  pub indexes : List Words
  pub histories : List (List Doc)
  pub last : Option ℕ

-- of a reader: the index of each part, and the documents that it knows of each part
pub record ReaderTokens : Type 0 where
  pub indexes : List Words
  pub histories : List (List Doc)

-- of a converter: the index of each part, the documents that it knows of each part, and how many
-- segments of each it converted
pub record ConverterTokens : Type 0 where
  pub indexes : List Words
  pub histories : List (List Doc)
  pub converted : List ℕ

abbrev pub indexes_of : List HistoryToken → List Words
indexes_of ts = map (λ t. t.index) ts

abbrev pub histories_of : List HistoryToken → List (List Doc)
histories_of ts = map (λ t. t.docs) ts

-- the same of a converter's parts
abbrev pub converter_indexes_of : List ConverterToken → List Words
converter_indexes_of ts = map (λ t. t.index) ts

abbrev pub converter_histories_of : List ConverterToken → List (List Doc)
converter_histories_of ts = map (λ t. t.docs) ts

abbrev pub converted_of : List ConverterToken → List ℕ
converted_of ts = map (λ t. t.converted) ts

-- what a converter of these parts is to a contract
abbrev pub tokens_of : List ConverterToken → ConverterTokens
tokens_of ts = record { indexes = converter_indexes_of ts; histories = converter_histories_of ts; converted = converted_of ts }

-- how many documents the histories have
abbrev pub lengths_of : List (List Doc) → List ℕ
lengths_of hs = map length hs

-- the sum, or the greatest number of 64 bits where it is greater
abbrev pub counted : List ℕ → ℕ
counted ns = min (sum ns) (2 ^ 64 - 1)

-- the same at 32 bits
abbrev pub few_counted : List ℕ → ℕ
few_counted ns = min (sum ns) (2 ^ 32 - 1)

-- the number of segments of each part
abbrev pub segments_of : List Words → List (List Doc) → List ℕ
segments_of ws hs = map (λ (p : Words × List Doc). length (cut p.0.setting p.1)) (zip ws hs)

-- what a part holds of the histories
abbrev pub history : List (List Doc) → ℕ → List Doc
history hs p = get_or hs p []

-- the part of a document: its id modulo the number of parts
abbrev pub part_of : List (List Doc) → Doc → ℕ
part_of hs d = d.id % length hs

-- the histories with one more document, after that of its part
abbrev pub with_document : List (List Doc) → Doc → List (List Doc)
with_document hs d = set hs (part_of hs d) (history hs (part_of hs d) ++ d ∷ [])

-- the id is above the last one, where there is one
abbrev pub IsAbove : Option ℕ → ℕ → Type 0
IsAbove None id = Unit {0}
IsAbove (Some last) id = last < id

-- each history is a prefix of what the other holds of the same part
pub record AreFronts (hs all : List (List Doc)) : Type 0 where
  pub parts : length hs ≡ length all
  pub each : (p : ℕ) → IsPrefix (history hs p) (history all p)

-- the converter knows the history of a part, and each of its segments whose following segment has a
-- document is converted; of the other parts it knows as much as before, and converted as many
-- segments
pub record IsCaughtUp (σ : Setting) (hs : List (List Doc)) (p : ℕ) (old new : ConverterTokens) : Type 0 where
  pub told : IsPrefix (history hs p) (history new.histories p)
  pub converted : (s : ℕ) → s + 1 < length (cut σ (history hs p)) → s < get_or new.converted p 0
  pub others : (q : ℕ) → q ≢ p → (history new.histories q ≡ history old.histories q) × (get_or new.converted q 0 ≡ get_or old.converted q 0)

-- in each part the segments that are converted are closed in the history
pub record AllClosed (σ : Setting) (hs : List (List Doc)) (converted : List ℕ) : Type 0 where
  pub each : (p : ℕ) → p < length hs → AreClosed σ (history hs p) (get_or converted p 0)

-- in each part each segment whose following segment has a document is converted
pub record AllConverted (σ : Setting) (hs : List (List Doc)) (converted : List ℕ) : Type 0 where
  pub each : (p s : ℕ) → p < length hs → s + 1 < length (cut σ (history hs p)) → s < get_or converted p 0

-- the lists one after the other
abbrev pub joined : List (List ℕ) → List ℕ
joined xss = flat_map (λ xs. xs) xss
