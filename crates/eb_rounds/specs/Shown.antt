-- What a round prints.
use Rattle.eb_fields.specs.Dialect.{Dialect}
use Rattle.std.specs.Prelude.{◌≡◌, ℕ, ◌+◌, ◌≤◌, ◌++◌, Bool, List, [], ◌∷◌, length, flat_map, map, count_by, if◌then◌else◌}
use Rattle.std.specs.List.{AllZip}
use mathlib.Core.List.{IsPrefix}
use Rattle.eb_base.specs.Document.{Doc}
use Rattle.eb_base.specs.Setting.{Setting}
use Rattle.eb_lines.specs.declared.form.Form.{Form}
use Rattle.eb_lines.specs.Reading.{Reading, blank, document, query, refused, watch}
use Rattle.eb_lines.specs.Progress.{is_query, is_refused}
use Rattle.eb_lines.specs.Text.{room_of, most_listed}
use Rattle.run_index.specs.IndexRules.{output_of}
use Rattle.eb_rounds.specs.Inputs.{HeldLine, Entry, ReadsLine, admitted_in, added}

-- a line, and how many documents it sees where it is a query
pub record Shown : Type 0 where
  pub line : Entry
  pub seen : ℕ

abbrev pub shown_entry : Shown → Entry
shown_entry s = s.line

-- what it prints among these documents
abbrev pub output_in : Form → List Doc → Shown → List ℕ
output_in form docs s = output_of form s.line.number s.seen docs s.line.reading

unfoldable pub shown_text : Form → List Doc → List Shown → List ℕ
shown_text form docs ss = flat_map (output_in form docs) ss

-- what the queries so far saw at most, where one more line is shown
abbrev pub least_after : ℕ → Shown → ℕ
least_after least s = if is_query s.line.reading then s.seen else least

-- no query sees fewer than one before it, and each sees from `least` to `most`
abbrev pub Rises : ℕ → List Shown → ℕ → Type 0
Rises least [] most = least ≤ most
Rises least (s ∷ ss) most = (least ≤ least_after least s) × Rises (least_after least s) ss most

-- the counts of a run
pub record Counted : Type 0 where
  pub documents : ℕ
  pub queries : ℕ
  pub refused : ℕ

abbrev pub asks : Entry → Bool
asks e = is_query e.reading

abbrev pub fails : Entry → Bool
fails e = is_refused e.reading

-- these lines, read by this dialect, were processed over an index of this setting, whose documents
-- were the old ones and are the new ones, and printed this text
pub record WorkedOff (how : Dialect) (form : Form) (σ : Setting) (held : List HeldLine) (docs_old docs_new : List Doc) (counts_old counts_new : Counted) (printed : List ℕ) : Type 0 where
  pub raw : List Entry
  pub shown : List Shown
  pub read : AllZip (ReadsLine how) held raw
  pub lines : map shown_entry shown ≡ admitted_in σ docs_old raw
  pub docs : docs_new ≡ docs_old ++ added (map shown_entry shown)
  pub numbers : Rises (length docs_old) shown (length docs_new)
  pub text : printed ≡ shown_text form docs_new shown
  pub documents : counts_new.documents ≡ counts_old.documents + length (added (map shown_entry shown))
  pub queries : counts_new.queries ≡ counts_old.queries + count_by asks (map shown_entry shown)
  pub refused : counts_new.refused ≡ counts_old.refused + count_by fails (map shown_entry shown)

-- two rounds were processed, one after the other
pub record WorkedOffBoth (how : Dialect) (form : Form) (σ : Setting) (ahead held : List HeldLine) (docs_old docs_new : List Doc)
    (counts_old counts_new : Counted) (printed : List ℕ) : Type 0 where
  pub docs_between : List Doc
  pub counts_between : Counted
  pub printed_first : List ℕ
  pub printed_then : List ℕ
  pub before : WorkedOff how form σ ahead docs_old docs_between counts_old counts_between printed_first
  pub behind : WorkedOff how form σ held docs_between docs_new counts_between counts_new printed_then
  pub text : printed ≡ printed_first ++ printed_then

-- the lines were processed, whatever was counted before: with this many more documents, queries and
-- refused lines
abbrev pub WorksOff : Dialect → Form → Setting → List HeldLine → List Doc → List Doc → List ℕ → List ℕ → ℕ → ℕ → ℕ → Type 0
WorksOff how form σ held docs_old docs_new text_old text_new d q r = (before after : Counted)
    → after.documents ≡ before.documents + d → after.queries ≡ before.queries + q → after.refused ≡ before.refused + r
    → (printed : List ℕ) × WorkedOff how form σ held docs_old docs_new before after printed × (text_new ≡ text_old ++ printed)

-- the most bytes that a line prints
abbrev pub need : Reading → ℕ
need blank = room_of 0
need (document d) = room_of 0
need (query a q) = room_of (most_listed a)
need (refused r) = room_of 0
need (watch n q) = room_of 0

-- ---- the two halves of a round

-- these lines without documents were processed, over an index that held the old documents at first
-- and the new ones at last
pub record AreAnswered (form : Form) (docs_old docs_new : List Doc) (entries : List Entry) (text_old text_new : List ℕ) (answers refusals : ℕ) : Type 0 where
  pub shown : List Shown
  pub lines : map shown_entry shown ≡ entries
  pub numbers : Rises (length docs_old) shown (length docs_new)
  pub text : text_new ≡ text_old ++ shown_text form docs_new shown
  pub queries : answers ≡ count_by asks entries
  pub refused : refusals ≡ count_by fails entries

-- a line that asks nothing
abbrev pub quiet : Entry → Shown
quiet e = record { line = e; seen = 0 }

-- these lines without queries were processed
pub record AreAdded (form : Form) (σ : Setting) (docs_old docs_new : List Doc) (entries : List Entry) (text_old text_new : List ℕ) (additions refusals : ℕ) : Type 0 where
  pub docs : docs_new ≡ docs_old ++ added (admitted_in σ docs_old entries)
  pub text : text_new ≡ text_old ++ shown_text form [] (map quiet (admitted_in σ docs_old entries))
  pub documents : additions ≡ length (added (admitted_in σ docs_old entries))
  pub refused : refusals ≡ count_by fails (admitted_in σ docs_old entries)

-- a round whose lines before the first document line were answered over a prefix of the documents
-- that it leaves
pub record IsRoundOfLines (form : Form) (σ : Setting) (docs_old docs_new : List Doc) (ahead behind : List Entry)
    (text_old text_new : List ℕ) (answers additions first_refusals last_refusals : ℕ) : Type 0 where
  pub seen : List Doc
  pub middle : List ℕ
  pub refusals : List ℕ
  pub front : IsPrefix seen docs_new
  pub answered : AreAnswered form docs_old seen ahead text_old middle answers first_refusals
  pub added : AreAdded form σ docs_old docs_new behind [] refusals additions last_refusals
  pub text : text_new ≡ middle ++ refusals
