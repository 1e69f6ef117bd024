-- What is asked, and what an answer reports.
use Rattle.std.specs.Prelude.{◌≡◌, ◌⊎◌, ℕ, ◌-◌, ◌&&◌, Bool, true, false, List, ◌++◌, length, min, take, drop, codes, Option, Some, None}
use Rattle.std.specs.Fmt.{decimal}
use Rattle.std.specs.Str.{is_utf8}
use Rattle.eb_base.specs.Document.{Doc}
use Rattle.eb_base.specs.Query.{Tree, tree}
use Rattle.eb_base.specs.Match.{answer}
use Rattle.eb_cursor.specs.Frames.{query_of, k_of}
use Rattle.eb_query.specs.declared.ask.Ask.TheVariants.{Newest, Counts}
use Rattle.eb_query.specs.Reading as reading
use Rattle.eb_fields.specs.Dialect.{Dialect, plain, uncounted}
use Rattle.eb_c.specs.declared.index.Answer.{Answer}
use Rattle.eb_c.specs.declared.refusal.Refusal.{Refusal}
use Rattle.eb_c.specs.declared.refusal.Refusal.TheVariants as refusal
use Rattle.eb_c.specs.declared.parsed.Parsed.{Parsed}
use Rattle.eb_c.specs.declared.parsed.Parsed.TheVariants as parsed
use Rattle.eb_c.specs.declared.reading.Question.{Question}
use Rattle.eb_c.specs.declared.reading.Question.TheVariants as question
use Rattle.eb_c.specs.Numbers.{refusal_number}
use Rattle.eb_c.specs.Adding.{is_long, begins_with}
use Rattle.eb_c.specs.declared.dialects.Reading.{Reading}
use Rattle.eb_c.specs.Dialects.{dialect_by}

-- the newest matches are asked for, at most this many, or the question is refused; a bad query has
-- the column of its fault, others 0
pub data Asked : Type 0 where
  asks : ℕ → Tree → Asked
  refused : Refusal → ℕ → Asked

-- what a query line comes to, with the columns counted after this many bytes; here no line asks for
-- counts
abbrev pub asked_behind : ℕ → reading.Outcome → Asked
asked_behind n (reading.asks (Newest k) q) = asks k q
asked_behind n (reading.asks (Counts x w m) q) = refused refusal.BadLine 0
asked_behind n reading.bad_number = refused refusal.BadNumber 0
asked_behind n (reading.bad_query column) = refused refusal.BadQuery (column - n)
asked_behind n reading.too_deep = refused refusal.QueryTooDeep 0
asked_behind n reading.too_many_nodes = refused refusal.QueryTooLarge 0

-- the line reads so by the dialect, which begins with a question mark and is UTF-8
abbrev pub ReadsBy : Dialect → ℕ → List ℕ → Asked → Type 0
ReadsBy how n line x = (o : reading.Outcome) × reading.ReadsWith (uncounted how) line o × (x ≡ asked_behind n o)

-- by whether the line is long, and is a query line
abbrev pub AsksBy : Dialect → Bool → Bool → List ℕ → Asked → Type 0
AsksBy how true is_query line x = x ≡ refused refusal.LongLine 0
AsksBy how false true line x = ReadsBy how 0 line x
AsksBy how false false line x = x ≡ refused refusal.BadLine 0

-- what a query line asks, which begins with `?` (63)
abbrev pub LineAsksBy : Dialect → List ℕ → Asked → Type 0
LineAsksBy how line = AsksBy how (is_long line) (begins_with 63 line && is_utf8 line) line

-- and so where no option says otherwise
abbrev pub LineAsks : List ℕ → Asked → Type 0
LineAsks = LineAsksBy plain

-- what comes before a query text in the line that asks for k matches of it
abbrev pub line_front : ℕ → List ℕ
line_front k = codes "?" ++ decimal k ++ codes " "

-- by whether the text is UTF-8
abbrev pub TextAsksIf : Dialect → Bool → ℕ → List ℕ → Asked → Type 0
TextAsksIf how true k text x = ReadsBy how (length (line_front k)) (line_front k ++ text) x
TextAsksIf how false k text x = x ≡ refused refusal.BadText 0

-- what a query text asks: what the line of `?`, the number, a blank and the text asks, the columns
-- counted in the text
abbrev pub TextAsksBy : Dialect → ℕ → List ℕ → Asked → Type 0
TextAsksBy how k text = TextAsksIf how (is_utf8 text) k text

-- and so where no option says otherwise
abbrev pub TextAsks : ℕ → List ℕ → Asked → Type 0
TextAsks = TextAsksBy plain

-- what is asked by this; or it doesn't say how to read
abbrev pub AskedBy : (Dialect → Asked → Type 0) → Option Dialect → Asked → Type 0
AskedBy IsAsked None x = x ≡ refused refusal.BadReading 0
AskedBy IsAsked (Some how) x = IsAsked how x

-- and so where a caller says how
abbrev pub LineAsksAs : Reading → List ℕ → Asked → Type 0
LineAsksAs how line = AskedBy (λ d. LineAsksBy d line) (dialect_by how)

abbrev pub TextAsksAs : Reading → ℕ → List ℕ → Asked → Type 0
TextAsksAs how k text = AskedBy (λ d. TextAsksBy d k text) (dialect_by how)

-- what was read represents what is asked
abbrev pub parsed_of : Parsed → Asked
parsed_of (parsed.Asks wanted) = asks wanted.k (tree wanted.query)
parsed_of (parsed.Refused r column) = refused r column

-- so does a question
abbrev pub asked_of : Question → Asked
asked_of (question.Asks frame) = asks (k_of frame) (query_of frame)
asked_of (question.Refused r column) = refused r column

-- the first of these ids, as many as there is room for, before the rest of what was there
abbrev pub written : List ℕ → List ℕ → List ℕ
written ids room = take (length room) ids ++ drop (length ids) room

-- what is reported of a question that is refused
abbrev pub nothing_told : ℕ → Answer
nothing_told column = record { seen = 0; count = 0; column = column; written = 0 }

-- what is reported of these ids, found among n documents, where there is room for this many ids
abbrev pub ids_told : ℕ → List ℕ → ℕ → Answer
ids_told seen ids room = record { seen = seen; count = length ids; column = 0; written = min (length ids) room }

-- what a call answers and reports over these documents, and the ids that it writes; it reports that
-- this many were accepted
abbrev pub TellsOver : ℕ → List Doc → Asked → ℕ → Answer → List ℕ → List ℕ → Type 0
TellsOver seen docs (asks k q) number a old new =
    (number ≡ 0) × (a ≡ ids_told seen (answer q k docs) (length old)) × (new ≡ written (answer q k docs) old)
TellsOver seen docs (refused r column) number a old new = (number ≡ refusal_number r) × (a ≡ nothing_told column) × (new ≡ old)

-- the same over all documents that were accepted
abbrev pub Tells : List Doc → Asked → ℕ → Answer → List ℕ → List ℕ → Type 0
Tells docs = TellsOver (length docs) docs

-- the same for what is asked, or it is refused since memory ran out for it
abbrev pub Answers : (Asked → Type 0) → List Doc → ℕ → Answer → List ℕ → List ℕ → Type 0
Answers IsAsked docs number a old new = (x : Asked) × ((x ≡ refused refusal.NoMemory 0) ⊎ IsAsked x) × Tells docs x number a old new
