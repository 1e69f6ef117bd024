-- What a store makes of the lines of an input.
use Rattle.eb_fields.specs.Dialect.{Dialect}
use Rattle.std.specs.Prelude.{◌≡◌, ℕ, ◌<◌, List, [], ◌∷◌, ◌++◌, Option, Some, None}
use Rattle.std.specs.List.{AllZip}
use Rattle.eb_base.specs.Document.{Doc}
use Rattle.eb_base.specs.Query.{Tree}
use Rattle.eb_io.specs.Lines.{Line, line, long_line}
use Rattle.eb_lines.specs.declared.form.Form.{Form}
use Rattle.eb_lines.specs.declared.form.Tail.{Tail}
use Rattle.eb_lines.specs.declared.refusal.Refusal.{Refusal}
use Rattle.eb_lines.specs.declared.refusal.Refusal.TheVariants.{BadLine, LongLine}
use Rattle.eb_lines.specs.Kinds.{Kind, blank_line, document_line, query_line, bad_line, kind_of}
use Rattle.eb_lines.specs.Progress.{documents_in, accepted, refusals}
use Rattle.eb_lines.specs.Reading.{Reading, blank, document, query, refused, watch}
use Rattle.eb_lines.specs.Reads.{ReadsByKind}

-- by which rules a store takes lines, where W is what it holds beside documents: how lines are read; what it holds before the first line; why it
-- refuses a document after those that it has accepted, if it does, and which watches it tells else; over which of them a query is
-- answered; why it refuses a watch line, and what it holds after one that it doesn't refuse; how what is printed is written, and what is
-- printed beside the counts of the summary
pub record Rules (W : Type 0) : Type 0 where
  pub dialect : Dialect
  pub start : List Doc
  pub watches : W
  pub refusal : List Doc → Doc → Option Refusal
  pub tells : W → Doc → List ℕ
  pub sees : List Doc → List Doc
  pub watch_refusal : W → ℕ → Option Tree → Option Refusal
  pub with_watch : W → ℕ → Option Tree → W
  pub form : Form
  pub tail : List Doc → Tail

-- what a document comes to; a watch line
abbrev pub document_outcome : Doc → Option Refusal → Reading
document_outcome d None = document d
document_outcome d (Some r) = refused r

abbrev pub watch_outcome : ℕ → Option Tree → Option Refusal → Reading
watch_outcome n q None = watch n q
watch_outcome n q (Some r) = refused r

-- what a line comes to, where a document and a watch are refused for these causes
abbrev pub comes_by : (Doc → Option Refusal) → (ℕ → Option Tree → Option Refusal) → Reading → Reading
comes_by refusal watch_refusal blank = blank
comes_by refusal watch_refusal (document d) = document_outcome d (refusal d)
comes_by refusal watch_refusal (query a q) = query a q
comes_by refusal watch_refusal (refused r) = refused r
comes_by refusal watch_refusal (watch n q) = watch_outcome n q (watch_refusal n q)

-- what it comes to after these
abbrev pub comes : {W : Type 0} → Rules W → List Doc → W → Reading → Reading
comes rules docs ws r = comes_by (rules.refusal docs) (rules.watch_refusal ws) r

-- what is held beside documents after a line that came to this
abbrev pub watches_after : {W : Type 0} → Rules W → W → Reading → W
watches_after rules ws blank = ws
watches_after rules ws (document d) = ws
watches_after rules ws (query a q) = ws
watches_after rules ws (refused r) = ws
watches_after rules ws (watch n q) = rules.with_watch ws n q

unfoldable pub watches_from : {W : Type 0} → Rules W → W → List Reading → W
watches_from rules ws [] = ws
watches_from rules ws (r ∷ rs) = watches_from rules (watches_after rules ws r) rs

-- what the lines come to, in order, after these
unfoldable pub come_behind : {W : Type 0} → Rules W → List Doc → W → List Reading → List Reading
come_behind rules docs ws [] = []
come_behind rules docs ws (r ∷ rs) =
    comes rules docs ws r ∷ come_behind rules (docs ++ documents_in (comes rules docs ws r)) (watches_after rules ws (comes rules docs ws r)) rs

-- how a line is read by a dialect, where it is said how one is read that is neither blank, nor a document or query line
abbrev pub ReadsKind : (Dialect → List ℕ → Reading → Type 0) → Dialect → Kind → List ℕ → Reading → Type 0
ReadsKind other how blank_line bytes r = ReadsByKind how blank_line bytes r
ReadsKind other how document_line bytes r = ReadsByKind how document_line bytes r
ReadsKind other how query_line bytes r = ReadsByKind how query_line bytes r
ReadsKind other how bad_line bytes r = other how bytes r

abbrev pub ReadsWith : (Dialect → List ℕ → Reading → Type 0) → Dialect → Line → Reading → Type 0
ReadsWith other how (line bytes) r = ReadsKind other how (kind_of how bytes) bytes r
ReadsWith other how long_line r = r ≡ refused LongLine

-- the lines are read one by one in this way, and come to these
abbrev pub ComeTo : {W : Type 0} → (Line → Reading → Type 0) → Rules W → List Line → List Reading → Type 0
ComeTo reads rules lines rs = (raw : List Reading) × AllZip reads lines raw × (rs ≡ come_behind rules rules.start rules.watches raw)

abbrev pub AreRead : {W : Type 0} → (Dialect → List ℕ → Reading → Type 0) → Rules W → List Line → List Reading → Type 0
AreRead other rules = ComeTo (ReadsWith other rules.dialect) rules

-- what a store holds after lines that came to these
abbrev pub held_behind : {W : Type 0} → Rules W → List Reading → List Doc
held_behind rules rs = rules.start ++ accepted rs

abbrev pub watches_behind : {W : Type 0} → Rules W → List Reading → W
watches_behind rules rs = watches_from rules rules.watches rs

-- some line is refused; none is
abbrev pub HasRefusal : {W : Type 0} → (Dialect → List ℕ → Reading → Type 0) → Rules W → List Line → Type 0
HasRefusal other rules lines = (rs : List Reading) × AreRead other rules lines rs × (0 < refusals rs)

abbrev pub HasNoRefusal : {W : Type 0} → (Dialect → List ℕ → Reading → Type 0) → Rules W → List Line → Type 0
HasNoRefusal other rules lines = (rs : List Reading) × AreRead other rules lines rs × (refusals rs ≡ 0)

-- ---- of a store without watches

abbrev pub plain_rules : Dialect → List Doc → (List Doc → Doc → Option Refusal) → (List Doc → List Doc) → Form → (List Doc → Tail) → Rules (Unit {0})
plain_rules how start refusal sees form tail = record {
  dialect = how;
  start = start;
  watches = tt;
  refusal = refusal;
  tells = λ ws d. [];
  sees = sees;
  watch_refusal = λ ws n q. None;
  with_watch = λ ws n q. ws;
  form = form;
  tail = tail;
}

-- another line is a bad line
abbrev pub is_bad : Dialect → List ℕ → Reading → Type 0
is_bad how bytes r = r ≡ refused BadLine
