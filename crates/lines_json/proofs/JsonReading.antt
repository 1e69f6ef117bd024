-- The JSON lines that are printed are read as what they say.
use Rattle.std.proofs.Common.{◌≡◌, ℕ, ◌≤◌, List, [], ◌∷◌, ◌++◌, Option, Some, refl, sym, ap, ◌∙◌, arith, append-nil}
use Rattle.std.specs.Prelude.{codes, if◌then◌else◌, option_and_then}
use Rattle.std.specs.List.{AllByRecursion}
use Rattle.json.specs.Token.{Token}
use Rattle.json.specs.Lex.{tokens}
use Rattle.json.specs.Json as json
use Rattle.json.specs.Tree.{json_tokens, depth, items_depth, HasNumbers, ItemsHaveNumbers}
use Rattle.json.proofs.Printed.Decimals.{IsNumber-decimal}
use Rattle.json.proofs.Printed.Tokens.{tokens-print}
use Rattle.json.proofs.Printed.Trees.{ArePrintable-json_tokens, value-json_tokens}
use Rattle.serde_json.specs.Data.{Data, string, array, object, no_members, member}
use Rattle.serde_json.specs.Read.{of_json, of_items, read, max_depth}
use Rattle.serde_json.specs.Written.{compact_text, outline, items_outline}
use Rattle.serde_json.proofs.Numbers.{number_of-decimal}
use Rattle.serde_json.proofs.Texts.{print-outline}
use Rattle.eb_lines.specs.declared.form.Tail.{Tail}
use Rattle.eb_lines.specs.declared.form.Tail.TheVariants.{Nothing, Kept, Segments, Generations}
use Rattle.eb_lines.specs.declared.refusal.Refusal.{Refusal}
use Rattle.eb_lines.specs.declared.refusal.Refusal.TheVariants.{BadLine, LongLine, BadJson, BadDocument, TooLong}
use Rattle.eb_lines.specs.declared.refusal.Refusal.TheVariants.{NotRising, Full, BadNumber, BadQuery, QueryTooLarge, QueryTooDeep, NoWatch, WatchTaken, WatchesFull}
use Rattle.eb_lines.specs.Text.{answer_line, some_watch_line, refusal_line, summary_with}
use Rattle.eb_lines.specs.Values.{json_line, counted, numbers, answer_value, watch_value, cause}
use Rattle.eb_lines.specs.Values.{beside_cause, refusal_value, kept_member, summary_value, segments_value, generations_value, segments_lines}
use Rattle.eb_lines.specs.Words.{answer_words, watch_words, refusal_words, summary_words}
use Rattle.lines_json.specs.JsonLaws.{IsWord, AnswersRead, WatchesRead, TellsWord, followed_by, RefusalsRead, TellsWords, EndsRead, SegmentsRead, GenerationsRead}

abbrev whole : Option (json.Json × List Token) → Option Data
whole o = option_and_then of_json (option_and_then (λ p. json.if_last p.0 p.1) o)

-- a value whose numbers have texts, and which nests little, is read from its text
read_as : (d v : Data) → HasNumbers (outline d) → depth (outline d) ≤ max_depth → of_json (outline d) ≡ Some v → read (compact_text d) ≡ Some v
read_as d v fit shallow is =
    let same : tokens (compact_text d) ≡ json_tokens (outline d) =
    ap tokens (sym (print-outline d)) ∙ tokens-print (json_tokens (outline d)) (ArePrintable-json_tokens (outline d) fit) in
    ap whole (ap (json.value max_depth) (same ∙ sym (append-nil (json_tokens (outline d)))) ∙ value-json_tokens (outline d) max_depth [] shallow) ∙ is

-- ---- lists of numbers

numbers_fit : (ns : List ℕ) → AllByRecursion IsWord ns → ItemsHaveNumbers (items_outline (numbers ns))
numbers_fit [] h = tt
numbers_fit (n ∷ ns) h = (IsNumber-decimal n h.0, numbers_fit ns h.1)

numbers_flat : (ns : List ℕ) → items_depth (items_outline (numbers ns)) ≡ 0
numbers_flat [] = refl
numbers_flat (n ∷ ns) = rw (numbers_flat ns) refl

numbers_read : (ns : List ℕ) → AllByRecursion IsWord ns → of_items (items_outline (numbers ns)) ≡ Some (numbers ns)
numbers_read [] h = refl
numbers_read (n ∷ ns) h = rw (number_of-decimal n h.0, numbers_read ns h.1) refl

-- ---- the lines

pub answers_read : AnswersRead
unfolding answer_line
answers_read form is line seen ids h1 h2 hs = (
  compact_text (answer_value line seen ids),
  ap (λ b. if b then json_line (answer_value line seen ids) else answer_words line seen ids) is,
  read_as (answer_value line seen ids) (object (member (codes "ids") (array (numbers ids)) (counted (codes "line") line (counted (codes "seen") seen no_members))))
      (IsNumber-decimal line h1, (IsNumber-decimal seen h2, (numbers_fit ids hs, tt))) (rw (numbers_flat ids) (omega arith))
      (rw (number_of-decimal line h1, number_of-decimal seen h2, numbers_read ids hs) refl),
)

pub watches_read : WatchesRead
unfolding some_watch_line
watches_read form is line n ns h1 hs = (
  compact_text (watch_value line (n ∷ ns)),
  ap (λ b. if b then json_line (watch_value line (n ∷ ns)) else watch_words line (n ∷ ns)) is,
  read_as (watch_value line (n ∷ ns)) (object (counted (codes "line") line (member (codes "watches") (array (numbers (n ∷ ns))) no_members)))
      (IsNumber-decimal line h1, (numbers_fit (n ∷ ns) hs, tt)) (rw (numbers_flat (n ∷ ns)) (omega arith))
      (rw (number_of-decimal line h1, numbers_read (n ∷ ns) hs) refl),
)

cause_read : (line : ℕ) (r : Refusal) → IsWord line → TellsWord r
    → read (compact_text (refusal_value line r)) ≡ Some (object (followed_by (beside_cause r) (counted (codes "line") line (member (codes "refused") (string (cause r)) no_members))))
cause_read line (NotRising last) h k = read_as (refusal_value line (NotRising last)) _ (IsNumber-decimal line h, (tt, (IsNumber-decimal last k, tt))) (omega arith)
    (rw (number_of-decimal line h, number_of-decimal last k) refl)
cause_read line (BadQuery column) h k = read_as (refusal_value line (BadQuery column)) _ (IsNumber-decimal line h, (tt, (IsNumber-decimal column k, tt))) (omega arith)
    (rw (number_of-decimal line h, number_of-decimal column k) refl)
cause_read line BadLine h k = read_as (refusal_value line BadLine) _ (IsNumber-decimal line h, (tt, tt)) (omega arith) (rw (number_of-decimal line h) refl)
cause_read line LongLine h k = read_as (refusal_value line LongLine) _ (IsNumber-decimal line h, (tt, tt)) (omega arith) (rw (number_of-decimal line h) refl)
cause_read line BadJson h k = read_as (refusal_value line BadJson) _ (IsNumber-decimal line h, (tt, tt)) (omega arith) (rw (number_of-decimal line h) refl)
cause_read line BadDocument h k = read_as (refusal_value line BadDocument) _ (IsNumber-decimal line h, (tt, tt)) (omega arith) (rw (number_of-decimal line h) refl)
cause_read line TooLong h k = read_as (refusal_value line TooLong) _ (IsNumber-decimal line h, (tt, tt)) (omega arith) (rw (number_of-decimal line h) refl)
cause_read line Full h k = read_as (refusal_value line Full) _ (IsNumber-decimal line h, (tt, tt)) (omega arith) (rw (number_of-decimal line h) refl)
cause_read line BadNumber h k = read_as (refusal_value line BadNumber) _ (IsNumber-decimal line h, (tt, tt)) (omega arith) (rw (number_of-decimal line h) refl)
cause_read line QueryTooLarge h k = read_as (refusal_value line QueryTooLarge) _ (IsNumber-decimal line h, (tt, tt)) (omega arith) (rw (number_of-decimal line h) refl)
cause_read line QueryTooDeep h k = read_as (refusal_value line QueryTooDeep) _ (IsNumber-decimal line h, (tt, tt)) (omega arith) (rw (number_of-decimal line h) refl)
cause_read line NoWatch h k = read_as (refusal_value line NoWatch) _ (IsNumber-decimal line h, (tt, tt)) (omega arith) (rw (number_of-decimal line h) refl)
cause_read line WatchTaken h k = read_as (refusal_value line WatchTaken) _ (IsNumber-decimal line h, (tt, tt)) (omega arith) (rw (number_of-decimal line h) refl)
cause_read line WatchesFull h k = read_as (refusal_value line WatchesFull) _ (IsNumber-decimal line h, (tt, tt)) (omega arith) (rw (number_of-decimal line h) refl)

pub refusals_read : RefusalsRead
unfolding refusal_line
refusals_read form is line r h k = (
  compact_text (refusal_value line r),
  ap (λ b. if b then json_line (refusal_value line r) else refusal_words line r) is,
  cause_read line r h k,
)

counts_read : (d q r : ℕ) (t : Tail) → IsWord d → IsWord q → IsWord r → TellsWords t
    → read (compact_text (summary_value d q r t))
    ≡ Some (object (member (codes "end") (object (counted (codes "documents") d (followed_by (kept_member t) (counted (codes "queries") q (counted (codes "refused") r no_members))))) no_members))
counts_read d q r Nothing h1 h2 h3 k = read_as (summary_value d q r Nothing) _ ((IsNumber-decimal d h1, (IsNumber-decimal q h2, (IsNumber-decimal r h3, tt))), tt) (omega arith)
    (rw (number_of-decimal d h1, number_of-decimal q h2, number_of-decimal r h3) refl)
counts_read d q r (Kept kept) h1 h2 h3 k = read_as (summary_value d q r (Kept kept)) _
    ((IsNumber-decimal d h1, (IsNumber-decimal q h2, (IsNumber-decimal r h3, (IsNumber-decimal kept k, tt)))), tt) (omega arith)
    (rw (number_of-decimal d h1, number_of-decimal q h2, number_of-decimal r h3, number_of-decimal kept k) refl)
counts_read d q r (Segments begun converted) h1 h2 h3 k = read_as (summary_value d q r (Segments begun converted)) _
    ((IsNumber-decimal d h1, (IsNumber-decimal q h2, (IsNumber-decimal r h3, tt))), tt) (omega arith)
    (rw (number_of-decimal d h1, number_of-decimal q h2, number_of-decimal r h3) refl)
counts_read d q r (Generations kept segments converted begun) h1 h2 h3 k = read_as (summary_value d q r (Generations kept segments converted begun)) _
    ((IsNumber-decimal d h1, (IsNumber-decimal q h2, (IsNumber-decimal r h3, (IsNumber-decimal kept k.0, tt)))), tt) (omega arith)
    (rw (number_of-decimal d h1, number_of-decimal q h2, number_of-decimal r h3, number_of-decimal kept k.0) refl)

pub ends_read : EndsRead
unfolding summary_with
ends_read form is d q r t h1 h2 h3 k = (
  json_line (summary_value d q r t),
  ap (λ b. if b then json_line (summary_value d q r t) ++ segments_lines t else summary_words d q r t) is,
  (compact_text (summary_value d q r t), refl, counts_read d q r t h1 h2 h3 k),
)

pub segments_read : SegmentsRead
segments_read begun converted h1 h2 = (
  compact_text (segments_value begun converted),
  refl,
  read_as (segments_value begun converted) (object (counted (codes "converted") converted (counted (codes "segments") begun no_members)))
      (IsNumber-decimal begun h1, (IsNumber-decimal converted h2, tt)) (omega arith) (rw (number_of-decimal begun h1, number_of-decimal converted h2) refl),
)

pub generations_read : GenerationsRead
generations_read kept segments converted begun h1 h2 h3 = (
  compact_text (generations_value segments converted begun),
  refl,
  read_as (generations_value segments converted begun)
      (object (counted (codes "converted") converted (counted (codes "generations") begun (counted (codes "segments") segments no_members))))
      (IsNumber-decimal segments h1, (IsNumber-decimal converted h2, (IsNumber-decimal begun h3, tt))) (omega arith)
      (rw (number_of-decimal segments h1, number_of-decimal converted h2, number_of-decimal begun h3) refl),
)
