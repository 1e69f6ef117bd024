-- Lines that are read, and those whose documents are added many at once.
use Rattle.eb_fields.specs.Dialect.{Dialect}
use Rattle.std.proofs.Common.{◌≡◌, ℕ, ◌+◌, ◌<◌, ◌≤◌, suc, true, List, [], ◌∷◌, ◌++◌, length, take, drop, get_or, Option, Some, None, Result, Ok, Err, sym, ap, ap₂, subst, ◌∙◌, arith, append_assoc}
use Rattle.std.proofs.lemmas.List.{take_more, drop_all}
use Rattle.std.proofs.Math.Seq.{drop-cons}
use Rattle.run_store.specs.Rules.{ReadsKind, ReadsWith}
use Rattle.eb_base.specs.Document.{Doc}
use Rattle.eb_base.specs.Query.{tree}
use Rattle.eb_io.specs.Lines.{Line, line, long_line}
use Rattle.eb_lines.specs.declared.form.Form.{Form}
use Rattle.eb_lines.specs.declared.refusal.Refusal.{Refusal}
use Rattle.eb_lines.specs.Kinds.{Kind, blank_line, document_line, query_line, bad_line, kind_of}
use Rattle.eb_lines.specs.Reading.{Reading, blank, document, query, refused}
use Rattle.eb_lines.specs.Reads.{ReadsByKind}
use Rattle.run_ahead.specs.declared.reading.Other.{Other}
use Rattle.run_ahead.specs.declared.reading.Other.TheVariants.{Blank, Ask, Refuse, Leave}
use Rattle.run_ahead.specs.Tasks.{IsTaskOfKind, IsLeftToStore, IsTaskBy, IsTaskOf, is_run_task, AreRun, cause, cause_line, one_cause, run_text, run_refused}

-- ---- the first lines that may be added at once

run_push : (tasks : List (Result Doc Other)) (task : Result Doc Other) → AreRun tasks → is_run_task task ≡ true → AreRun (tasks ++ task ∷ [])
run_push [] task h is = (is, tt)
run_push (t ∷ ts) task h is = (h.0, run_push ts task h.1 is)

pub run_next : (tasks : List (Result Doc Other)) (at : ℕ) (task : Result Doc Other) → at < length tasks → task ≡ get_or tasks at task → AreRun (take at tasks) → is_run_task task ≡ true
    → AreRun (take (at + 1) tasks)
run_next tasks at task low is h run =
    subst AreRun (sym (take_more tasks at task low ∙ ap (λ x. take at tasks ++ x ∷ []) (sym is))) (run_push (take at tasks) task h run)

-- ---- how a line is read

-- what a line is read as that isn't left to the store
abbrev pub raw_reading : Result Doc Other → Reading
raw_reading (Ok d) = document d
raw_reading (Err Blank) = blank
raw_reading (Err (Ask q)) = query q.ask (tree q.query)
raw_reading (Err (Refuse x)) = refused x
raw_reading (Err Leave) = blank

of_kind : (how : Dialect) (k : Kind) (bytes : List ℕ) (task : Result Doc Other) → IsTaskOfKind how k bytes task → ReadsByKind how k bytes (raw_reading task)
of_kind how k bytes (Ok d) h = h
of_kind how k bytes (Err Blank) h = h
of_kind how k bytes (Err (Ask q)) h = h.1
of_kind how k bytes (Err (Refuse x)) h = h
of_kind how k bytes (Err Leave) h = absurd h

by_kind : (other : Dialect → List ℕ → Reading → Type 0) (how : Dialect) (k : Kind) (bytes : List ℕ) (task : Result Doc Other) → (IsLeftToStore task → ⊥)
    → IsTaskBy how k bytes task → ReadsKind other how k bytes (raw_reading task)
by_kind other how blank_line bytes task kept h = of_kind how blank_line bytes task h
by_kind other how document_line bytes task kept h = of_kind how document_line bytes task h
by_kind other how query_line bytes task kept h = of_kind how query_line bytes task h
by_kind other how bad_line bytes task kept h = absurd (kept h)

pub reads_raw : (other : Dialect → List ℕ → Reading → Type 0) (how : Dialect) (l : Line) (task : Result Doc Other) → (IsLeftToStore task → ⊥) → IsTaskOf how l task
    → ReadsWith other how l (raw_reading task)
reads_raw other how (line bytes) task kept h = by_kind other how (kind_of how bytes) bytes task kept h
reads_raw other how long_line task kept h = ap raw_reading h

-- ---- what lines print, from one of them on

module _ (tasks : List (Result Doc Other)) (rs : List (Option Refusal)) (at : ℕ) (task : Result Doc Other) (r : Option Refusal)
    (low : at < length tasks) (low_too : at < length rs) (task_is : task ≡ get_or tasks at task) (r_is : r ≡ get_or rs at None) where
  here : drop at tasks ≡ task ∷ drop (at + 1) tasks
  here =
      let plus : suc at ≡ at + 1 = omega arith in drop-cons tasks at task low ∙ ap₂ (λ x n. x ∷ drop n tasks) (sym task_is) plus

  here_too : drop at rs ≡ r ∷ drop (at + 1) rs
  here_too =
      let plus : suc at ≡ at + 1 = omega arith in drop-cons rs at None low_too ∙ ap₂ (λ x n. x ∷ drop n rs) (sym r_is) plus

  pub text_at : (form : Form) (before : ℕ) → run_text form (before + at) (drop at tasks) (drop at rs)
      ≡ cause_line form (before + at + 1) (cause task r) ++ run_text form (before + (at + 1)) (drop (at + 1) tasks) (drop (at + 1) rs)
  unfolding run_text
  text_at form before =
      let plus : before + at + 1 ≡ before + (at + 1) = omega arith in
      ap₂ (λ ts xs. run_text form (before + at) ts xs) here here_too
      ∙ ap (λ n. cause_line form (before + at + 1) (cause task r) ++ run_text form n (drop (at + 1) tasks) (drop (at + 1) rs)) plus

  pub refused_at : run_refused (drop at tasks) (drop at rs) ≡ one_cause (cause task r) + run_refused (drop (at + 1) tasks) (drop (at + 1) rs)
  unfolding run_refused
  refused_at = ap₂ (λ ts xs. run_refused ts xs) here here_too

-- the texts are put one after the other
pub text_on : (t0 t1 t2 own rest all whole : List ℕ) → t2 ≡ t1 ++ own → all ≡ own ++ rest → t1 ++ all ≡ t0 ++ whole → t2 ++ rest ≡ t0 ++ whole
text_on t0 t1 t2 own rest all whole e f g = ap (λ t. t ++ rest) e ∙ append_assoc t1 own rest ∙ ap (λ x. t1 ++ x) (sym f) ∙ g

-- nothing is printed past the last one
pub text_end : (form : Form) (number : ℕ) (tasks : List (Result Doc Other)) (rs : List (Option Refusal)) (at : ℕ) → length tasks ≤ at → run_text form number (drop at tasks) rs ≡ []
unfolding run_text
text_end form number tasks rs at past = ap (λ ts. run_text form number ts rs) (drop_all at tasks past)

pub refused_end : (tasks : List (Result Doc Other)) (rs : List (Option Refusal)) (at : ℕ) → length tasks ≤ at → run_refused (drop at tasks) rs ≡ 0
unfolding run_refused
refused_end tasks rs at past = ap (λ ts. run_refused ts rs) (drop_all at tasks past)

pub one_cause_le : (r : Option Refusal) → one_cause r ≤ 1
one_cause_le None = omega arith
one_cause_le (Some x) = omega arith

pub run_refused_le : (tasks : List (Result Doc Other)) (rs : List (Option Refusal)) → run_refused tasks rs ≤ length tasks
unfolding run_refused
run_refused_le [] rs = omega arith
run_refused_le (t ∷ ts) [] = omega arith
run_refused_le (t ∷ ts) (r ∷ rs) = omega (arith, one_cause_le (cause t r), run_refused_le ts rs)
