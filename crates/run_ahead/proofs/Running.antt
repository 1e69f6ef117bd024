-- A run over a store takes many lines at once.
use Rattle.eb_fields.specs.Dialect.{Dialect, dialect_of}
use Rattle.std.proofs.Common.{◌≡◌, ℕ, ◌+◌, ◌≤◌, true, List, [], ◌∷◌, ◌++◌, length, Option, Some, None, Result, Ok, Err, refl, sym, ap, ap₂, subst, ◌∙◌, arith, append_assoc, append-nil, length-append}
use Rattle.std.specs.Prelude.{◌^◌}
use Rattle.std.specs.List.{AllZip}
use Rattle.run_store.specs.declared.answering.Answering.{Answering}
use Rattle.run_store.specs.Answering.{HasAnswered}
use Rattle.run_store.specs.Rules.{Rules, document_outcome, comes, held_behind, watches_behind}
use Rattle.run_store.specs.Stores.{HasForm}
use Rattle.run_store.proofs.Coming.{read_long}
use Rattle.run_store.proofs.Taking.{one_more, few_refused}
use Rattle.eb_base.specs.Document.{Doc}
use Rattle.eb_io.specs.Lines.{Line}
use Rattle.eb_lines.specs.declared.form.Form.{Form}
use Rattle.eb_lines.specs.declared.refusal.Refusal.{Refusal}
use Rattle.eb_lines.specs.Programs.{IsRunning}
use Rattle.eb_lines.specs.Progress.{documents_in, accepted}
use Rattle.eb_lines.proofs.Advancing.{accepted_few}
use Rattle.eb_lines.specs.Reading.{Reading, blank, document, refused}
use Rattle.eb_lines.specs.Text.{watch_line}
use Rattle.run_ahead.specs.declared.reading.Other.{Other}
use Rattle.run_ahead.specs.declared.reading.Other.TheVariants.{Blank, Ask, Refuse, Leave}
use Rattle.run_ahead.specs.Placed.{IsHoldingFor, item_refusal, docs_with, item_refusals, docs_after, PlacesAll}
use Rattle.run_ahead.specs.Runs.{TakesRun}
use Rattle.run_ahead.specs.Tasks.{IsTaskOf, is_run_task, AreRun, cause, cause_line, one_cause, run_text, run_refused}
use Rattle.run_ahead.proofs.Placings.{item_refusals_long}
use Rattle.run_ahead.proofs.RunTasks.{reads_raw, run_refused_le}

-- what a store should hold
abbrev Stand : Type 0 → Type 0
Stand W = List Doc × W

-- and it is that
abbrev stands : {W : Type 0} → Stand W → Rules W → List Doc → W → Type 0
stands s rules docs ws = (s.0 ≡ docs) × (s.1 ≡ ws)

-- a run that counts lines, with what its store should hold in place of the store
abbrev counting : {G S W : Type 0} → Answering G S → List Doc → W → ℕ → ℕ → Answering G (Stand W)
counting s docs ws number failed = record {
  alloc = s.alloc;
  gate = s.gate;
  store = (docs, ws);
  dialect = s.dialect;
  documents = s.documents;
  number = number;
  queries = s.queries;
  refused = failed;
}

module _ {G S W : Type 0} (other : Dialect → List ℕ → Reading → Type 0) (s : Answering G S) (rules : Rules W) where
  abbrev Counts : List Doc → W → ℕ → ℕ → List Line → List ℕ → Type 0
  Counts docs ws number failed given so_far = HasAnswered other stands (counting s docs ws number failed) rules given so_far

  counts_as : (docs : List Doc) (ws : W) (n m f e : ℕ) (given more : List Line) (so_far text : List ℕ) → n ≡ m → f ≡ e → given ≡ more → so_far ≡ text → Counts docs ws n f given so_far
      → Counts docs ws m e more text
  counts_as docs ws n m f e given more so_far text p q r t h =
      subst (λ x. Counts docs ws m e more x) t (subst (λ x. Counts docs ws m e x so_far) r (subst (λ x. Counts docs ws m x given so_far) q (subst (λ x. Counts docs ws x f given so_far) p h)))

  module _ (ws : W) (none : (d : Doc) → rules.tells ws d ≡ []) (n f : ℕ) (given : List Line) (so_far : List ℕ) (l : Line) (few : n ≤ 2 ^ 40) where
    document_more : (docs : List Doc) (d : Doc) (o : Option Refusal) → rules.refusal docs d ≡ o → IsTaskOf (dialect_of s.dialect) l (Ok d) → Counts docs ws n f given so_far
        → Counts (docs ++ documents_in (document_outcome d o)) ws (n + 1) (f + one_cause o) (given ++ l ∷ []) (so_far ++ cause_line rules.form (n + 1) o)
    document_more docs d None e is h =
        let old = counting s docs ws n f in
        let new = counting s (docs ++ d ∷ []) ws (n + 1) (f + 0) in
        let came : document d ≡ comes rules (held_behind rules h.readings) (watches_behind rules h.readings) (document d) =
        ap (document_outcome d) (sym e ∙ ap (λ ds. rules.refusal ds d) h.store.0) in
        let more = one_more other stands old new rules given so_far l (document d) h (reads_raw other (dialect_of s.dialect) l (Ok d) (λ x. x) is) refl (document d) came
        (ap (λ ds. ds ++ d ∷ []) h.store.0, h.store.1) refl few (omega arith) refl in
        subst (λ x. Counts (docs ++ d ∷ []) ws (n + 1) (f + 0) (given ++ l ∷ []) (so_far ++ x)) (ap (watch_line rules.form (n + 1)) (ap (λ w. rules.tells w d) (sym h.store.1) ∙ none d)) more
    document_more docs d (Some x) e is h =
        let old = counting s docs ws n f in
        let new = counting s (docs ++ []) ws (n + 1) (f + 1) in
        let came : refused x ≡ comes rules (held_behind rules h.readings) (watches_behind rules h.readings) (document d) =
        ap (document_outcome d) (sym e ∙ ap (λ ds. rules.refusal ds d) h.store.0) in
        one_more other stands old new rules given so_far l (document d) h (reads_raw other (dialect_of s.dialect) l (Ok d) (λ x. x) is) refl (refused x) came
        (ap (λ ds. ds ++ []) h.store.0, h.store.1) refl few (omega arith) refl

    pub line_more : (docs : List Doc) (task : Result Doc Other) → IsTaskOf (dialect_of s.dialect) l task → is_run_task task ≡ true → Counts docs ws n f given so_far
        → Counts (docs_with rules docs task) ws (n + 1) (f + one_cause (cause task (item_refusal rules docs task))) (given ++ l ∷ [])
        (so_far ++ cause_line rules.form (n + 1) (cause task (item_refusal rules docs task)))
    line_more docs (Ok d) is run h = document_more docs d (rules.refusal docs d) refl is h
    line_more docs (Err Blank) is run h =
        one_more other stands (counting s docs ws n f) (counting s docs ws (n + 1) (f + 0)) rules given so_far l blank h
        (reads_raw other (dialect_of s.dialect) l (Err Blank) (λ x. x) is) refl blank refl
        (h.store.0 ∙ sym (append-nil (held_behind rules h.readings)), h.store.1) refl few (omega arith) refl
    line_more docs (Err (Refuse x)) is run h =
        one_more other stands (counting s docs ws n f) (counting s docs ws (n + 1) (f + 1)) rules given so_far l (refused x) h
        (reads_raw other (dialect_of s.dialect) l (Err (Refuse x)) (λ x. x) is) refl
        (refused x) refl (h.store.0 ∙ sym (append-nil (held_behind rules h.readings)), h.store.1) refl few (omega arith) refl
    line_more docs (Err (Ask q)) is run h = absurd (cc run)
    line_more docs (Err Leave) is run h = absurd (cc run)

  lines_more : (ws : W) (none : (d : Doc) → rules.tells ws d ≡ []) (docs : List Doc) (n f : ℕ) (given : List Line) (so_far : List ℕ) (lines : List Line) (tasks : List (Result Doc Other))
      → AllZip (IsTaskOf (dialect_of s.dialect)) lines tasks → AreRun tasks → n + length tasks ≤ 2 ^ 40 + 1 → Counts docs ws n f given so_far
      → Counts (docs_after rules docs tasks) ws (n + length tasks) (f + run_refused tasks (item_refusals rules docs tasks)) (given ++ lines)
      (so_far ++ run_text rules.form n tasks (item_refusals rules docs tasks))
  unfolding docs_after item_refusals run_text run_refused
  lines_more ws none docs n f given so_far [] [] zip run few h =
      counts_as docs ws n (n + 0) f (f + 0) given (given ++ []) so_far (so_far ++ []) (omega arith) (omega arith) (sym (append-nil given)) (sym (append-nil so_far)) h
  lines_more ws none docs n f given so_far [] (t ∷ ts) zip run few h = absurd zip
  lines_more ws none docs n f given so_far (l ∷ ls) [] zip run few h = absurd zip
  lines_more ws none docs n f given so_far (l ∷ ls) (t ∷ ts) zip run few h =
      let o = item_refusal rules docs t in
      let own = cause_line rules.form (n + 1) (cause t o) in
      let one = one_cause (cause t o) in
      let next = docs_with rules docs t in
      let rest = run_text rules.form (n + 1) ts (item_refusals rules next ts) in
      let first = line_more ws none n f given so_far l (omega (arith, few)) docs t zip.0 run.0 h in
      let all = lines_more ws none next (n + 1) (f + one) (given ++ l ∷ []) (so_far ++ own) ls ts zip.1 run.1 (omega (arith, few)) first in
      let more = run_refused ts (item_refusals rules next ts) in
      counts_as (docs_after rules next ts) ws (n + 1 + length ts) (n + length (t ∷ ts)) (f + one + more) (f + (one + more))
      ((given ++ l ∷ []) ++ ls) (given ++ l ∷ ls) ((so_far ++ own) ++ rest) (so_far ++ (own ++ rest)) (omega arith) (omega arith) (append_assoc given (l ∷ []) ls) (append_assoc so_far own rest) all

module _ {G S W : Type 0} (other : Dialect → List ℕ → Reading → Type 0) (holds : S → Rules W → List Doc → W → Type 0) where
  pub takes_run : (old new : Answering G S) (form : Form) → HasForm holds old.store form
      → ((rules : Rules W) (docs : List Doc) (ws : W) → holds old.store rules docs ws → (d : Doc) → rules.tells ws d ≡ []) → (tasks : List (Result Doc Other)) (rs : List (Option Refusal))
      → PlacesAll holds old.store new.store tasks rs → AreRun tasks → old.number + length tasks ≤ 2 ^ 40 + 1 → dialect_of new.dialect ≡ dialect_of old.dialect → new.number ≡ old.number + length tasks
      → new.queries ≡ old.queries → new.refused ≡ old.refused + run_refused tasks rs → (t0 t1 : List ℕ) → t1 ≡ t0 ++ run_text form old.number tasks rs → TakesRun other holds old new t0 t1 tasks
  takes_run old new form written none tasks rs places run few same number asked failed t0 t1 text = λ lines zip rules given so_far h.
      let docs = held_behind rules h.readings in
      let ws = watches_behind rules h.readings in
      let placed = places rules docs ws h.store in
      let before : Counts other old rules docs ws old.number old.refused given so_far = record {
        readings = h.readings;
        dialect = h.dialect;
        read = h.read;
        store = (refl, refl);
        number = h.number;
        queries = h.queries;
        refused = h.refused;
        short = h.short;
        printed = h.printed;
      } in
      let after = lines_more other old rules ws (none rules docs ws h.store) docs old.number old.refused given so_far lines tasks zip run few before in (
        run_text rules.form old.number tasks (item_refusals rules docs tasks),
        record {
          readings = after.readings;
          dialect = same ∙ after.dialect;
          read = after.read;
          store = subst (λ w. holds new.store rules (held_behind rules after.readings) w) after.store.1 (subst (λ ds. holds new.store rules ds ws) after.store.0 placed.1);
          number = number ∙ after.number;
          queries = asked ∙ after.queries;
          refused = failed ∙ ap (λ xs. old.refused + run_refused tasks xs) placed.0 ∙ after.refused;
          short = omega (arith, number, few);
          printed = after.printed;
        },
        text ∙ ap₂ (λ (f : Form) xs. t0 ++ run_text f old.number tasks xs) (written rules docs ws h.store) placed.0,
      )

  module _ (s : Answering G S) (r : IsRunning (HasAnswered other holds) s) where
    -- with n more documents there are still few
    pub holding_for : (n : ℕ) → s.number + n ≤ 2 ^ 40 + 1 → IsHoldingFor holds s.store n
    holding_for n few =
        let rules = r.0 in
        let h = r.3 in
        record {
          rules = rules;
          docs = held_behind rules h.readings;
          watches = watches_behind rules h.readings;
          is = h.store;
          few = omega (arith, few, h.number, accepted_few h.readings, read_long rules other r.1 h.readings h.read, length-append rules.start (accepted h.readings));
        }

    pub outcomes_many : (new : S) (tasks : List (Result Doc Other)) (rs : List (Option Refusal)) → PlacesAll holds s.store new tasks rs → length rs ≡ length tasks
    outcomes_many new tasks rs places =
        let rules = r.0 in
        let docs = held_behind rules r.3.readings in
        ap length (places rules docs (watches_behind rules r.3.readings) r.3.store).0 ∙ item_refusals_long rules docs tasks

    pub refused_fit : (n : ℕ) (tasks : List (Result Doc Other)) (rs : List (Option Refusal)) → n ≡ run_refused tasks rs → s.number + length tasks ≤ 2 ^ 40 + 1 → s.refused + n ≤ 2 ^ 40 + 1
    refused_fit n tasks rs is few = omega (arith, is, few, run_refused_le tasks rs, few_refused other holds s r.0 r.1 r.2 r.3)
