-- A run over a store takes one more line, and ends.
use Rattle.eb_fields.specs.Dialect.{Dialect, dialect_of}
use Rattle.std.proofs.Common.{◌≡◌, ℕ, ◌+◌, ◌≤◌, List, [], ◌∷◌, ◌++◌, length, Option, Some, None, refl, sym, ap, ap₂, subst, ◌∙◌, arith, append_assoc, append-nil, length-append}
use Rattle.std.specs.Prelude.{◌^◌}
use Rattle.std.proofs.lemmas.List.Sums.{count_by-le-length}
use Rattle.eb_base.specs.Document.{Doc}
use Rattle.eb_base.specs.Query.{Tree}
use Rattle.eb_io.specs.Lines.{Line}
use Rattle.eb_query.specs.declared.ask.Ask.{Ask}
use Rattle.eb_lines.specs.declared.form.Form.{Form}
use Rattle.eb_lines.specs.declared.form.Tail.{Tail}
use Rattle.eb_lines.specs.declared.refusal.Refusal.{Refusal}
use Rattle.eb_lines.specs.declared.status.Status.TheVariants.{NoMemory}
use Rattle.eb_lines.specs.Programs.{IsRunning, WorksOn, Finishes}
use Rattle.eb_lines.specs.Progress.{documents_in, accepted, queries, refusals, told, is_query, is_refused, one_if}
use Rattle.eb_lines.specs.Reading.{Reading, blank, document, query, refused, watch}
use Rattle.eb_lines.specs.Text.{refusal_line, watch_line, summary_with}
use Rattle.eb_lines.proofs.PassingLines.{ends_at_once}
use Rattle.eb_lines.proofs.Advancing.{accepted-push, accepted_few, queries-push, refusals-push}
use Rattle.run_store.specs.declared.answering.Answering.{Answering}
use Rattle.run_store.specs.Answering.{HasAnswered, TakesLine, body_text, body_first, answered_body}
use Rattle.run_store.specs.Rules.{Rules, document_outcome, comes, watches_after, ReadsWith, AreRead, held_behind, watches_behind, HasRefusal, HasNoRefusal}
use Rattle.run_store.specs.Sees.{Reach, exactly}
use Rattle.run_store.specs.Text.{says, end_of, IsBody, IsText, EndsOf}
use Rattle.run_store.specs.Stores.{IsHolding, HasForm, Places, Tells, PutsAnswer, IsOutcome, TakesOther, Keeps}
use Rattle.run_store.proofs.Coming.{read_none, read_push, read_long, watches-push, watches-nil}
use Rattle.run_store.proofs.Texts.{says_all, body-nil, body-push}
use Rattle.run_store.proofs.OneText.{told_reaches}

pub queries_few : (rs : List Reading) → queries rs ≤ length rs
unfolding queries
queries_few rs = count_by-le-length is_query rs

pub refusals_few : (rs : List Reading) → refusals rs ≤ length rs
unfolding refusals
refusals_few rs = count_by-le-length is_refused rs

holds_more : {S W : Type 0} (holds : S → Rules W → List Doc → W → Type 0) (s : S) (rules : Rules W) (docs : List Doc) (ws : W) → holds s rules docs ws → holds s rules (docs ++ []) ws
holds_more holds s rules docs ws h = subst (λ ds. holds s rules ds ws) (sym (append-nil docs)) h

module _ {G S W : Type 0} (other : Dialect → List ℕ → Reading → Type 0) (holds : S → Rules W → List Doc → W → Type 0) where
  -- ---- few lines

  module _ (s : Answering G S) (rules : Rules W) (given : List Line) (so_far : List ℕ) (h : HasAnswered other holds s rules given so_far) where
    pub few_queries : s.queries ≤ s.number
    few_queries = omega (arith, h.number, h.queries, queries_few h.readings, read_long rules other given h.readings h.read)

    pub few_refused : s.refused ≤ s.number
    few_refused = omega (arith, h.number, h.refused, refusals_few h.readings, read_long rules other given h.readings h.read)

    pub few_held : length (held_behind rules h.readings) ≤ length rules.start + 2 ^ 41
    few_held =
        let lines = read_long rules other given h.readings h.read in
        let short : length (accepted h.readings) ≤ 2 ^ 40 + 1 = omega (arith, h.number, h.short, accepted_few h.readings, lines) in
        omega (arith, short, length-append rules.start (accepted h.readings))

    pub is_holding : IsHolding holds s.store
    is_holding = record { rules = rules; docs = held_behind rules h.readings; watches = watches_behind rules h.readings; is = h.store; few = few_held }

  pub holding_of : (s : Answering G S) → IsRunning (HasAnswered other holds) s → IsHolding holds s.store
  holding_of s r = is_holding s r.0 r.1 r.2 r.3

  -- ---- before the first line

  pub answered_none : (s : Answering G S) (rules : Rules W) → dialect_of s.dialect ≡ rules.dialect → holds s.store rules rules.start rules.watches → s.number ≡ 0 → s.queries ≡ 0 → s.refused ≡ 0
      → HasAnswered other holds s rules [] []
  unfolding accepted queries refusals
  answered_none s rules how store number asked failed = record {
    readings = [];
    dialect = how;
    read = read_none rules other;
    store = subst (λ ws. holds s.store rules (rules.start ++ []) ws) (sym (watches-nil rules rules.watches)) (subst (λ ds. holds s.store rules ds rules.watches) (sym (append-nil rules.start)) store);
    number = number;
    queries = asked;
    refused = failed;
    short = omega (arith, number);
    printed = sym (body-nil rules (told []));
  }

  -- ---- a line that came to this was taken

  module _ (old new : Answering G S) (rules : Rules W) (given : List Line) (so_far : List ℕ) (l : Line) (raw : Reading)
      (h : HasAnswered other holds old rules given so_far) (reads : ReadsWith other (dialect_of old.dialect) l raw) (same : dialect_of new.dialect ≡ dialect_of old.dialect) where
    pub one_more : (r : Reading) → r ≡ comes rules (held_behind rules h.readings) (watches_behind rules h.readings) raw
        → holds new.store rules (held_behind rules h.readings ++ documents_in r) (watches_after rules (watches_behind rules h.readings) r)
        → new.number ≡ old.number + 1 → old.number ≤ 2 ^ 40 → new.queries ≡ old.queries + one_if (is_query r) → new.refused ≡ old.refused + one_if (is_refused r)
        → HasAnswered other holds new rules (given ++ l ∷ []) (so_far ++ says rules (old.number + 1) (length (held_behind rules h.readings))
        (held_behind rules h.readings) (watches_behind rules h.readings) r)
    one_more r is store number few asked failed =
        let rs = h.readings in
        let docs = held_behind rules rs in
        let ws = watches_behind rules rs in
        let long : length rs ≡ old.number = read_long rules other given rs h.read ∙ sym h.number in
        let all : docs ++ documents_in r ≡ held_behind rules (rs ++ r ∷ []) =
        append_assoc rules.start (accepted rs) (documents_in r) ∙ ap (λ ds. rules.start ++ ds) (sym (accepted-push rs r)) in
        record {
          readings = rs ++ r ∷ [];
          dialect = same ∙ h.dialect;
          read = subst (λ (x : Reading). AreRead other rules (given ++ l ∷ []) (rs ++ x ∷ [])) (sym is)
              (read_push rules other given rs l raw h.read (subst (λ ns. ReadsWith other ns l raw) h.dialect reads));
          store = subst (λ w. holds new.store rules (held_behind rules (rs ++ r ∷ [])) w) (sym (watches-push rules rules.watches rs r))
              (subst (λ ds. holds new.store rules ds (watches_after rules ws r)) all store);
          number = number ∙ ap (λ n. n + 1) h.number ∙ sym (length-append given (l ∷ []));
          queries = asked ∙ ap (λ n. n + one_if (is_query r)) h.queries ∙ sym (queries-push rs r);
          refused = failed ∙ ap (λ n. n + one_if (is_refused r)) h.refused ∙ sym (refusals-push rs r);
          short = omega (arith, number, few);
          printed = ap₂ (λ x n. x ++ says rules (n + 1) (length docs) docs ws r) h.printed (sym long) ∙ sym (body-push rules rs r);
        }

  -- ---- the kinds of lines

  pub takes_blank : (old new : Answering G S) → dialect_of new.dialect ≡ dialect_of old.dialect → new.store ≡ old.store → new.number ≡ old.number + 1 → old.number ≤ 2 ^ 40 → new.queries ≡ old.queries
      → new.refused ≡ old.refused
      → (text : List ℕ) → TakesLine other holds old new text text blank
  takes_blank old new same store number few asked failed text = λ l reads rules given so_far h.
      let docs = held_behind rules h.readings in
      let ws = watches_behind rules h.readings in (
        [],
        one_more old new rules given so_far l blank h reads same blank refl (subst (λ (s : S). holds s rules (docs ++ []) ws) (sym store) (holds_more holds old.store rules docs ws h.store))
            number few (asked ∙ omega arith) (failed ∙ omega arith),
        sym (append-nil text),
      )

  pub takes_refused : (old new : Answering G S) → dialect_of new.dialect ≡ dialect_of old.dialect → (form : Form) → HasForm holds old.store form → (x : Refusal) (t0 t1 : List ℕ)
      → new.store ≡ old.store
      → new.number ≡ old.number + 1
      → old.number ≤ 2 ^ 40
      → new.queries ≡ old.queries → new.refused ≡ old.refused + 1 → t1 ≡ t0 ++ refusal_line form (old.number + 1) x → TakesLine other holds old new t0 t1 (refused x)
  takes_refused old new same form written x t0 t1 store number few asked failed text = λ l reads rules given so_far h.
      let docs = held_behind rules h.readings in
      let ws = watches_behind rules h.readings in (
        refusal_line rules.form (old.number + 1) x,
        one_more old new rules given so_far l (refused x) h reads same (refused x) refl
            (subst (λ (s : S). holds s rules (docs ++ []) ws) (sym store) (holds_more holds old.store rules docs ws h.store))
            number few (asked ∙ omega arith) failed,
        text ∙ ap (λ (f : Form). t0 ++ refusal_line f (old.number + 1) x) (written rules docs ws h.store),
      )

  pub takes_query : (old new : Answering G S) → dialect_of new.dialect ≡ dialect_of old.dialect → (k : Ask) (q : Tree) (t0 t1 : List ℕ) →
      PutsAnswer holds old.store new.store (old.number + 1) k q t0 t1
      → new.number ≡ old.number + 1 → old.number ≤ 2 ^ 40 → new.queries ≡ old.queries + 1 → new.refused ≡ old.refused → TakesLine other holds old new t0 t1 (query k q)
  takes_query old new same k q t0 t1 puts number few asked failed = λ l reads rules given so_far h.
      let docs = held_behind rules h.readings in
      let ws = watches_behind rules h.readings in
      let put = puts rules docs ws h.store (few_held old rules given so_far h) in (
        says rules (old.number + 1) (length docs) docs ws (query k q),
        one_more old new rules given so_far l (query k q) h reads same (query k q) refl (holds_more holds new.store rules docs ws put.0) number few asked (failed ∙ omega arith),
        put.1 ∙ ap (λ x. t0 ++ x) (sym (says_all rules (old.number + 1) docs ws k q)),
      )

  pub takes_document : (old new : Answering G S) → dialect_of new.dialect ≡ dialect_of old.dialect → (form : Form) → HasForm holds old.store form → (d : Doc) (ns t0 t1 : List ℕ)
      → Places holds old.store new.store d None → Tells holds old.store d ns
      → new.number ≡ old.number + 1 → old.number ≤ 2 ^ 40 → new.queries ≡ old.queries → new.refused ≡ old.refused
      → t1 ≡ t0 ++ watch_line form (old.number + 1) ns → TakesLine other holds old new t0 t1 (document d)
  takes_document old new same form written d ns t0 t1 places tells number few asked failed text = λ l reads rules given so_far h.
      let docs = held_behind rules h.readings in
      let ws = watches_behind rules h.readings in
      let placed = places rules docs ws h.store in (
        watch_line rules.form (old.number + 1) (rules.tells ws d),
        one_more old new rules given so_far l (document d) h reads same (document d) (ap (document_outcome d) placed.0) placed.1 number few (asked ∙ omega arith) (failed ∙ omega arith),
        text ∙ ap₂ (λ (f : Form) xs. t0 ++ watch_line f (old.number + 1) xs) (written rules docs ws h.store) (tells rules docs ws h.store),
      )

  pub takes_unplaced : (old new : Answering G S) → dialect_of new.dialect ≡ dialect_of old.dialect → (form : Form) → HasForm holds old.store form → (d : Doc) (x : Refusal) (t0 t1 : List ℕ)
      → Places holds old.store new.store d (Some x)
      → new.number ≡ old.number + 1 → old.number ≤ 2 ^ 40 → new.queries ≡ old.queries → new.refused ≡ old.refused + 1
      → t1 ≡ t0 ++ refusal_line form (old.number + 1) x → TakesLine other holds old new t0 t1 (document d)
  takes_unplaced old new same form written d x t0 t1 places number few asked failed text = λ l reads rules given so_far h.
      let placed = places rules (held_behind rules h.readings) (watches_behind rules h.readings) h.store in (
        refusal_line rules.form (old.number + 1) x,
        one_more old new rules given so_far l (document d) h reads same (refused x) (ap (document_outcome d) placed.0) placed.1 number few (asked ∙ omega arith) failed,
        text ∙ ap (λ (f : Form). t0 ++ refusal_line f (old.number + 1) x) (written rules _ _ h.store),
      )

  -- a line that is neither blank, nor a document or query line, and what comes of it
  module _ (old new : Answering G S) (rules : Rules W) (given : List Line) (so_far : List ℕ) (l : Line) (raw : Reading)
      (h : HasAnswered other holds old rules given so_far) (reads : ReadsWith other (dialect_of old.dialect) l raw) (same : dialect_of new.dialect ≡ dialect_of old.dialect)
      (number : new.number ≡ old.number + 1) (few : old.number ≤ 2 ^ 40) (asked : new.queries ≡ old.queries) (t0 t1 : List ℕ) where
    taken_other : (r : Reading) → r ≡ comes rules (held_behind rules h.readings) (watches_behind rules h.readings) raw → IsOutcome r None
        → holds new.store rules (held_behind rules h.readings) (watches_after rules (watches_behind rules h.readings) r) → new.refused ≡ old.refused → t1 ≡ t0
        → (printed : List ℕ) × HasAnswered other holds new rules (given ++ l ∷ []) (so_far ++ printed) × (t1 ≡ t0 ++ printed)
    taken_other (watch n q) is o store failed text = (
      [],
      one_more old new rules given so_far l raw h reads same (watch n q) is (holds_more holds new.store rules _ _ store) number few (asked ∙ omega arith) (failed ∙ omega arith),
      text ∙ sym (append-nil t0),
    )
    taken_other (refused x) is o store failed text = absurd o
    taken_other blank is o store failed text = absurd o
    taken_other (document d) is o store failed text = absurd o
    taken_other (query k q) is o store failed text = absurd o

    refused_other : (r : Reading) (x : Refusal) → r ≡ comes rules (held_behind rules h.readings) (watches_behind rules h.readings) raw → IsOutcome r (Some x)
        → holds new.store rules (held_behind rules h.readings) (watches_after rules (watches_behind rules h.readings) r) → new.refused ≡ old.refused + 1
        → t1 ≡ t0 ++ refusal_line rules.form (old.number + 1) x
        → (printed : List ℕ) × HasAnswered other holds new rules (given ++ l ∷ []) (so_far ++ printed) × (t1 ≡ t0 ++ printed)
    refused_other (refused y) x is o store failed text = (
      refusal_line rules.form (old.number + 1) y,
      one_more old new rules given so_far l raw h reads same (refused y) is (holds_more holds new.store rules _ _ store) number few (asked ∙ omega arith) failed,
      text ∙ ap (λ z. t0 ++ refusal_line rules.form (old.number + 1) z) (sym o),
    )
    refused_other (watch n q) x is o store failed text = absurd o
    refused_other blank x is o store failed text = absurd o
    refused_other (document d) x is o store failed text = absurd o
    refused_other (query k q) x is o store failed text = absurd o

  pub takes_other : (old new : Answering G S) → dialect_of new.dialect ≡ dialect_of old.dialect → (raw : Reading) (t0 t1 : List ℕ) → TakesOther holds old.store new.store raw None
      → new.number ≡ old.number + 1 → old.number ≤ 2 ^ 40 → new.queries ≡ old.queries → new.refused ≡ old.refused → t1 ≡ t0 → TakesLine other holds old new t0 t1 raw
  takes_other old new same raw t0 t1 takes number few asked failed text = λ l reads rules given so_far h.
      let taken = takes rules (held_behind rules h.readings) (watches_behind rules h.readings) h.store in
      taken_other old new rules given so_far l raw h reads same number few asked t0 t1 _ refl taken.0 taken.1 failed text

  pub refuses_other : (old new : Answering G S) → dialect_of new.dialect ≡ dialect_of old.dialect → (form : Form) → HasForm holds old.store form → (raw : Reading) (x : Refusal) (t0 t1 : List ℕ)
      → TakesOther holds old.store new.store raw (Some x)
      → new.number ≡ old.number + 1 → old.number ≤ 2 ^ 40 → new.queries ≡ old.queries → new.refused ≡ old.refused + 1
      → t1 ≡ t0 ++ refusal_line form (old.number + 1) x → TakesLine other holds old new t0 t1 raw
  refuses_other old new same form written raw x t0 t1 takes number few asked failed text = λ l reads rules given so_far h.
      let taken = takes rules (held_behind rules h.readings) (watches_behind rules h.readings) h.store in
      refused_other old new rules given so_far l raw h reads same number few asked t0 t1 _ x refl taken.0 taken.1 failed
      (text ∙ ap (λ (f : Form). t0 ++ refusal_line f (old.number + 1) x) (written rules _ _ h.store))

  -- nothing was done but that the store holds what it held
  pub kept : (old new : Answering G S) → dialect_of new.dialect ≡ dialect_of old.dialect → Keeps holds old.store new.store → new.number ≡ old.number → new.queries ≡ old.queries
      → new.refused ≡ old.refused
      → (rules : Rules W) (given : List Line) (so_far : List ℕ) → HasAnswered other holds old rules given so_far → HasAnswered other holds new rules given so_far
  kept old new same keeps number asked failed rules given so_far h = record {
    readings = h.readings;
    dialect = same ∙ h.dialect;
    read = h.read;
    store = keeps rules (held_behind rules h.readings) (watches_behind rules h.readings) h.store;
    number = number ∙ h.number;
    queries = asked ∙ h.queries;
    refused = failed ∙ h.refused;
    short = omega (arith, number, h.short);
    printed = h.printed;
  }

  pub keeps_on : (old new : Answering G S) (t0 t1 : List ℕ) → dialect_of new.dialect ≡ dialect_of old.dialect → Keeps holds old.store new.store → new.number ≡ old.number → new.queries ≡ old.queries
      → new.refused ≡ old.refused → t1 ≡ t0
      → WorksOn (HasAnswered other holds) old new t0 t1
  keeps_on old new t0 t1 same keeps number asked failed text = λ rules given so_far h.
      ([], subst (HasAnswered other holds new rules given) (sym (append-nil so_far)) (kept old new same keeps number asked failed rules given so_far h), text ∙ sym (append-nil t0))

  -- ---- the end

  pub answering_ends : (s : Answering G S) (form : Form) → HasForm holds s.store form
      → (t0 t1 : List ℕ) (tail : Tail) (documents : ℕ) (rules : Rules W) (given : List Line) (so_far : List ℕ) (h : HasAnswered other holds s rules given so_far)
      → documents ≡ length (held_behind rules h.readings) → tail ≡ rules.tail (held_behind rules h.readings)
      → t1 ≡ t0 ++ summary_with form documents s.queries s.refused tail
      → Finishes (HasAnswered other holds) (IsText other exactly) (HasRefusal other) (HasNoRefusal other) s t0 t1 s.refused rules given so_far
  answering_ends s form written t0 t1 tail documents rules given so_far h count behind put =
      let rs = h.readings in
      let last = end_of rules rs in
      record {
        printed = last;
        whole = body_text other exactly rules given so_far (answered_body other holds s rules given so_far h);
        text = put ∙ (λ i. t0 ++ summary_with (written rules _ _ h.store i) (count i) (h.queries i) (h.refused i) (behind i));
        some = λ n e. (rs, h.read, omega (arith, e, h.refused));
        none = λ e. (rs, h.read, sym h.refused ∙ e);
      }

-- ---- where nothing was read

pub body_of_none : {W : Type 0} (other : Dialect → List ℕ → Reading → Type 0) (way : Reach) (rules : Rules W) → IsBody other way rules [] []
body_of_none other way rules = record { readings = []; numbers = told []; read = read_none rules other; reach = told_reaches way []; bytes = sym (body-nil rules (told [])) }

pub ends_none : {W : Type 0} (other : Dialect → List ℕ → Reading → Type 0) (way : Reach) (rules : Rules W) (left printed : Option (List ℕ)) → EndsOf other way rules NoMemory left left printed printed
ends_none other way rules left printed =
    ends_at_once (IsBody other way rules) (IsText other way rules) (HasRefusal other rules) (HasNoRefusal other rules) (body_first other way rules) left printed [] (body_of_none other way rules)
