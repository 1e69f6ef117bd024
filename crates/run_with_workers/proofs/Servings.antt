-- A run with workers goes on, over any office.
use Rattle.eb_fields.specs.Dialect.{Dialect, dialect_of}
use Rattle.std.proofs.lemmas.List.Elements.{All-nil}
use Rattle.std.proofs.lemmas.Option.{slice_get_within}
use Rattle.std.proofs.Common.{◌≡◌, ℕ, suc, ◌+◌, ◌-◌, ◌<◌, ◌≤◌, List, [], ◌∷◌, ◌++◌, length, set, inl, inr, sym, ap, subst, ◌∙◌, arith, append_assoc, append-nil, length-append}
use Rattle.std.specs.Prelude.{◌^◌, Option}
use Rattle.run_store.specs.Rules.{Rules, is_bad, document_outcome, comes, ReadsWith, AreRead, held_behind, watches_behind}
use Rattle.run_store.specs.Stores.{IsHolding, HasForm, Places, Keeps}
use Rattle.run_store.specs.Text.{body_from}
use Rattle.run_store.proofs.ByKind.{reads_plain}
use Rattle.run_store.proofs.Coming.{read_none, read_push, read_long}
use Rattle.run_store.proofs.Taking.{queries_few, refusals_few}
use Rattle.run_store.proofs.Texts.{body_none, body_grown}
use Rattle.eb_base.specs.Document.{Doc}
use Rattle.eb_cursor.specs.Frames.{query_of, k_of}
use Rattle.eb_desk.specs.Rule.{IsAboveEach, HaveRisingNumbers}
use Rattle.eb_desk.specs.declared.rule.Pair.{Pair}
use Rattle.eb_io.specs.Lines.{Line}
use Rattle.eb_lines.specs.declared.form.Form.{Form}
use Rattle.eb_lines.specs.Programs.{IsRunning, WorksOn, WorksOnGiven}
use Rattle.eb_lines.specs.declared.refusal.Refusal.{Refusal}
use Rattle.eb_lines.specs.Reading.{Reading, document}
use Rattle.eb_lines.specs.Reads.{Reads}
use Rattle.eb_lines.specs.Progress.{documents_in, accepted, queries, refusals, is_query, is_refused, one_if}
use Rattle.eb_lines.proofs.Advancing.{accepted-push, accepted-append, accepted_few, queries-push, refusals-push}
use Rattle.eb_lines.proofs.PassingLines.{works_number}
use Rattle.run_with_workers.specs.declared.office.Settled.{Settled}
use Rattle.run_with_workers.specs.declared.serving.Serving.{Serving}
use Rattle.run_with_workers.specs.declared.waiting.Waiting.{Waiting}
use Rattle.run_with_workers.specs.declared.waiting.Waiting.TheVariants as waits
use Rattle.run_with_workers.specs.Bodies.{get_behind}
use Rattle.run_with_workers.specs.Offices.{Settles, Opens, WasAsked}
use Rattle.run_with_workers.specs.Serving.{HasServed, IsFurther, TakesLine}
use Rattle.run_with_workers.specs.Waiting.{IsReady, WaitsAs, AreWaiting, AwaitsAt, IsPlace, IsKept, NextNeeds, need_of, printed_by}
use Rattle.run_with_workers.proofs.Askings.{HasGrown}
use Rattle.run_with_workers.proofs.Waits.{waiting_grown, waiting_push, waiting_long, waiting_set, as_answered}
use Rattle.run_with_workers.proofs.NextLines.{split_waiting, numbers_on, least_on, most_on, body_on}

pub next_is : (items : List Waiting) (need : ℕ) (w : Waiting) (ws : List Waiting) → NextNeeds items need → items ≡ w ∷ ws → IsReady w × (need ≡ need_of w)
next_is items need w ws h e = subst (λ (xs : List Waiting). NextNeeds xs need) e h

-- no document more is held
pub held_none : {O : Type 0} (holds : O → Rules (Unit {0}) → List Doc → Unit {0} → Type 0) {o : O} (rules : Rules (Unit {0})) (docs : List Doc) → holds o rules docs tt → holds o rules (docs ++ []) tt
held_none holds {o} rules docs h = subst (λ ds. holds o rules ds tt) (sym (append-nil docs)) h

module _ {O A : Type 0} (holds : O → Rules (Unit {0}) → List Doc → Unit {0} → Type 0) (asked : O → List Pair) where
  -- ---- few lines

  module _ (s : Serving O A) (rules : Rules (Unit {0})) (given : List Line) (so_far : List ℕ) (h : HasServed holds asked s rules given so_far) where
    pub lines_are : length (h.done ++ h.ahead) ≡ s.number
    lines_are = read_long rules is_bad given (h.done ++ h.ahead) h.read ∙ sym h.number

    pub few_queries : s.queries ≤ s.number
    few_queries = omega (arith, h.queries, queries_few (h.done ++ h.ahead), lines_are)

    pub few_refused : s.refused ≤ s.number
    few_refused = omega (arith, h.refused, refusals_few (h.done ++ h.ahead), lines_are)

    pub few_held : length (accepted (h.done ++ h.ahead)) ≤ length rules.start + 2 ^ 41
    few_held = omega (arith, accepted_few (h.done ++ h.ahead), lines_are, h.short)

    pub is_holding : IsHolding holds s.office
    is_holding = record { rules = rules; docs = accepted (h.done ++ h.ahead); watches = tt; is = h.office; few = few_held }

  pub holding_of : (s : Serving O A) → IsRunning (HasServed holds asked) s → IsHolding holds s.office
  holding_of s r = is_holding s r.0 r.1 r.2 r.3

  -- ---- before the first line

  pub served_none : (s : Serving O A) (o : O) (how : Dialect) (rules : Rules (Unit {0})) → Opens holds asked how o rules → s.office ≡ o → dialect_of s.dialect ≡ how
      → (s.number ≡ 0) × (s.queries ≡ 0) × (s.refused ≡ 0) → s.waiting.items ≡ [] → HasServed holds asked s rules [] []
  unfolding accepted queries refusals
  served_none s o how rules opens office same counts items = let none_asked : asked s.office ≡ [] = ap asked office ∙ opens.unasked in record {
    done = [];
    ahead = [];
    numbers = λ j. 0;
    dialect = same ∙ opens.dialect;
    start = opens.start;
    silent = opens.silent;
    read = read_none rules is_bad;
    office = subst (λ (x : O). holds x rules [] tt) (sym office) opens.office;
    number = counts.0;
    queries = counts.1;
    refused = counts.2;
    short = omega (arith, counts.0);
    is_above = subst (λ (ps : List Pair). IsAboveEach (s.number + 1) ps) (sym none_asked) (All-nil (λ (p : Pair). p.number < s.number + 1));
    rising = subst HaveRisingNumbers (sym none_asked) tt;
    least = λ j e. (let no : ⊥ = cc (get_behind [] j (omega arith), e) in absurd no);
    most = λ j. omega arith;
    waiting = subst (λ (xs : List Waiting). AreWaiting rules [] (asked s.office) 0 1 [] xs) (sym items) tt;
    printed = sym (body_none rules (λ j. 0) [] 0 tt);
  }

  -- ---- answers may have come

  module _ (old new : Serving O A) (keeps : Keeps holds old.office new.office) (stays : asked new.office ≡ asked old.office) (how : dialect_of new.dialect ≡ dialect_of old.dialect)
      (number : new.number ≡ old.number) (asks : new.queries ≡ old.queries) (fails : new.refused ≡ old.refused)
      (waits_on : (rules : Rules (Unit {0})) (docs : List Doc) (told n : ℕ) (rs : List Reading) → holds new.office rules docs tt → length docs ≤ length rules.start + 2 ^ 41
      → HaveRisingNumbers (asked old.office) → n + length old.waiting.items ≡ old.number
      → AreWaiting rules docs (asked old.office) told (n + 1) rs old.waiting.items → AreWaiting rules docs (asked old.office) told (n + 1) rs new.waiting.items) where
    pub goes_further : IsFurther holds asked old new
    goes_further rules given so_far h =
        let docs = accepted (h.done ++ h.ahead) in
        let office = keeps rules docs tt h.office in
        let few = few_held old rules given so_far h in
        let long = waiting_long rules docs (asked old.office) (length (accepted h.done)) (length h.done + 1) h.ahead old.waiting.items h.waiting in
        let first : length h.done + length old.waiting.items ≡ old.number = omega (arith, long, lines_are old rules given so_far h, length-append h.done h.ahead) in
        let on = waits_on rules docs (length (accepted h.done)) (length h.done) h.ahead office few h.rising first h.waiting in
        record {
          done = h.done;
          ahead = h.ahead;
          numbers = h.numbers;
          dialect = how ∙ h.dialect;
          start = h.start;
          silent = h.silent;
          read = h.read;
          office = office;
          number = number ∙ h.number;
          queries = asks ∙ h.queries;
          refused = fails ∙ h.refused;
          short = omega (arith, number, h.short);
          is_above = subst (λ (x : ℕ × List Pair). IsAboveEach (x.0 + 1) x.1) (λ i. (sym number i, sym stays i)) h.is_above;
          rising = subst HaveRisingNumbers (sym stays) h.rising;
          least = h.least;
          most = h.most;
          waiting = subst (λ (ps : List Pair). AreWaiting rules docs ps (length (accepted h.done)) (length h.done + 1) h.ahead new.waiting.items) (sym stays) on;
          printed = h.printed;
        }

  pub stays_further : (old new : Serving O A) → new ≡ old → IsFurther holds asked old new
  stays_further old new same = λ rules given so_far h. subst (λ (s : Serving O A). HasServed holds asked s rules given so_far) (sym same) h

  -- the same lines wait
  pub further_items : (old new : Serving O A) → Keeps holds old.office new.office → asked new.office ≡ asked old.office → dialect_of new.dialect ≡ dialect_of old.dialect
      → new.number ≡ old.number → new.queries ≡ old.queries → new.refused ≡ old.refused → new.waiting.items ≡ old.waiting.items → IsFurther holds asked old new
  further_items old new keeps stays how number asks fails items =
      goes_further old new keeps stays how number asks fails (λ rules docs told n rs office few rising first w. subst (AreWaiting rules docs (asked old.office) told (n + 1) rs) (sym items) w)

  -- an answer is taken in
  pub further_in : (old new : Serving O A) (at : ℕ) (s : Settled) → Keeps holds old.office new.office → asked new.office ≡ asked old.office
      → dialect_of new.dialect ≡ dialect_of old.dialect → new.number ≡ old.number → new.queries ≡ old.queries → new.refused ≡ old.refused
      → WasAsked (asked old.office) s.number (query_of s.frame) (k_of s.frame) → at < length old.waiting.items → IsPlace old.number old.waiting.items s.number at
      → AwaitsAt old.waiting.items at s.seen → new.waiting.items ≡ set old.waiting.items at (waits.Answered s.seen s.frame)
      → ((rules : Rules (Unit {0})) (docs : List Doc) (ws : Unit {0}) → holds new.office rules docs ws → length docs ≤ length rules.start + 2 ^ 41 → Settles rules docs s)
      → IsFurther holds asked old new
  further_in old new at s keeps stays how number asks fails was low place awaits items settles =
      goes_further old new keeps stays how number asks fails (λ rules docs told n rs office few rising first w.
      let is = settles rules docs tt office few in
      let here : s.number ≡ n + 1 + at = omega (arith, place, first, low) in
      subst (AreWaiting rules docs (asked old.office) told (n + 1) rs) (sym items)
      (waiting_set rules docs (asked old.office) s.number told (n + 1) rs old.waiting.items at awaits.0 (waits.Answered s.seen s.frame) here awaits.1
      (λ t r x. as_answered rules docs (asked old.office) t s.number r awaits.0 s.frame s.seen rising was awaits.2 is.0 is.1 x) w))

  pub further_kept : (old new : Serving O A) (mid : O) (s : Settled) → Keeps holds old.office mid → asked mid ≡ asked old.office → new.office ≡ mid
      → dialect_of new.dialect ≡ dialect_of old.dialect → new.number ≡ old.number → new.queries ≡ old.queries → new.refused ≡ old.refused → IsKept old.number old.waiting.items new.waiting.items s
      → WasAsked (asked mid) s.number (query_of s.frame) (k_of s.frame)
      → ((rules : Rules (Unit {0})) (docs : List Doc) (ws : Unit {0}) → holds mid rules docs ws → length docs ≤ length rules.start + 2 ^ 41 → Settles rules docs s)
      → IsFurther holds asked old new
  further_kept old new mid s keeps stays office how number asks fails kept was settles =
      let keeps_on : Keeps holds old.office new.office = λ rules docs ws h. subst (λ (o : O). holds o rules docs ws) (sym office) (keeps rules docs ws h) in
      let stays_on : asked new.office ≡ asked old.office = ap asked office ∙ stays in
      let was_on = subst (λ (ps : List Pair). WasAsked ps s.number (query_of s.frame) (k_of s.frame)) stays was in
      elim kept [
        | inl same ↦ further_items old new keeps_on stays_on how number asks fails same
        | inr there ↦ further_in old new there.0 s keeps_on stays_on how number asks fails was_on (slice_get_within old.waiting.items there.0 there.2.0 there.2.1) there.1 there.2 there.3
            (λ rules docs ws h few. settles rules docs ws (subst (λ (o : O). holds o rules docs ws) office h) few)
      ]

  pub further_both : (old mid new : Serving O A) → IsFurther holds asked old mid → IsFurther holds asked mid new → IsFurther holds asked old new
  further_both old mid new f g = λ rules given so_far h. g rules given so_far (f rules given so_far h)

  pub further_on : (old new : Serving O A) (text : List ℕ) → IsFurther holds asked old new → WorksOn (HasServed holds asked) old new text text
  further_on old new text f = λ rules given so_far h. ([], subst (HasServed holds asked new rules given) (sym (append-nil so_far)) (f rules given so_far h), sym (append-nil text))

  -- ---- one after another

  pub on_on : (old mid new : Serving O A) (t0 t1 t2 : List ℕ) → WorksOn (HasServed holds asked) old mid t0 t1 → WorksOn (HasServed holds asked) mid new t1 t2
      → WorksOn (HasServed holds asked) old new t0 t2
  on_on old mid new t0 t1 t2 f g = λ rules given so_far h.
      let x = f rules given so_far h in
      let y = g rules given (so_far ++ x.0) x.1 in
      (x.0 ++ y.0, subst (HasServed holds asked new rules given) (append_assoc so_far x.0 y.0) y.1, y.2 ∙ ap (λ t. t ++ y.0) x.2 ∙ append_assoc t0 x.0 y.0)

  pub on_line : (old mid new : Serving O A) (t0 t1 : List ℕ) (l : Line) (r : Reading) → WorksOn (HasServed holds asked) old mid t0 t1 → TakesLine holds asked mid new r
      → Reads (dialect_of mid.dialect) l r → WorksOnGiven (HasServed holds asked) old new t0 t1 l
  on_line old mid new t0 t1 l r f g reads = λ rules given so_far h.
      let x = f rules given so_far h in
      (x.0, g rules given (so_far ++ x.0) l x.1 (subst (λ ns. ReadsWith is_bad ns l r) x.1.dialect (reads_plain (dialect_of mid.dialect) l r reads)), x.2)

  pub goes_running : (old new : Serving O A) (t0 t1 : List ℕ) → IsRunning (HasServed holds asked) old → WorksOn (HasServed holds asked) old new t0 t1 → IsRunning (HasServed holds asked) new
  goes_running old new t0 t1 r f = let w = f r.0 r.1 r.2 r.3 in (r.0, r.1, r.2 ++ w.0, w.1)

  pub further_running : (old new : Serving O A) → IsRunning (HasServed holds asked) old → IsFurther holds asked old new → IsRunning (HasServed holds asked) new
  further_running old new r f = (r.0, r.1, r.2, f r.0 r.1 r.2 r.3)

  pub same_number : (old new : Serving O A) (t0 t1 : List ℕ) → IsRunning (HasServed holds asked) old → WorksOn (HasServed holds asked) old new t0 t1 → new.number ≡ old.number
  same_number old new t0 t1 r f = works_number (HasServed holds asked) (λ (s : Serving O A). s.number) (λ s rules given so_far h. h.number) old new t0 t1 r f

  pub room_on : (old mid new : Serving O A) (t0 t1 : List ℕ) → WorksOn (HasServed holds asked) old mid t0 t1 → new.office ≡ mid.office → dialect_of new.dialect ≡ dialect_of mid.dialect
      → new.number ≡ mid.number → new.queries ≡ mid.queries → new.refused ≡ mid.refused → new.waiting.items ≡ mid.waiting.items → WorksOn (HasServed holds asked) old new t0 t1
  room_on old mid new t0 t1 f office how number asks fails items =
      on_on old mid new t0 t1 t1 f (further_on mid new t1 (further_items mid new
      (λ rules docs ws h. subst (λ (o : O). holds o rules docs ws) (sym office) h) (ap asked office) how number asks fails items))

  -- ---- the next line is printed

  module _ (old new : Serving O A) (w : Waiting) (ws : List Waiting) (text text_new : List ℕ) (n : ℕ) (office : new.office ≡ old.office) (how : dialect_of new.dialect ≡ dialect_of old.dialect)
      (number : new.number ≡ old.number) (asks : new.queries ≡ old.queries) (fails : new.refused ≡ old.refused) (first : old.waiting.items ≡ w ∷ ws) (rest : new.waiting.items ≡ ws) (ready : IsReady w)
      (is : n ≡ old.number - length ws) (form : Form) (written : HasForm holds old.office form) (put : text_new ≡ text ++ printed_by form n w) where
    served_printed : (rules : Rules (Unit {0})) (given : List Line) (so_far : List ℕ) → HasServed holds asked old rules given so_far
        → HasServed holds asked new rules given (so_far ++ printed_by rules.form n w)
    served_printed rules given so_far h =
        let docs = accepted (h.done ++ h.ahead) in
        let ps = asked old.office in
        let m = length h.done + 1 in
        let s = split_waiting rules docs ps (length (accepted h.done)) m h.ahead w ws (subst (AreWaiting rules docs ps (length (accepted h.done)) m h.ahead) first h.waiting) in
        let r = s.0 in
        let all : (h.done ++ r ∷ []) ++ s.1 ≡ h.done ++ h.ahead = append_assoc h.done (r ∷ []) s.1 ∙ ap (λ x. h.done ++ x) (sym s.2) in
        let same : accepted ((h.done ++ r ∷ []) ++ s.1) ≡ docs = ap accepted all in
        let long = waiting_long rules docs ps (length (accepted h.done) + length (documents_in r)) (suc m) s.1 ws s.4 in
        let at : n ≡ length h.done + 1 = omega (arith, is, lines_are old rules given so_far h, length-append h.done h.ahead, ap length s.2, long) in
        let told : length (accepted (h.done ++ r ∷ [])) ≡ length (accepted h.done) + length (documents_in r) = ap length (accepted-push h.done r) ∙ length-append (accepted h.done) (documents_in r) in
        let numbers = numbers_on rules docs ps m h.done r w h.numbers ready s.3 in
        record {
          done = h.done ++ r ∷ [];
          ahead = s.1;
          numbers = numbers;
          dialect = how ∙ h.dialect;
          start = h.start;
          silent = h.silent;
          read = subst (AreRead is_bad rules given) (sym all) h.read;
          office = subst (λ ds. holds new.office rules ds tt) (sym same) (subst (λ (o : O). holds o rules docs tt) (sym office) h.office);
          number = number ∙ h.number;
          queries = asks ∙ h.queries ∙ ap queries (sym all);
          refused = fails ∙ h.refused ∙ ap refusals (sym all);
          short = omega (arith, number, h.short);
          is_above = subst (λ (x : ℕ × O). IsAboveEach (x.0 + 1) (asked x.1)) (λ i. (sym number i, sym office i)) h.is_above;
          rising = subst (λ (o : O). HaveRisingNumbers (asked o)) (sym office) h.rising;
          least = least_on rules docs ps m h.done r w h.numbers ready s.3 h.least;
          most = λ j. subst (λ (ds : List Doc). numbers j ≤ length ds) (sym same) (most_on rules docs ps m h.done r w h.numbers ready s.3 h.most j);
          waiting =
              let next : length (h.done ++ r ∷ []) + 1 ≡ suc m = omega (arith, length-append h.done (r ∷ [])) in
              subst (λ (x : (List Doc × O) × (ℕ × ℕ) × List Waiting). AreWaiting rules x.0.0 (asked x.0.1) x.1.0 x.1.1 s.1 x.2)
              (λ i. ((sym same i, sym office i), (sym told i, sym next i), sym rest i)) s.4;
          printed = ap (λ b. b ++ printed_by rules.form n w) h.printed ∙ sym (body_on rules docs ps m h.done r w h.numbers ready s.3 h.silent n at)
              ∙ ap (λ ds. body_from rules numbers ds 0 tt (h.done ++ r ∷ [])) (sym same);
        }

    pub printed_on : WorksOn (HasServed holds asked) old new text text_new
    printed_on = λ rules given so_far h. (
      printed_by rules.form n w,
      served_printed rules given so_far h,
      put ∙ ap (λ (f : Form). text ++ printed_by f n w) (written rules (accepted (h.done ++ h.ahead)) tt h.office),
    )

  -- ---- a line is taken

  module _ (old new : Serving O A) (raw : Reading) (w : Waiting) (how : dialect_of new.dialect ≡ dialect_of old.dialect) (number : new.number ≡ old.number + 1) (few : old.number ≤ 2 ^ 40)
      (grown : HasGrown (asked old.office) (asked new.office) (new.number + 1)) (items : new.waiting.items ≡ old.waiting.items ++ w ∷ []) where
    -- a line that comes to this waits so, after these documents
    abbrev pub Comes : Rules (Unit {0}) → List Doc → Reading → Type 0
    Comes rules docs own = holds new.office rules (docs ++ documents_in own) tt × WaitsAs rules (docs ++ documents_in own) (asked new.office) (length docs) (old.number + 1) own w
        × (new.queries ≡ old.queries + one_if (is_query own)) × (new.refused ≡ old.refused + one_if (is_refused own))

    pub served_line : ((rules : Rules (Unit {0})) (docs : List Doc) → holds old.office rules docs tt → length docs ≤ length rules.start + 2 ^ 41 → rules.start ≡ []
        → Comes rules docs (comes rules docs tt raw))
        → TakesLine holds asked old new raw
    served_line step = λ rules given so_far l h reads.
        let readings = h.done ++ h.ahead in
        let before = accepted readings in
        let own = comes rules before tt raw in
        let more = documents_in own in
        let came = step rules before h.office (few_held old rules given so_far h) h.start in
        let own_is : comes rules (held_behind rules readings) (watches_behind rules readings) raw ≡ own = ap (λ (ds : List Doc). comes rules (ds ++ before) tt raw) h.start in
        let all : readings ++ own ∷ [] ≡ h.done ++ (h.ahead ++ own ∷ []) = append_assoc h.done h.ahead (own ∷ []) in
        let read : AreRead is_bad rules (given ++ l ∷ []) (readings ++ own ∷ []) =
        subst (λ (x : Reading). AreRead is_bad rules (given ++ l ∷ []) (readings ++ x ∷ [])) own_is (read_push rules is_bad given readings l raw h.read reads) in
        let sum : accepted (h.done ++ (h.ahead ++ own ∷ [])) ≡ before ++ more = ap accepted (sym all) ∙ accepted-push readings own in
        let told : length (accepted h.done) + length (accepted h.ahead) ≡ length before = sym (length-append (accepted h.done) (accepted h.ahead)) ∙ ap length (sym (accepted-append h.done h.ahead)) in
        let ps = asked new.office in
        let stay = waiting_grown rules (asked old.office) ps grown.keeps before more (length (accepted h.done)) (length h.done + 1) h.ahead old.waiting.items h.waiting in
        let last : length h.done + 1 + length h.ahead ≡ old.number + 1 = omega (arith, lines_are old rules given so_far h, length-append h.done h.ahead) in
        record {
          done = h.done;
          ahead = h.ahead ++ own ∷ [];
          numbers = h.numbers;
          dialect = how ∙ h.dialect;
          start = h.start;
          silent = h.silent;
          read = subst (AreRead is_bad rules (given ++ l ∷ [])) all read;
          office = subst (λ ds. holds new.office rules ds tt) (sym sum) came.0;
          number = number ∙ omega (arith, h.number, length-append given (l ∷ []));
          queries = came.2 ∙ ap (λ m. m + one_if (is_query own)) h.queries ∙ sym (queries-push readings own) ∙ ap queries all;
          refused = came.3 ∙ ap (λ m. m + one_if (is_refused own)) h.refused ∙ sym (refusals-push readings own) ∙ ap refusals all;
          short = omega (arith, number, few);
          is_above = grown.above;
          rising = grown.rises h.rising;
          least = h.least;
          most = λ j. omega (arith, h.most j, ap length sum, length-append before more);
          waiting =
              let W : List Doc → List Waiting → Type 0 = λ ds xs. AreWaiting rules ds ps (length (accepted h.done)) (length h.done + 1) (h.ahead ++ own ∷ []) xs in
              subst (λ ds. W ds new.waiting.items) (sym sum) (subst (λ xs. W (before ++ more) xs) (sym items)
              (waiting_push rules (before ++ more) ps (length (accepted h.done)) (length h.done + 1) h.ahead old.waiting.items own w stay
              (subst (λ (x : ℕ × ℕ). WaitsAs rules (before ++ more) ps x.0 x.1 own w) (λ i. (sym told i, sym last i)) came.1)));
          printed = h.printed ∙ body_grown rules h.numbers before more 0 tt h.done h.most ∙ ap (λ ds. body_from rules h.numbers ds 0 tt h.done) (sym sum);
        }

  -- a document is placed, or refused
  pub served_document : (old new : Serving O A) (d : Doc) (o : Option Refusal) (w : Waiting) → dialect_of new.dialect ≡ dialect_of old.dialect → new.number ≡ old.number + 1 → old.number ≤ 2 ^ 40
      → HasGrown (asked old.office) (asked new.office) (new.number + 1) → new.waiting.items ≡ old.waiting.items ++ w ∷ [] → Places holds old.office new.office d o
      → ((rules : Rules (Unit {0})) (docs : List Doc) → WaitsAs rules (docs ++ documents_in (document_outcome d o)) (asked new.office) (length docs) (old.number + 1) (document_outcome d o) w)
      → new.queries ≡ old.queries + one_if (is_query (document_outcome d o)) → new.refused ≡ old.refused + one_if (is_refused (document_outcome d o)) → TakesLine holds asked old new (document d)
  served_document old new d o w how number few grown items places stands asks fails =
      served_line old new (document d) w how number few grown items (λ rules docs office short start.
      let placed = places rules docs tt office in
      subst (λ (x : Option Refusal). Comes old new (document d) w how number few grown items rules docs (document_outcome d x)) placed.0 (placed.1, stands rules docs, asks, fails))
