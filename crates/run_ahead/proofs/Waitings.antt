-- Lines wait, and are processed.
use Rattle.eb_fields.specs.Dialect.{Dialect, dialect_of}
use Rattle.std.proofs.Common.{◌≡◌, ℕ, ◌+◌, ◌≤◌, ◌<◌, suc, List, [], ◌∷◌, ◌++◌, length, take, drop, get_or, Result, refl, sym, ap, subst, ◌∙◌, arith}
use Rattle.std.proofs.Common.{append_assoc, append-nil, length-append, length-drop, length-take-le, take-append-drop}
use Rattle.std.specs.Prelude.{◌^◌, IfOk, MatchResult, ⊤, Some, slice_get}
use Rattle.std.specs.List.{AllZip}
use Rattle.std.proofs.lemmas.List.{drop-drop, drop_all, drop-append-le}
use Rattle.std.proofs.lemmas.Slice.Zip.{AllZip-long}
use Rattle.std.proofs.lemmas.Option.{get_or_from_slice_get}
use Rattle.std.proofs.Math.Seq.{drop-cons}
use Rattle.run_store.specs.declared.answering.Answering.{Answering}
use Rattle.run_store.specs.Answering.{HasAnswered, answered_body}
use Rattle.run_store.specs.Rules.{Rules, HasRefusal, HasNoRefusal}
use Rattle.run_store.specs.Sees.{exactly}
use Rattle.run_store.specs.Text.{IsBody, IsText}
use Rattle.eb_base.specs.Document.{Doc}
use Rattle.eb_io.specs.Lines.{Line}
use Rattle.eb_lines.specs.Programs.{IsRunning, WorksOn, WorksOnGiven, Finishes}
use Rattle.eb_lines.proofs.Results.{ok_match}
use Rattle.eb_lines.proofs.Runs.{stays_at}
use Rattle.eb_lines.specs.Reading.{Reading}
use Rattle.run_ahead.specs.declared.ahead.Ahead.{Ahead}
use Rattle.run_ahead.specs.declared.reading.Other.{Other}
use Rattle.run_ahead.specs.Ahead.{HasHeld, HoldsNone, waiting_in, AreWaiting, HasWorked}
use Rattle.run_ahead.specs.Runs.{TakesRun}
use Rattle.run_ahead.specs.Tasks.{IsTaskOf}

-- ---- lists

module _ {A B : Type 0} (R : A → B → Type 0) where
  pub zip_front : (xs : List A) (ys zs : List B) → AllZip R xs (ys ++ zs) → AllZip R (take (length ys) xs) ys
  zip_front xs [] zs h = tt
  zip_front [] (y ∷ ys) zs h = absurd h
  zip_front (x ∷ xs) (y ∷ ys) zs h = (h.0, zip_front xs ys zs h.1)

  pub zip_back : (xs : List A) (ys zs : List B) → AllZip R xs (ys ++ zs) → AllZip R (drop (length ys) xs) zs
  zip_back xs [] zs h = h
  zip_back [] (y ∷ ys) zs h = absurd h
  zip_back (x ∷ xs) (y ∷ ys) zs h = zip_back xs ys zs h.1

-- ---- one after another

module _ {P A : Type 0} (has_run : P → A → List Line → List ℕ → Type 0) where
  pub goes_on : (old mid new : P) (t0 t1 t2 : List ℕ) → WorksOn has_run old mid t0 t1 → WorksOn has_run mid new t1 t2 → WorksOn has_run old new t0 t2
  goes_on old mid new t0 t1 t2 w v = λ a given so_far h.
      let x = w a given so_far h in
      let y = v a given (so_far ++ x.0) x.1 in
      (x.0 ++ y.0, subst (has_run new a given) (append_assoc so_far x.0 y.0) y.1, y.2 ∙ ap (λ t. t ++ y.0) x.2 ∙ append_assoc t0 x.0 y.0)

  pub goes_after : (old mid new : P) (t0 t1 t2 : List ℕ) (l : Line) → WorksOn has_run old mid t0 t1 → WorksOnGiven has_run mid new t1 t2 l → WorksOnGiven has_run old new t0 t2 l
  goes_after old mid new t0 t1 t2 l w v = λ a given so_far h.
      let x = w a given so_far h in
      let y = v a given (so_far ++ x.0) x.1 in
      (x.0 ++ y.0, subst (has_run new a (given ++ l ∷ [])) (append_assoc so_far x.0 y.0) y.1, y.2 ∙ ap (λ t. t ++ y.0) x.2 ∙ append_assoc t0 x.0 y.0)

  -- what holds throughout stays true
  pub on_beside : (T : Type 0) (old new : P) (t0 t1 : List ℕ) → WorksOn has_run old new t0 t1
      → (a : A) (given : List Line) (so_far : List ℕ) → T × has_run old a given so_far → (printed : List ℕ) × (T × has_run new a given (so_far ++ printed)) × (t1 ≡ t0 ++ printed)
  on_beside T old new t0 t1 on a given so_far h = let w = on a given so_far h.1 in (w.0, (h.0, w.1), w.2)

  pub goes_beside : (T : Type 0) (old new : P) (t0 t1 : List ℕ) (l : Line) → WorksOnGiven has_run old new t0 t1 l
      → (a : A) (given : List Line) (so_far : List ℕ) → T × has_run old a given so_far → (printed : List ℕ) × (T × has_run new a (given ++ l ∷ []) (so_far ++ printed)) × (t1 ≡ t0 ++ printed)
  goes_beside T old new t0 t1 l goes a given so_far h = let w = goes a given so_far h.1 in (w.0, (h.0, w.1), w.2)

-- ---- lines that wait

module _ {G S W : Type 0} (other : Dialect → List ℕ → Reading → Type 0) (holds : S → Rules W → List Doc → W → Type 0) where
  -- these lines were taken by the run
  abbrev Takes : Answering G S → Answering G S → List ℕ → List ℕ → List Line → Type 0
  Takes old new t0 t1 ls = (rules : Rules W) (given : List Line) (so_far : List ℕ) → HasAnswered other holds old rules given so_far
      → (printed : List ℕ) × HasAnswered other holds new rules (given ++ ls) (so_far ++ printed) × (t1 ≡ t0 ++ printed)

  takes_none : (old new : Answering G S) (t0 t1 : List ℕ) → WorksOn (HasAnswered other holds) old new t0 t1 → Takes old new t0 t1 []
  takes_none old new t0 t1 on = λ rules given so_far h.
      let w = on rules given so_far h in (w.0, subst (λ ls. HasAnswered other holds new rules ls (so_far ++ w.0)) (sym (append-nil given)) w.1, w.2)

  module _ (old new : Ahead G S) (t0 t1 : List ℕ) (number : new.number ≡ old.number) where
    worked_on : (ls : List Line) → waiting_in old ≡ ls ++ waiting_in new → new.worked ≤ length new.held → new.worked ≤ old.worked + length ls → Takes old.answering new.answering t0 t1 ls
        → WorksOn (HasHeld other holds) old new t0 t1
    worked_on ls cut within grown takes = λ rules given so_far h.
        let w = takes rules h.done so_far h.answered in (
          w.0,
          record {
            done = h.done ++ ls;
            lines = h.lines ∙ ap (λ hs. h.done ++ hs) cut ∙ sym (append_assoc h.done ls (waiting_in new));
            within = within;
            past = omega (arith, grown, h.past, length-append h.done ls);
            answered = w.1;
            number = number ∙ h.number;
            short = omega (arith, number, h.short);
          },
          w.2,
        )

    -- none of those that wait was taken
    pub stays_on : IsRunning (HasHeld other holds) old → new.held ≡ old.held → new.worked ≡ old.worked → WorksOn (HasAnswered other holds) old.answering new.answering t0 t1
        → WorksOn (HasHeld other holds) old new t0 t1
    stays_on r held worked on =
        worked_on [] (sym (ap (λ xs. drop new.worked xs) held ∙ ap (λ n. drop n old.held) worked)) (omega (arith, worked, ap length held, r.3.within)) (omega (arith, worked))
        (takes_none old.answering new.answering t0 t1 on)

  module _ (old : Ahead G S) (r : IsRunning (HasHeld other holds) old) (tasks more : List (Result Doc Other)) (waits : AreWaiting old (tasks ++ more)) where
    -- as many lines wait as are read
    pub waits_long : length tasks + length more + old.worked ≡ length old.held
    waits_long =
        let long = AllZip-long (IsTaskOf (dialect_of old.answering.dialect)) (waiting_in old) (tasks ++ more) waits in
        omega (arith, long, length-append tasks more, length-drop old.worked old.held, r.3.within)

    pub waits_few : old.answering.number + length tasks ≤ 2 ^ 40 + 1
    waits_few =
        let h = r.3 in
        let all = ap length h.lines ∙ length-append h.done (waiting_in old) in
        omega (arith, all, h.number, h.short, h.answered.number, length-drop old.worked old.held, waits_long)

    -- and no more than have been given
    pub waits_fit : old.worked + length tasks ≤ 2 ^ 40 + 1
    waits_fit =
        let h = r.3 in
        let all = ap length h.lines ∙ length-append h.done (waiting_in old) in
        omega (arith, all, h.number, h.short, h.past, length-drop old.worked old.held, h.within, waits_long)

    module _ (new : Ahead G S) (t0 t1 : List ℕ) (worked : HasWorked old new (length tasks)) where
      rest_is : waiting_in new ≡ drop (length tasks) (waiting_in old)
      rest_is = ap (λ xs. drop new.worked xs) worked.0 ∙ ap (λ n. drop n old.held) worked.1 ∙ sym (drop-drop (length tasks) old.worked old.held)

      cut_is : waiting_in old ≡ take (length tasks) (waiting_in old) ++ waiting_in new
      cut_is = sym (take-append-drop (length tasks) (waiting_in old)) ∙ ap (λ xs. take (length tasks) (waiting_in old) ++ xs) (sym rest_is)

      pub run_worked : new.number ≡ old.number → TakesRun other holds old.answering new.answering t0 t1 tasks → WorksOn (HasHeld other holds) old new t0 t1
      run_worked number takes =
          let ls = take (length tasks) (waiting_in old) in
          let front = zip_front (IsTaskOf (dialect_of old.answering.dialect)) (waiting_in old) tasks more waits in
          let few : length tasks ≤ length (waiting_in old) = omega (arith, waits_long, length-drop old.worked old.held, r.3.within) in
          worked_on old new t0 t1 number ls cut_is (omega (arith, worked.1, ap length worked.0, waits_long))
          (omega (arith, worked.1, length-take-le (length tasks) (waiting_in old) few)) (takes ls front)

      pub waits_still : WorksOn (HasHeld other holds) old new t0 t1 → AreWaiting new more
      waits_still on =
          let w = on r.0 r.1 r.2 r.3 in
          let same : dialect_of old.answering.dialect ≡ dialect_of new.answering.dialect = r.3.answered.dialect ∙ sym w.1.answered.dialect in
          subst (λ (how : Dialect). AllZip (IsTaskOf how) (waiting_in new) more) same
          (subst (λ xs. AllZip (IsTaskOf (dialect_of old.answering.dialect)) xs more) (sym rest_is)
          (zip_back (IsTaskOf (dialect_of old.answering.dialect)) (waiting_in old) tasks more waits))

  pub rest_waits : (old new : Ahead G S) (r : IsRunning (HasHeld other holds) old) (tasks : List (Result Doc Other)) (n : ℕ) → n ≤ length tasks → AreWaiting old tasks → HasWorked old new n
      → (t0 t1 : List ℕ) → WorksOn (HasHeld other holds) old new t0 t1 → AreWaiting new (drop n tasks)
  rest_waits old new r tasks n most waits worked t0 t1 on =
      let all : AreWaiting old (take n tasks ++ drop n tasks) = subst (λ ts. AreWaiting old ts) (sym (take-append-drop n tasks)) waits in
      let long : length (take n tasks) ≡ n = length-take-le n tasks most in
      waits_still old r (take n tasks) (drop n tasks) all new t0 t1 (subst (λ k. HasWorked old new k) (sym long) worked) on

  pub low : (old : Ahead G S) (r : IsRunning (HasHeld other holds) old) (task : Result Doc Other) (more : List (Result Doc Other)) → AreWaiting old (task ∷ more) → old.worked < length old.held
  low old r task more waits = omega (arith, waits_long old r (task ∷ []) more waits)

  -- the first line that waits is read so
  pub first_task : (old : Ahead G S) (r : IsRunning (HasHeld other holds) old) (task : Result Doc Other) (more : List (Result Doc Other)) → AreWaiting old (task ∷ more)
      → (l : Line) → slice_get old.held old.worked ≡ Some l → IsTaskOf (dialect_of old.answering.dialect) l task
  first_task old r task more waits l is =
      let l_is : get_or old.held old.worked l ≡ l = get_or_from_slice_get old.held old.worked l l is in
      let first : waiting_in old ≡ l ∷ drop (suc old.worked) old.held = drop-cons old.held old.worked l (low old r task more waits) ∙ ap (λ x. x ∷ drop (suc old.worked) old.held) l_is in
      (subst (λ xs. AllZip (IsTaskOf (dialect_of old.answering.dialect)) xs (task ∷ more)) first waits).0

  -- the first line that waits is taken
  module _ (old new : Ahead G S) (r : IsRunning (HasHeld other holds) old) (task : Result Doc Other) (more : List (Result Doc Other)) (waits : AreWaiting old (task ∷ more))
      (t0 t1 : List ℕ) (l : Line) (l_is : l ≡ get_or old.held old.worked l) where
    taken_low : old.worked < length old.held
    taken_low = omega (arith, waits_long old r (task ∷ []) more waits)

    first_is : waiting_in old ≡ l ∷ drop (old.worked + 1) old.held
    first_is =
        let plus : suc old.worked ≡ old.worked + 1 = omega arith in
        drop-cons old.held old.worked l taken_low ∙ (λ i. sym l_is i ∷ drop (plus i) old.held)

    pub one_worked : HasWorked old new 1 → new.number ≡ old.number → WorksOnGiven (HasAnswered other holds) old.answering new.answering t0 t1 l → WorksOn (HasHeld other holds) old new t0 t1
    one_worked worked number goes =
        worked_on old new t0 t1 number (l ∷ []) (first_is ∙ ap (λ xs. l ∷ xs) (sym (ap (λ xs. drop new.worked xs) worked.0 ∙ ap (λ n. drop n old.held) worked.1)))
        (omega (arith, worked.1, ap length worked.0, taken_low)) (omega (arith, worked.1)) goes

  -- all lines that wait are taken
  pub all_worked : (old mid new : Ahead G S) (r : IsRunning (HasHeld other holds) old) (tasks : List (Result Doc Other)) → AreWaiting old tasks → HasWorked old mid (length tasks)
      → new.answering ≡ mid.answering → new.held ≡ [] → new.worked ≡ 0 → new.number ≡ mid.number → (t0 t1 : List ℕ) → WorksOn (HasHeld other holds) old mid t0 t1
      → WorksOn (HasHeld other holds) old new t0 t1
  all_worked old mid new r tasks waits worked answering held none number t0 t1 on =
      let nil : AreWaiting old (tasks ++ []) = subst (λ ts. AreWaiting old ts) (sym (append-nil tasks)) waits in
      let long = waits_long old r tasks [] nil in
      let past : length mid.held ≤ mid.worked = omega (arith, long, worked.1, ap length worked.0) in
      let stays = worked_on mid new t1 t1 number [] (drop_all mid.worked mid.held past ∙ sym (ap (λ xs. drop new.worked xs) held ∙ drop_all new.worked [] (omega arith)))
      (omega (arith, none)) (omega (arith, none)) (takes_none mid.answering new.answering t1 t1 (stays_at (HasAnswered other holds) mid.answering new.answering t1 t1 answering refl)) in
      goes_on (HasHeld other holds) old mid new t0 t1 t1 on stays

  -- one more line waits
  pub put_more : (old new : Ahead G S) (l : Line) → new.answering ≡ old.answering → new.held ≡ old.held ++ l ∷ [] → new.worked ≡ old.worked → new.number ≡ old.number + 1
      → old.number ≤ 2 ^ 40 → (text : List ℕ) → WorksOnGiven (HasHeld other holds) old new text text l
  put_more old new l answering held worked number few text = λ rules given so_far h.
      let waits : waiting_in new ≡ waiting_in old ++ l ∷ [] =
      ap (λ xs. drop new.worked xs) held ∙ ap (λ n. drop n (old.held ++ l ∷ [])) worked ∙ drop-append-le old.worked old.held (l ∷ []) h.within in (
        [],
        record {
          done = h.done;
          lines = ap (λ ls. ls ++ l ∷ []) h.lines ∙ append_assoc h.done (waiting_in old) (l ∷ []) ∙ ap (λ ls. h.done ++ ls) (sym waits);
          within = omega (arith, worked, ap length held, length-append old.held (l ∷ []), h.within);
          past = omega (arith, worked, h.past);
          answered = subst (λ t. HasAnswered other holds new.answering rules h.done t) (sym (append-nil so_far))
              (subst (λ (s : Answering G S). HasAnswered other holds s rules h.done so_far) (sym answering) h.answered);
          number = number ∙ ap (λ n. n + 1) h.number ∙ sym (length-append given (l ∷ []));
          short = omega (arith, number, few);
        },
        sym (append-nil text),
      )

  pub put_none : (old new : Ahead G S) → new.answering ≡ old.answering → new.held ≡ old.held → new.worked ≡ old.worked → new.number ≡ old.number
      → IsRunning (HasHeld other holds) old → (text : List ℕ) → WorksOn (HasHeld other holds) old new text text
  put_none old new answering held worked number r text =
      stays_on old new text text number r held worked (stays_at (HasAnswered other holds) old.answering new.answering text text answering refl)

  -- before the first line
  pub held_none : (s : Ahead G S) → s.held ≡ [] → s.worked ≡ 0 → s.number ≡ 0 → (rules : Rules W) → HasAnswered other holds s.answering rules [] [] → HasHeld other holds s rules [] []
  held_none s held worked number rules h = record {
    done = [];
    lines = sym (ap (λ xs. drop s.worked xs) held ∙ drop_all s.worked [] (omega arith));
    within = omega (arith, worked);
    past = omega (arith, worked);
    answered = h;
    number = number;
    short = omega (arith, number);
  }

  -- where no line waits
  module _ (s : Ahead G S) (none : HoldsNone s) (rules : Rules W) (given : List Line) (so_far : List ℕ) (h : HasHeld other holds s rules given so_far) where
    all_done : h.done ≡ given
    all_done =
        let rest : waiting_in s ≡ [] = ap (λ xs. drop s.worked xs) none.0 ∙ drop_all s.worked [] (omega arith) in
        sym (append-nil h.done) ∙ ap (λ hs. h.done ++ hs) (sym rest) ∙ sym h.lines

    pub held_body : IsBody other exactly rules given so_far
    held_body = subst (λ ls. IsBody other exactly rules ls so_far) all_done (answered_body other holds s.answering rules h.done so_far h.answered)

  pub held_finishes : {Q E : Type 0} (T : Type 0) (q : Q) (has : Q → Rules W → List Line → List ℕ → Type 0) (s : Ahead G S) → HoldsNone s → (t0 t1 : List ℕ) (r : Result ℕ E)
      → IfOk r (λ refused. (rules : Rules W) (given : List Line) (so_far : List ℕ) → HasAnswered other holds s.answering rules given so_far
      → Finishes (HasAnswered other holds) (IsText other exactly) (HasRefusal other) (HasNoRefusal other) s.answering t0 t1 refused rules given so_far)
      → MatchResult r (λ refused. (rules : Rules W) (given : List Line) (so_far : List ℕ) → T × HasHeld other holds s rules given so_far
      → Finishes has (IsText other exactly) (HasRefusal other) (HasNoRefusal other) q t0 t1 refused rules given so_far) (λ e. ⊤)
  held_finishes T q has s none t0 t1 r f = ok_match r f (λ refused ends rules given so_far h.
      let x = subst (λ ls. Finishes (HasAnswered other holds) (IsText other exactly) (HasRefusal other) (HasNoRefusal other) s.answering t0 t1 refused rules ls so_far)
      (all_done s none rules given so_far h.1) (ends rules h.1.done so_far h.1.answered) in
      record { printed = x.printed; whole = x.whole; text = x.text; some = x.some; none = x.none })
