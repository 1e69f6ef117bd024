-- A run takes lines, and processes them.
use Rattle.eb_fields.specs.Dialect.{dialect_of, Dialect}
use Rattle.std.proofs.Common.{◌≡◌, ℕ, ◌+◌, ◌≤◌, true, false, List, [], ◌∷◌, ◌++◌, length, Some, None, refl, sym, ap, ap₂, subst, ◌∙◌, arith, append_assoc, append-nil, length-append}
use Rattle.std.specs.Prelude.{Result, Ok, Err, OnOk, OnErr}
use Rattle.std.proofs.lemmas.Bool.Decides.{nat_tests}
use Rattle.eb_base.specs.Setting.{Setting}
use Rattle.eb_engine.specs.Tokens.{HistoryToken, ConverterToken}
use Rattle.eb_io.specs.Lines.{Line}
use Rattle.eb_table.specs.Known.{Words}
use Rattle.eb_rounds.specs.declared.input.Input.{Input}
use Rattle.eb_rounds.specs.declared.input.Input.TheVariants as passed
use Rattle.eb_rounds.specs.Inputs.{HeldLine}
use Rattle.eb_rounds.specs.Passed.{input_of, input_kind}
use Rattle.eb_rounds.specs.Shown.{WorkedOffBoth}
use Rattle.eb_rounds.specs.declared.input.Kind.{Kind}
use Rattle.eb_rounds.specs.declared.input.Kind.TheVariants as kind
use Rattle.eb_rounds.specs.Standing.{Standing, documents_held, queries_held, refused_held, with_held, with_round}
use Rattle.eb_rounds.specs.Takes.{takes_kind}
use Rattle.eb_run.specs.declared.running.Running.{Running}
use Rattle.eb_run.specs.Holding.{held_as, before_held}
use Rattle.eb_run.specs.Waiting.{HasGathered, AreRound}
use Rattle.eb_lines.specs.declared.form.Form.{Form}
use Rattle.eb_lines.specs.Programs.{WorksOn, WorksOnGiven}
use Rattle.eb_run.specs.Running.{Asked, HasRun, HoldsNone}
use Rattle.eb_run.proofs.LineReadings.{asks_query, reads_quiet, free_of}
use Rattle.eb_run.proofs.Waits.{both_off, gathered_none, round_opened, one_more, round_quiet, round_free}

-- the run with these in place of its own
abbrev pub with_parts : Running → HistoryToken → ConverterToken → Standing → ℕ → Running
with_parts r writer converter rounds number =
    record { dialect = r.dialect; form = r.form; index = r.index; writer = writer; converter = converter; rounds = rounds; number = number }

pub takes_none : (k : Kind) → takes_kind [] k ≡ true
unfolding documents_held queries_held refused_held
takes_none kind.DocumentLine = refl
takes_none kind.QueryLine = refl
takes_none kind.RefusedLine = refl

queries_none : (held : List HeldLine) → held ≡ [] → queries_held held ≡ 0
unfolding queries_held
queries_none held e = ap queries_held e

pub none_waits : (r : Running) → HoldsNone r → queries_held r.rounds.ahead + queries_held r.rounds.held ≡ 0
none_waits r none = ap₂ (λ x y. x + y) (queries_none r.rounds.ahead none.0) (queries_none r.rounds.held none.1)

-- ---- one after another

pub goes_quiet : (old new : Running) (l : Line) → ((a : Asked) (given : List Line) (so_far : List ℕ) → HasRun old a given so_far → HasRun new a (given ++ l ∷ []) so_far)
    → (text : List ℕ) → WorksOnGiven HasRun old new text text l
goes_quiet old new l f text = λ a given so_far h. ([], subst (HasRun new a (given ++ l ∷ [])) (sym (append-nil so_far)) (f a given so_far h), sym (append-nil text))

pub goes_after : (old mid new : Running) (t0 t1 t2 : List ℕ) (l : Line) → WorksOn HasRun old mid t0 t1 → WorksOnGiven HasRun mid new t1 t2 l → WorksOnGiven HasRun old new t0 t2 l
goes_after old mid new t0 t1 t2 l w g = λ a given so_far h.
    let x = w a given so_far h in
    let y = g a given (so_far ++ x.0) x.1 in
    (x.0 ++ y.0, subst (HasRun new a (given ++ l ∷ [])) (append_assoc so_far x.0 y.0) y.1, y.2 ∙ ap (λ t. t ++ y.0) x.2 ∙ append_assoc t0 x.0 y.0)

-- what holds throughout stays beside
pub on_beside : (T : Type 0) (old new : Running) (t0 t1 : List ℕ) → WorksOn HasRun old new t0 t1
    → (a : Asked) (given : List Line) (so_far : List ℕ) → T × HasRun old a given so_far → (printed : List ℕ) × (T × HasRun new a given (so_far ++ printed)) × (t1 ≡ t0 ++ printed)
on_beside T old new t0 t1 on a given so_far h = let w = on a given so_far h.1 in (w.0, (h.0, w.1), w.2)

pub goes_beside : (T : Type 0) (old new : Running) (t0 t1 : List ℕ) (l : Line) → WorksOnGiven HasRun old new t0 t1 l
    → (a : Asked) (given : List Line) (so_far : List ℕ) → T × HasRun old a given so_far → (printed : List ℕ) × (T × HasRun new a (given ++ l ∷ []) (so_far ++ printed)) × (t1 ≡ t0 ++ printed)
goes_beside T old new t0 t1 l goes a given so_far h = let w = goes a given so_far h.1 in (w.0, (h.0, w.1), w.2)

module _ (old new : Running) (a : Asked) (given : List Line) (so_far : List ℕ)
    (h : HasRun old a given so_far) (how : dialect_of new.dialect ≡ dialect_of old.dialect) (form : new.form ≡ old.form) (index : new.index ≡ old.index)
    (writer : new.writer.index ≡ old.writer.index) (converter : new.converter.index ≡ old.converter.index) where
  setting_is : old.index.setting ≡ a.setting
  setting_is = ap (λ (x : Words). x.setting) h.index ∙ h.setting

  -- the held lines are processed
  pub run_off : (printed : List ℕ) → new.number ≡ old.number
      → WorkedOffBoth (dialect_of old.dialect) old.form old.index.setting old.rounds.ahead old.rounds.held old.writer.docs new.writer.docs old.rounds.counts new.rounds.counts printed
      → HoldsNone new → new.rounds.greatest ≡ old.rounds.greatest → HasRun new a given (so_far ++ printed)
  run_off printed number w none greatest =
      let W : Dialect → Form → Setting → Type 0 = λ ns f s.
      WorkedOffBoth ns f s old.rounds.ahead old.rounds.held old.writer.docs new.writer.docs old.rounds.counts new.rounds.counts printed in
      let worked = subst (λ (ns : Dialect). W ns a.form a.setting) h.dialect
      (subst (λ (f : Form). W (dialect_of old.dialect) f a.setting) h.form (subst (λ (s : Setting). W (dialect_of old.dialect) old.form s) setting_is w)) in
      let s = both_off a.dialect a.form a.setting given old.writer.docs new.writer.docs old.rounds new.rounds.counts so_far printed h.worked worked in
      record {
        words = h.words;
        index = index ∙ h.index;
        setting = h.setting;
        writer = writer ∙ h.writer;
        converter = converter ∙ h.converter;
        dialect = how ∙ h.dialect;
        form = form ∙ h.form;
        number = number ∙ h.number;
        worked = gathered_none a.dialect a.form a.setting given new.writer.docs new.rounds (so_far ++ printed) s none.0 none.1 (omega (arith, greatest, h.worked.greatest));
      }

  -- nothing is done
  pub run_same : new.number ≡ old.number → new.writer.docs ≡ old.writer.docs → new.rounds ≡ old.rounds → HasRun new a given so_far
  run_same number docs rounds = record {
    words = h.words;
    index = index ∙ h.index;
    setting = h.setting;
    writer = writer ∙ h.writer;
    converter = converter ∙ h.converter;
    dialect = how ∙ h.dialect;
    form = form ∙ h.form;
    number = number ∙ h.number;
    worked = subst (λ s. HasGathered a.dialect a.form a.setting given new.writer.docs s so_far) (sym rounds)
        (subst (λ ds. HasGathered a.dialect a.form a.setting given ds old.rounds so_far) (sym docs) h.worked);
  }

  -- a round is opened
  pub run_opened : new.number ≡ old.number → new.writer.docs ≡ old.writer.docs → old.rounds.ahead ≡ [] → new.rounds ≡ with_round old.rounds → HasRun new a given so_far
  run_opened number docs ahead rounds = record {
    words = h.words;
    index = index ∙ h.index;
    setting = h.setting;
    writer = writer ∙ h.writer;
    converter = converter ∙ h.converter;
    dialect = how ∙ h.dialect;
    form = form ∙ h.form;
    number = number ∙ h.number;
    worked = subst (λ s. HasGathered a.dialect a.form a.setting given new.writer.docs s so_far) (sym rounds)
        (round_opened a.dialect a.form a.setting given new.writer.docs old.rounds so_far (subst (λ ds. HasGathered a.dialect a.form a.setting given ds old.rounds so_far) (sym docs) h.worked) ahead);
  }

  module _ (l : Line) (number : new.number ≡ old.number + 1) where
    given_long : length (given ++ l ∷ []) ≡ length given + 1
    given_long = length-append given (l ∷ [])

    number_is : new.number ≡ length (given ++ l ∷ [])
    number_is = omega (arith, number, h.number, given_long)

    free_round : documents_held old.rounds.held ≡ 0 → AreRound a.dialect (h.worked.behind ++ l ∷ [])
    free_round none = round_free a.dialect h.worked.behind l (free_of a.dialect (length h.worked.before) h.worked.behind (sym (ap documents_held h.worked.lines) ∙ none))

    quiet_round : asks_query (held_as a.dialect l) ≡ false → AreRound a.dialect (h.worked.behind ++ l ∷ [])
    quiet_round quiet = round_quiet a.dialect h.worked.behind l h.worked.round (λ r reads. reads_quiet a.dialect l r quiet reads)

    -- the line is held, or passed over
    more : (docs : new.writer.docs ≡ old.writer.docs) → AreRound a.dialect (h.worked.behind ++ l ∷ []) → new.rounds.ahead ≡ old.rounds.ahead
        → new.rounds.held ≡ old.rounds.held ++ before_held (length given + 1) (held_as a.dialect l) [] → new.rounds.counts ≡ old.rounds.counts → new.rounds.greatest ≤ length given + 1
        → HasRun new a (given ++ l ∷ []) so_far
    more docs round ahead lines counts greatest = record {
      words = h.words;
      index = index ∙ h.index;
      setting = h.setting;
      writer = writer ∙ h.writer;
      converter = converter ∙ h.converter;
      dialect = how ∙ h.dialect;
      form = form ∙ h.form;
      number = number_is;
      worked = subst (λ ds. HasGathered a.dialect a.form a.setting (given ++ l ∷ []) ds new.rounds so_far) (sym docs)
          (one_more a.dialect a.form a.setting given l old.writer.docs old.rounds new.rounds so_far h.worked round ahead lines counts greatest);
    }

    input_round : (input : Input) → takes_kind old.rounds.held (input_kind input) ≡ true → held_as a.dialect l ≡ Some (input_of input) → AreRound a.dialect (h.worked.behind ++ l ∷ [])
    input_round (passed.DocumentLine bytes) takes is = quiet_round (ap asks_query is)
    input_round (passed.QueryLine text) takes is = free_round (grind (arith, nat_tests))
    input_round (passed.RefusedLine r) takes is = quiet_round (ap asks_query is)

    pub run_held : (input : Input) → new.writer.docs ≡ old.writer.docs → takes_kind old.rounds.held (input_kind input) ≡ true → held_as (dialect_of old.dialect) l ≡ Some (input_of input)
        → new.rounds ≡ with_held old.rounds (old.number + 1) (input_of input) → HasRun new a (given ++ l ∷ []) so_far
    run_held input docs takes is_held rounds =
        let is : held_as a.dialect l ≡ Some (input_of input) = ap (λ d. held_as d l) (sym h.dialect) ∙ is_held in
        let held = ap (λ (s : Standing). s.held) rounds in
        let counts = ap (λ (s : Standing). s.counts) rounds in
        let greatest = ap (λ (s : Standing). s.greatest) rounds in
        let lines : new.rounds.held ≡ old.rounds.held ++ before_held (length given + 1) (held_as a.dialect l) [] =
        held ∙ ap₂ (λ n o. old.rounds.held ++ before_held (n + 1) o []) h.number (sym is) in
        more docs (input_round input takes is) (ap (λ (s : Standing). s.ahead) rounds) lines counts (omega (arith, greatest, h.number))

    pub run_blank : new.writer.docs ≡ old.writer.docs → held_as (dialect_of old.dialect) l ≡ None → new.rounds ≡ old.rounds → HasRun new a (given ++ l ∷ []) so_far
    run_blank docs is_held rounds =
        let is : held_as a.dialect l ≡ None = ap (λ d. held_as d l) (sym h.dialect) ∙ is_held in
        let held = ap (λ (s : Standing). s.held) rounds in
        let lines : new.rounds.held ≡ old.rounds.held ++ before_held (length given + 1) (held_as a.dialect l) [] =
        held ∙ sym (append-nil old.rounds.held) ∙ ap (λ o. old.rounds.held ++ before_held (length given + 1) o []) (sym is) in
        let ahead = ap (λ (s : Standing). s.ahead) rounds in
        more docs (quiet_round (ap asks_query is)) ahead lines (ap (λ (s : Standing). s.counts) rounds)
        (omega (arith, ap (λ (s : Standing). s.greatest) rounds, h.worked.greatest))

-- ---- the held lines, processed or not

module _ (old new : Running) (t0 t1 : List ℕ) (how : dialect_of new.dialect ≡ dialect_of old.dialect) (form : new.form ≡ old.form) (index : new.index ≡ old.index)
    (writer : new.writer.index ≡ old.writer.index)
    (converter : new.converter.index ≡ old.converter.index) (number : new.number ≡ old.number) where
  pub unchanged_on : new.rounds ≡ old.rounds → new.writer.docs ≡ old.writer.docs → t1 ≡ t0 → WorksOn HasRun old new t0 t1
  unchanged_on rounds docs text = λ a given so_far h.
      ([], subst (HasRun new a given) (sym (append-nil so_far)) (run_same old new a given so_far h how form index writer converter number docs rounds), text ∙ sym (append-nil t0))

  pub opened_on : new.rounds ≡ with_round old.rounds → old.rounds.ahead ≡ [] → new.writer.docs ≡ old.writer.docs → t1 ≡ t0 → WorksOn HasRun old new t0 t1
  opened_on rounds ahead docs text = λ a given so_far h.
      ([], subst (HasRun new a given) (sym (append-nil so_far)) (run_opened old new a given so_far h how form index writer converter number docs ahead rounds), text ∙ sym (append-nil t0))

  pub held_on : {T E : Type 0} (r : Result T E)
      → OnOk r ((printed : List ℕ)
      × WorkedOffBoth (dialect_of old.dialect) old.form old.index.setting old.rounds.ahead old.rounds.held old.writer.docs new.writer.docs old.rounds.counts new.rounds.counts printed
      × (t1 ≡ t0 ++ printed))
      → OnOk r ((new.rounds.ahead ≡ []) × (new.rounds.held ≡ []) × (new.rounds.greatest ≡ old.rounds.greatest)) → OnErr r (WorksOn HasRun old new t0 t1) → WorksOn HasRun old new t0 t1
  held_on (Ok x) done held err = λ a given so_far h. (done.0, run_off old new a given so_far h how form index writer converter done.0 number done.1 (held.0, held.1) held.2, done.2)
  held_on (Err e) done held err = err
