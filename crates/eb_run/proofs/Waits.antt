-- Lines are held, one after another, and processed.
use Rattle.eb_fields.specs.Dialect.{Dialect}
use Rattle.std.proofs.Common.{◌≡◌, ℕ, suc, ◌+◌, ◌≤◌, false, List, [], ◌∷◌, ◌++◌, length, Option, Some, None, refl, sym, ap, ap₂, subst, ◌∙◌, arith, append_assoc, append-nil, length-append}
use Rattle.std.specs.List.{AllZip, AllByRecursion}
use Rattle.eb_base.specs.Document.{Doc}
use Rattle.eb_base.specs.Setting.{Setting}
use Rattle.eb_io.specs.Lines.{Line}
use Rattle.eb_lines.specs.declared.form.Form.{Form}
use Rattle.eb_lines.specs.Reading.{Reading}
use Rattle.eb_rounds.specs.Inputs.{HeldInput, HeldLine, admitted_in, added}
use Rattle.eb_rounds.specs.Shown.{Counted, shown_text, WorkedOff, WorkedOffBoth}
use Rattle.run_store.specs.Rows.{NoQueryLine, QueriesFirst}
use Rattle.run_store.specs.Sees.{is_document_line, is_query_line}
use Rattle.eb_rounds.specs.Standing.{Standing, with_round}
use Rattle.eb_lines.specs.Reads.{Reads}
use Rattle.eb_run.specs.Holding.{held_as, before_held, held_from}
use Rattle.eb_run.specs.Waiting.{HasWorkedOff, HasGathered, HasSettled, AreRound, round_ahead}
use Rattle.eb_run.proofs.Going.{overlapped}

-- ---- nothing is held

pub off_none : (how : Dialect) (form : Form) (σ : Setting) (docs : List Doc) (counts : Counted) → WorkedOff how form σ [] docs docs counts counts []
unfolding shown_text admitted_in added
off_none how form σ docs counts = record {
  raw = [];
  shown = [];
  read = tt;
  lines = refl;
  docs = sym (append-nil docs);
  numbers = omega arith;
  text = refl;
  documents = omega arith;
  queries = omega arith;
  refused = omega arith;
}

none_round : (how : Dialect) → AreRound how []
none_round how [] h = tt
none_round how (r ∷ rs) h = absurd h

of_settled : (how : Dialect) (form : Form) (σ : Setting) (given : List Line) (docs : List Doc) (held : Standing) (so_far : List ℕ)
    → HasSettled how form σ given docs held.counts so_far → held.held ≡ [] → held.greatest ≤ length given
    → HasWorkedOff how form σ given docs held so_far
of_settled how form σ given docs held so_far s none le = record {
  done = given;
  waiting = [];
  readings = s.readings;
  numbers = s.numbers;
  parts = sym (append-nil given);
  read = s.read;
  sees = s.sees;
  adds = s.adds;
  lines = none;
  round = none_round how;
  counts = s.counted;
  greatest = le;
  printed = s.printed;
}

-- where no line is held, all are done: those that wait are blank
settled : (how : Dialect) (form : Form) (σ : Setting) (given : List Line) (docs : List Doc) (held : Standing) (so_far : List ℕ) → HasWorkedOff how form σ given docs held so_far
    → held.held ≡ []
    → HasSettled how form σ given docs held.counts so_far
settled how form σ given docs held so_far a none =
    let w : WorkedOff how form σ held.held docs docs held.counts held.counts [] = subst (λ hs. WorkedOff how form σ hs docs docs held.counts held.counts []) (sym none)
    (off_none how form σ docs held.counts) in
    subst (HasSettled how form σ given docs held.counts) (append-nil so_far) (overlapped how form σ given docs docs held held.counts so_far [] a w)

-- ---- one more line

held_push : (how : Dialect) (k : ℕ) (ls : List Line) (l : Line) → held_from how k (ls ++ l ∷ []) ≡ held_from how k ls ++ before_held (k + length ls + 1) (held_as how l) []
held_push how k [] l = ap (λ n. before_held (n + 1) (held_as how l) []) (let same : k ≡ k + 0 = omega arith in same)
held_push how k (x ∷ ls) l = one _ (held_from how (k + 1) ls) (before_held (k + suc (length ls) + 1) (held_as how l) []) (held_as how x) (held_push how (k + 1) ls l
    ∙ ap (λ n. held_from how (k + 1) ls ++ before_held (n + 1) (held_as how l) []) (let same : k + 1 + length ls ≡ k + suc (length ls) = omega arith in same)) where
      one : (hs gs more : List HeldLine) (o : Option HeldInput) → hs ≡ gs ++ more → before_held (k + 1) o hs ≡ before_held (k + 1) o gs ++ more
      one hs gs more None e = e
      one hs gs more (Some i) e = ap (λ l. record { number = k + 1; input = i } ∷ l) e

zip_split : {A B : Type 0} (R : A → B → Type 0) (xs : List A) (x : A) (ys : List B) → AllZip R (xs ++ x ∷ []) ys → (zs : List B) × (y : B) × (ys ≡ zs ++ y ∷ []) × AllZip R xs zs × R x y
zip_split R [] x [] h = absurd h
zip_split R [] x (y ∷ []) h = ([], y, refl, tt, h.0)
zip_split R [] x (y ∷ z ∷ ys) h = absurd (h.1)
zip_split R (w ∷ xs) x [] h = absurd h
zip_split R (w ∷ xs) x (y ∷ ys) h = let m = zip_split R xs x ys h.1 in (y ∷ m.0, m.1, ap (λ l. y ∷ l) m.2, (h.0, m.3), m.4)

no_query_push : (rs : List Reading) (r : Reading) → NoQueryLine rs → is_query_line r ≡ false → NoQueryLine (rs ++ r ∷ [])
no_query_push [] r h e = (e, tt)
no_query_push (x ∷ rs) r h e = (h.0, no_query_push rs r h.1 e)

-- a line that is no query line goes after all
first_push : (rs : List Reading) (r : Reading) → QueriesFirst rs → is_query_line r ≡ false → QueriesFirst (rs ++ r ∷ [])
first_push [] r h e = (λ d. tt, tt)
first_push (x ∷ rs) r h e = (λ d. no_query_push rs r (h.0 d) e, first_push rs r h.1 e)

-- any line goes after lines of which none is a document line
first_free : (rs : List Reading) (r : Reading) → AllByRecursion (λ x. is_document_line x ≡ false) rs → QueriesFirst (rs ++ r ∷ [])
first_free [] r h = (λ d. tt, tt)
first_free (x ∷ rs) r h = (λ d. absurd (cc (d, h.0)), first_free rs r h.1)

pub round_quiet : (how : Dialect) (ls : List Line) (l : Line) → AreRound how ls → ((r : Reading) → Reads how l r → is_query_line r ≡ false) → AreRound how (ls ++ l ∷ [])
round_quiet how ls l a quiet rs h =
    let m = zip_split (Reads how) ls l rs h in subst QueriesFirst (sym m.2) (first_push m.0 m.1 (a m.0 m.3) (quiet m.1 m.4))

pub round_free : (how : Dialect) (ls : List Line) (l : Line) → ((rs : List Reading) → AllZip (Reads how) ls rs → AllByRecursion (λ x. is_document_line x ≡ false) rs)
    → AreRound how (ls ++ l ∷ [])
round_free how ls l free rs h = let m = zip_split (Reads how) ls l rs h in subst QueriesFirst (sym m.2) (first_free m.0 m.1 (free m.0 m.3))

-- ---- the round ahead and the open one

-- where all lines are done but some, these are a round
abbrev wait_behind : (how : Dialect) (form : Form) (σ : Setting) (before behind given : List Line) (docs : List Doc) (held : Standing) (so_far : List ℕ)
    → HasSettled how form σ before docs held.counts so_far → given ≡ before ++ behind → held.held ≡ held_from how (length before) behind → AreRound how behind → held.greatest ≤ length given
    → HasWorkedOff how form σ given docs held so_far
wait_behind how form σ before behind given docs held so_far s parts lines round le = record {
  done = before;
  waiting = behind;
  readings = s.readings;
  numbers = s.numbers;
  parts = parts;
  read = s.read;
  sees = s.sees;
  adds = s.adds;
  lines = lines;
  round = round;
  counts = s.counted;
  greatest = le;
  printed = s.printed;
}

-- nothing waits after these lines
abbrev none_behind : (how : Dialect) (form : Form) (σ : Setting) (given : List Line) (docs : List Doc) (s : Standing) (so_far : List ℕ)
    → HasWorkedOff how form σ given docs (round_ahead s) so_far → s.held ≡ [] → s.greatest ≤ length given → HasGathered how form σ given docs s so_far
none_behind how form σ given docs s so_far w none le = record {
  before = given;
  behind = [];
  parts = sym (append-nil given);
  worked = w;
  lines = none;
  round = none_round how;
  greatest = le;
}

pub gathered_none : (how : Dialect) (form : Form) (σ : Setting) (given : List Line) (docs : List Doc) (s : Standing) (so_far : List ℕ)
    → HasSettled how form σ given docs s.counts so_far → s.ahead ≡ [] → s.held ≡ [] → s.greatest ≤ length given → HasGathered how form σ given docs s so_far
gathered_none how form σ given docs s so_far x ahead held le =
    none_behind how form σ given docs s so_far (of_settled how form σ given docs (round_ahead s) so_far x ahead (omega arith)) held le

-- both rounds are processed
pub both_off : (how : Dialect) (form : Form) (σ : Setting) (given : List Line) (docs docs_new : List Doc) (s : Standing) (counts_new : Counted) (so_far printed : List ℕ)
    → HasGathered how form σ given docs s so_far → WorkedOffBoth how form σ s.ahead s.held docs docs_new s.counts counts_new printed
    → HasSettled how form σ given docs_new counts_new (so_far ++ printed)
both_off how form σ given docs docs_new s counts_new so_far printed g w =
    let x = overlapped how form σ g.before docs w.docs_between (round_ahead s) w.counts_between so_far w.printed_first g.worked w.before in
    let m : Standing = record { ahead = []; held = s.held; counts = w.counts_between; greatest = 0 } in
    let y = wait_behind how form σ g.before g.behind given w.docs_between m (so_far ++ w.printed_first) x g.parts g.lines g.round (omega arith) in
    let z = overlapped how form σ given w.docs_between docs_new m counts_new (so_far ++ w.printed_first) w.printed_then y w.behind in
    subst (HasSettled how form σ given docs_new counts_new) (append_assoc so_far w.printed_first w.printed_then ∙ ap (λ t. so_far ++ t) (sym w.text)) z

-- where no line is held, all are done
pub all_settled : (how : Dialect) (form : Form) (σ : Setting) (given : List Line) (docs : List Doc) (s : Standing) (so_far : List ℕ) → HasGathered how form σ given docs s so_far
    → s.ahead ≡ [] → s.held ≡ [] → HasSettled how form σ given docs s.counts so_far
all_settled how form σ given docs s so_far g ahead held =
    let x = settled how form σ g.before docs (round_ahead s) so_far g.worked ahead in
    let m : Standing = record { ahead = []; held = s.held; counts = s.counts; greatest = 0 } in
    settled how form σ given docs m so_far (wait_behind how form σ g.before g.behind given docs m so_far x g.parts g.lines g.round (omega arith)) held

-- a round is opened where none is ahead
pub round_opened : (how : Dialect) (form : Form) (σ : Setting) (given : List Line) (docs : List Doc) (s : Standing) (so_far : List ℕ) → HasGathered how form σ given docs s so_far
    → s.ahead ≡ [] → HasGathered how form σ given docs (with_round s) so_far
round_opened how form σ given docs s so_far g ahead =
    let x = settled how form σ g.before docs (round_ahead s) so_far g.worked ahead in
    let w = wait_behind how form σ g.before g.behind given docs (round_ahead (with_round s)) so_far x g.parts g.lines g.round (omega arith) in
    none_behind how form σ given docs (with_round s) so_far w refl g.greatest

-- a line is given, and held if it isn't blank; the open round stays one
pub one_more : (how : Dialect) (form : Form) (σ : Setting) (given : List Line) (l : Line) (docs : List Doc) (s s_new : Standing) (so_far : List ℕ)
    (g : HasGathered how form σ given docs s so_far)
    → AreRound how (g.behind ++ l ∷ []) → s_new.ahead ≡ s.ahead → s_new.held ≡ s.held ++ before_held (length given + 1) (held_as how l) [] → s_new.counts ≡ s.counts
    → s_new.greatest ≤ length given + 1 → HasGathered how form σ (given ++ l ∷ []) docs s_new so_far
one_more how form σ given l docs s s_new so_far g round ahead lines counts greatest = record {
  before = g.before;
  behind = g.behind ++ l ∷ [];
  parts = ap (λ ls. ls ++ l ∷ []) g.parts ∙ append_assoc g.before g.behind (l ∷ []);
  worked =
      let W : List HeldLine → Counted → Type 0 = λ hs c. HasWorkedOff how form σ g.before docs (record { ahead = []; held = hs; counts = c; greatest = 0 }) so_far in
      subst (λ c. W s_new.ahead c) (sym counts) (subst (λ hs. W hs s.counts) (sym ahead) g.worked);
  lines =
      let all : length given ≡ length g.before + length g.behind = ap length g.parts ∙ length-append g.before g.behind in
      lines ∙ ap₂ (λ x n. x ++ before_held (n + 1) (held_as how l) []) g.lines all ∙ sym (held_push how (length g.before) g.behind l);
  round = round;
  greatest = omega (arith, greatest, length-append given (l ∷ []));
}
