-- A program over lines, from one line to the next, and how it ends.
use Rattle.std.proofs.Common.{◌≡◌, ℕ, zero, suc, ◌+◌, ◌<◌, ◌≤◌, ◌⊎◌, inl, inr, true, false, List, [], ◌∷◌, ◌++◌, length, take, drop}
use Rattle.std.proofs.Common.{Option, refl, sym, ap, ap₂, subst, ◌∙◌, arith, append_assoc, append-nil, length-append}
use Rattle.std.specs.Prelude.{◌==◌, Result, Ok, Err, OnOk, OnErr}
use Rattle.std.proofs.lemmas.List.{take-append-drop, length-map}
use Rattle.std.proofs.lemmas.Bool.{cases_Bool}
use Rattle.eb_io.specs.Lines.{Line, longest_input, lines_of, whole_lines, pieces, begun_by, line_from}
use Rattle.eb_io.specs.Held.{Held, HasGiven, HasNoLine, HasAllLines}
use Rattle.eb_io.specs.Source.{after, IsEmpty}
use Rattle.eb_io.specs.Sink.{grown}
use Rattle.eb_io.proofs.Bytes.{grown-grown, grown-nil, after-nil, after-after}
use Rattle.eb_io.proofs.Pieces.{lines_of-append}
use Rattle.eb_lines.specs.declared.status.Status.{Status}
use Rattle.eb_lines.specs.declared.status.Status.TheVariants.{Done, Refused, Usage, ReadFault, WriteFault, NoMemory, InputTooLong, BadImage}
use Rattle.eb_lines.specs.declared.passing.Upcoming.TheVariants as next
use Rattle.eb_lines.specs.Programs.{IsRunning, WorksOn, WorksOnGiven, PrintsFront, Finishes}
use Rattle.eb_lines.specs.Passing.{IsAt, IsAtEnd, IsStopped, MayStop, AreFirstLines, IsFrontOfWhole, Ends, Comes, upcoming_of}

-- ---- how many lines there are

begun_by-length : (b : ℕ) (ps : List (List ℕ)) (n : ℕ) → length ps ≤ n → length (begun_by b ps) ≤ n + 1
begun_by-length b [] n le = omega arith
begun_by-length b (p ∷ ps) n le = omega (arith, le)

pieces-length : (bytes : List ℕ) → length (pieces bytes) ≤ length bytes
pieces-length [] = omega arith
pieces-length (b ∷ bs) = elim (cases_Bool (b == 10)) [
  | inl yes_is ↦ let cut : pieces (b ∷ bs) ≡ [] ∷ pieces bs = rw yes_is refl in omega (arith, ap length cut, pieces-length bs)
  | inr no_is ↦ let cut : pieces (b ∷ bs) ≡ begun_by b (pieces bs) = rw no_is refl in omega (arith, ap length cut, begun_by-length b (pieces bs) (length bs) (pieces-length bs))
]

lines_few : (taken : List ℕ) (given : List Line) (h : Held) → HasGiven taken given h → length given ≤ h.taken
lines_few taken given h g =
    let few = pieces-length g.front in
    let cut : length (lines_of g.front) ≡ length (pieces g.front) = length-map (pieces g.front) line_from in
    let bytes = ap length g.bytes in
    omega (arith, few, cut, ap length g.lines, bytes, length-append g.front (g.begun ++ h.rest), g.count)

-- ---- the lines given are first lines

pub first_given : (taken : List ℕ) (given : List Line) (h : Held) (left : Option (List ℕ)) → HasGiven taken given h → (h.is_ended ≡ true → IsEmpty left) → AreFirstLines given taken left
first_given taken given h left g ended = λ rest e. elim g.whole [
  | inl whole ↦
      let open_rest = g.begun ++ h.rest in (
        lines_of (open_rest ++ rest),
        ap (λ t. lines_of (t ++ rest)) g.bytes ∙ ap lines_of (append_assoc g.front open_rest rest)
            ∙ lines_of-append g.front (open_rest ++ rest) whole ∙ ap (λ ls. ls ++ lines_of (open_rest ++ rest)) g.lines,
      )
  | inr done ↦
      let none : rest ≡ [] = let E : Option (List ℕ) → Type 0 = IsEmpty in subst E e (ended done.ended) in
      let all : taken ≡ g.front = g.bytes ∙ ap₂ (λ a b. g.front ++ (a ++ b)) done.none done.rest ∙ append-nil g.front in
      ([], ap₂ (λ t r. lines_of (t ++ r)) all none ∙ ap lines_of (append-nil g.front) ∙ g.lines ∙ sym (append-nil given))
]

first_front : (given done more : List Line) (taken : List ℕ) (left : Option (List ℕ)) → given ≡ done ++ more → AreFirstLines given taken left → AreFirstLines done taken left
first_front given done more taken left e f = λ rest is. let m = f rest is in (more ++ m.0, m.1 ∙ ap (λ ls. ls ++ m.0) e ∙ append_assoc done more m.0)

grown_by : (p0 p1 p2 : Option (List ℕ)) (written front : List ℕ) → p1 ≡ grown p0 written → p2 ≡ grown p1 front → p2 ≡ grown p0 (written ++ front)
grown_by p0 p1 p2 written front e f = f ∙ ap (λ p. grown p front) e ∙ grown-grown p0 written front

-- ---- a program stops anywhere

-- what some lines print comes first in their whole text
abbrev pub ComesFirst : (prints ends_with : List Line → List ℕ → Type 0) → Type 0
ComesFirst prints ends_with = (lines : List Line) (printed : List ℕ) → prints lines printed → (more : List ℕ) × ends_with lines (printed ++ more)

module _ (prints ends_with : List Line → List ℕ → Type 0) (refuses accepts : List Line → Type 0) (first : ComesFirst prints ends_with) (l0 l1 p0 p1 : Option (List ℕ)) where
  part : (text front rest : List ℕ) (m : MayStop prints l0 l1 p0 p1 text) → text ≡ front ++ rest → IsFrontOfWhole ends_with m.taken l1 (m.written ++ front)
  part text front rest m split =
      let w = first m.done (m.so_far ++ m.rest) m.body in
      let behind = m.rest ++ w.0 in
      let so_far_is = m.parts ∙ ap (λ t. m.written ++ t) split ∙ sym (append_assoc m.written front rest) in
      record {
        lines = m.done;
        whole = (m.so_far ++ m.rest) ++ w.0;
        more = rest ++ behind;
        first = m.first;
        text = w.1;
        front = append_assoc m.so_far m.rest w.0 ∙ ap (λ b. b ++ behind) so_far_is ∙ append_assoc (m.written ++ front) rest behind;
      }

  pub ends_unwritten : (p2 : Option (List ℕ)) (text : List ℕ) (n : ℕ) → MayStop prints l0 l1 p0 p1 text → p2 ≡ grown p1 (take n text) → Ends prints ends_with refuses accepts WriteFault l0 l1 p0 p2
  ends_unwritten p2 text n m e = record {
    taken = m.taken;
    printed = m.written ++ take n text;
    left = m.left;
    put = grown_by p0 p1 p2 m.written (take n text) m.wrote e;
    ends = part text (take n text) (drop n text) m (sym (take-append-drop n text));
  }

  pub ends_no_memory : (p2 : Option (List ℕ)) (text : List ℕ) → MayStop prints l0 l1 p0 p1 text → p2 ≡ grown p1 text → Ends prints ends_with refuses accepts NoMemory l0 l1 p0 p2
  ends_no_memory p2 text m e = record {
    taken = m.taken;
    printed = m.written ++ text;
    left = m.left;
    put = grown_by p0 p1 p2 m.written text m.wrote e;
    ends = part text text [] m (sym (append-nil text));
  }

-- no memory for the first line
pub ends_at_once : (prints ends_with : List Line → List ℕ → Type 0) (refuses accepts : List Line
    → Type 0) (first : ComesFirst prints ends_with) (left printed : Option (List ℕ)) (text : List ℕ) → prints [] text
    → Ends prints ends_with refuses accepts NoMemory left left printed printed
ends_at_once prints ends_with refuses accepts first left printed text none =
    let m : MayStop prints left left printed printed [] = record {
      taken = [];
      done = [];
      so_far = [];
      rest = text;
      written = [];
      left = sym (after-nil left);
      first = λ r e. (lines_of r, refl);
      body = none;
      wrote = sym (grown-nil printed);
      parts = refl;
    } in
    record {
      taken = [];
      printed = [];
      left = sym (after-nil left);
      put = sym (grown-nil printed);
      ends = part prints ends_with refuses accepts first left left printed printed [] [] [] m refl;
    }

-- ---- a program between two lines

module _ {P A : Type 0} (has_run : P → A → List Line → List ℕ → Type 0) (prints : A → List Line → List ℕ → Type 0)
    (printed_first : (p : P) (a : A) (given : List Line) (so_far : List ℕ) → has_run p a given so_far → PrintsFront prints a given so_far) (a : A) where
  -- what is printed before the first line
  pub prints_none : (p : P) (text : List ℕ) → has_run p a [] text → (rest : List ℕ) × prints a [] (text ++ rest)
  prints_none p text h =
      let f = printed_first p a [] text h in
      (f.2, subst (λ (ls : List Line). prints a ls (text ++ f.2)) (none f.0 f.1 f.3) f.4)
    where
      none : (done more : List Line) → [] ≡ done ++ more → done ≡ []
      none [] more e = refl
      none (x ∷ xs) more e = let no : ⊥ = cc in absurd no

  pub at_start : (left printed : Option (List ℕ)) (h : Held) (run : P) (text : List ℕ) → HasGiven [] [] h → h.limit ≡ longest_input → h.taken ≡ 0 → h.is_ended ≡ false
      → has_run run a [] text → IsAt has_run a left left printed printed h run text
  at_start left printed h run text g limit none open_end works = record {
    taken = [];
    given = [];
    so_far = text;
    written = [];
    left = sym (after-nil left);
    lines = g;
    limit = limit;
    within = omega (arith, none);
    ended = λ e. let no : ⊥ = cc in absurd no;
    works = works;
    wrote = sym (grown-nil printed);
    parts = refl;
  }

  module _ (l0 l1 p0 p1 : Option (List ℕ)) (h : Held) (run : P) (text : List ℕ) (at : IsAt has_run a l0 l1 p0 p1 h run text) where
    pub at_few : length at.given ≤ longest_input
    at_few = omega (arith, lines_few at.taken at.given h at.lines, at.within, at.limit)

    pub may_stop : MayStop (prints a) l0 l1 p0 p1 text
    may_stop =
        let f = printed_first run a at.given at.so_far at.works in
        record {
          taken = at.taken;
          done = f.0;
          so_far = at.so_far;
          rest = f.2;
          written = at.written;
          left = at.left;
          first = first_front at.given f.0 f.1 at.taken l1 f.3 (first_given at.taken at.given h l1 at.lines at.ended);
          body = f.4;
          wrote = at.wrote;
          parts = at.parts;
        }

    pub at_on : (new : P) (t : List ℕ) → WorksOn has_run run new text t → IsAt has_run a l0 l1 p0 p1 h new t
    at_on new t on =
        let w = on a at.given at.so_far at.works in
        record {
          taken = at.taken;
          given = at.given;
          so_far = at.so_far ++ w.0;
          written = at.written;
          left = at.left;
          lines = at.lines;
          limit = at.limit;
          within = at.within;
          ended = at.ended;
          works = w.1;
          wrote = at.wrote;
          parts = ap (λ b. b ++ w.0) at.parts ∙ append_assoc at.written text w.0 ∙ ap (λ t. at.written ++ t) (sym w.2);
        }

    -- a prefix of what is buffered is written
    pub at_written : (p2 : Option (List ℕ)) (front t : List ℕ) → p2 ≡ grown p1 front → text ≡ front ++ t → IsAt has_run a l0 l1 p0 p2 h run t
    at_written p2 front t e split = record {
      taken = at.taken;
      given = at.given;
      so_far = at.so_far;
      written = at.written ++ front;
      left = at.left;
      lines = at.lines;
      limit = at.limit;
      within = at.within;
      ended = at.ended;
      works = at.works;
      wrote = grown_by p0 p1 p2 at.written front at.wrote e;
      parts = at.parts ∙ ap (λ t. at.written ++ t) split ∙ sym (append_assoc at.written front t);
    }

  pub stop_on : (l0 l1 p0 p1 : Option (List ℕ)) (h : Held) (run new : P) (text t : List ℕ) → IsAt has_run a l0 l1 p0 p1 h run text → WorksOn has_run run new text t → MayStop (prints a) l0 l1 p0 p1 t
  stop_on l0 l1 p0 p1 h run new text t at on = may_stop l0 l1 p0 p1 h new t (at_on l0 l1 p0 p1 h run text at new t on)

  module _ (l0 l1 l2 p0 p1 : Option (List ℕ)) (h g : Held) (run : P) (text : List ℕ) (at : IsAt has_run a l0 l1 p0 p1 h run text) (seen : List ℕ) (left : l1 ≡ after seen l2)
      (ended : g.is_ended ≡ true → (h.is_ended ≡ true) ⊎ IsEmpty l2) (same : h.is_ended ≡ true → l2 ≡ l1) (limit : g.limit ≡ h.limit) (within : g.taken ≤ g.limit) where
    left_all : l0 ≡ after (at.taken ++ seen) l2
    left_all = at.left ∙ ap (after at.taken) left ∙ after-after at.taken seen l2

    is_empty : g.is_ended ≡ true → IsEmpty l2
    is_empty e = elim (ended e) [ inl before ↦ let E : Option (List ℕ) → Type 0 = IsEmpty in subst E (sym (same before)) (at.ended before) | inr now ↦ now ]

    -- a line is given, and taken
    pub at_line : (new : P) (t : List ℕ) (l : Line) → HasGiven (at.taken ++ seen) (at.given ++ l ∷ []) g → WorksOnGiven has_run run new text t l → IsAt has_run a l0 l2 p0 p1 g new t
    at_line new t l lines goes =
        let w = goes a at.given at.so_far at.works in
        record {
          taken = at.taken ++ seen;
          given = at.given ++ l ∷ [];
          so_far = at.so_far ++ w.0;
          written = at.written;
          left = left_all;
          lines = lines;
          limit = limit ∙ at.limit;
          within = within;
          ended = is_empty;
          works = w.1;
          wrote = at.wrote;
          parts = ap (λ b. b ++ w.0) at.parts ∙ append_assoc at.written text w.0 ∙ ap (λ t. at.written ++ t) (sym w.2);
        }

    -- a line is given, and there is no memory for it
    pub stop_line : (new : P) (t : List ℕ) (l : Line) → HasGiven (at.taken ++ seen) (at.given ++ l ∷ []) g → WorksOn has_run run new text t → MayStop (prints a) l0 l2 p0 p1 t
    stop_line new t l lines on =
        let w = on a at.given at.so_far at.works in
        let f = printed_first new a at.given (at.so_far ++ w.0) w.1 in
        let all : at.given ++ l ∷ [] ≡ f.0 ++ (f.1 ++ l ∷ []) = ap (λ ls. ls ++ l ∷ []) f.3 ∙ append_assoc f.0 f.1 (l ∷ []) in
        record {
          taken = at.taken ++ seen;
          done = f.0;
          so_far = at.so_far ++ w.0;
          rest = f.2;
          written = at.written;
          left = left_all;
          first = first_front (at.given ++ l ∷ []) f.0 (f.1 ++ l ∷ []) (at.taken ++ seen) l2 all (first_given (at.taken ++ seen) (at.given ++ l ∷ []) g l2 lines is_empty);
          body = f.4;
          wrote = at.wrote;
          parts = ap (λ b. b ++ w.0) at.parts ∙ append_assoc at.written text w.0 ∙ ap (λ t. at.written ++ t) (sym w.2);
        }

    -- no line is given
    abbrev at_more : HasGiven (at.taken ++ seen) at.given g → IsAt has_run a l0 l2 p0 p1 g run text
    at_more lines = record {
      taken = at.taken ++ seen;
      given = at.given;
      so_far = at.so_far;
      written = at.written;
      left = left_all;
      lines = lines;
      limit = limit ∙ at.limit;
      within = within;
      ended = is_empty;
      works = at.works;
      wrote = at.wrote;
      parts = at.parts;
    }

    pub at_end : HasAllLines (at.taken ++ seen) at.given g → length (at.taken ++ seen) < g.limit → IsAtEnd has_run a l0 l2 p0 p1 g run text
    at_end lines short = (at_more lines.has, lines, short)

    pub at_fault : HasNoLine (at.taken ++ seen) at.given g → length (at.taken ++ seen) < g.limit → IsStopped has_run ReadFault a l0 l2 p0 p1 g run text
    at_fault lines short = (at_more lines.has, lines, short)

    pub at_limit : HasNoLine (at.taken ++ seen) at.given g → length (at.taken ++ seen) ≡ g.limit → IsStopped has_run InputTooLong a l0 l2 p0 p1 g run text
    at_limit lines long = (at_more lines.has, lines, long)

  -- a line was taken or not
  pub took : {T E : Type 0} (r : Result T E) (l0 l2 p0 p1 : Option (List ℕ)) (g : Held) (new : P) (t : List ℕ) (goes stays : Type 0) → OnOk r goes → OnErr r stays
      → (goes → IsAt has_run a l0 l2 p0 p1 g new t) → (stays → MayStop (prints a) l0 l2 p0 p1 t) → Comes has_run prints (upcoming_of r) a l0 l2 p0 p1 g new t
  took (Ok x) l0 l2 p0 p1 g new t goes stays ok err f h = f ok
  took (Err e) l0 l2 p0 p1 g new t goes stays ok err f h = h err

  pub at_of : (status : Status) (l0 l1 p0 p1 : Option (List ℕ)) (h : Held) (run : P) (text : List ℕ) → IsStopped has_run status a l0 l1 p0 p1 h run text → IsAt has_run a l0 l1 p0 p1 h run text
  at_of ReadFault l0 l1 p0 p1 h run text s = s.0
  at_of InputTooLong l0 l1 p0 p1 h run text s = s.0
  at_of Done l0 l1 p0 p1 h run text s = absurd s
  at_of Refused l0 l1 p0 p1 h run text s = absurd s
  at_of Usage l0 l1 p0 p1 h run text s = absurd s
  at_of BadImage l0 l1 p0 p1 h run text s = absurd s
  at_of WriteFault l0 l1 p0 p1 h run text s = absurd s
  at_of NoMemory l0 l1 p0 p1 h run text s = absurd s

-- ---- numbers of lines

module _ {P A : Type 0} (has_run : P → A → List Line → List ℕ → Type 0) (number : P → ℕ)
    (counts : (p : P) (a : A) (given : List Line) (so_far : List ℕ) → has_run p a given so_far → number p ≡ length given) where
  pub few_lines : (a : A) (l0 l1 p0 p1 : Option (List ℕ)) (h : Held) (run : P) (text : List ℕ) → IsAt has_run a l0 l1 p0 p1 h run text → number run ≤ longest_input
  few_lines a l0 l1 p0 p1 h run text at = omega (arith, counts run a at.given at.so_far at.works, lines_few at.taken at.given h at.lines, at.within, at.limit)

  -- one more line counts one more
  pub goes_number : (old new : P) (t0 t1 : List ℕ) (l : Line) → IsRunning has_run old → WorksOnGiven has_run old new t0 t1 l → number new ≡ number old + 1
  goes_number old new t0 t1 l r f =
      let w = f r.0 r.1 r.2 r.3 in
      let was = counts old r.0 r.1 r.2 r.3 in
      let is = counts new r.0 (r.1 ++ l ∷ []) (r.2 ++ w.0) w.1 in
      omega (arith, was, is, length-append r.1 (l ∷ []))

  pub works_number : (old new : P) (t0 t1 : List ℕ) → IsRunning has_run old → WorksOn has_run old new t0 t1 → number new ≡ number old
  works_number old new t0 t1 r f =
      let w = f r.0 r.1 r.2 r.3 in
      counts new r.0 r.1 (r.2 ++ w.0) w.1 ∙ sym (counts old r.0 r.1 r.2 r.3)

  pub took_number : {T E : Type 0} (r : Result T E) (old new : P) (goes : Type 0) → OnOk r goes → (goes → number new ≡ number old + 1) → upcoming_of r ≡ next.Line → number new ≡ number old + 1
  took_number (Ok x) old new goes ok f e = f ok
  took_number (Err x) old new goes ok f e = absurd (cc e)

-- what worked on is running
pub running_on : {P A : Type 0} (has_run : P → A → List Line → List ℕ → Type 0) (old new : P) (t0 t1 : List ℕ) → IsRunning has_run old → WorksOn has_run old new t0 t1 → IsRunning has_run new
running_on has_run old new t0 t1 r f = let w = f r.0 r.1 r.2 r.3 in (r.0, r.1, r.2 ++ w.0, w.1)

-- ---- the last lines are processed

module _ {P A : Type 0} (has_run : P → A → List Line → List ℕ → Type 0) (prints ends_with : A → List Line → List ℕ → Type 0) (refuses accepts : A → List Line → Type 0) (a : A)
    (l0 l1 p0 p1 p2 : Option (List ℕ)) (h : Held) (run new : P) (text t : List ℕ) (on : WorksOn has_run run new text t)
    (all : (a : A) (given : List Line) (so_far : List ℕ) → has_run new a given so_far → prints a given so_far) where
  module _ (at : IsAt has_run a l0 l1 p0 p1 h run text) where
    abbrev goes : (printed : List ℕ) × has_run new a at.given (at.so_far ++ printed) × (t ≡ text ++ printed)
    goes = on a at.given at.so_far at.works

    all_is : at.so_far ++ goes.0 ≡ at.written ++ t
    all_is = ap (λ b. b ++ goes.0) at.parts ∙ append_assoc at.written text goes.0 ∙ ap (λ t. at.written ++ t) (sym goes.2)

    body_all : prints a at.given (at.written ++ t)
    body_all = subst (prints a at.given) all_is (all a at.given (at.so_far ++ goes.0) goes.1)

    body_whole : HasNoLine at.taken at.given h → prints a (whole_lines at.taken) (at.written ++ t)
    body_whole lines = subst (λ (ls : List Line). prints a ls (at.written ++ t)) (sym lines.whole) body_all

  pub ends_stopped : (status : Status) → IsStopped has_run status a l0 l1 p0 p1 h run text → p2 ≡ grown p1 t → Ends (prints a) (ends_with a) (refuses a) (accepts a) status l0 l1 p0 p2
  ends_stopped ReadFault s e = record {
    taken = s.0.taken;
    printed = s.0.written ++ t;
    left = s.0.left;
    put = grown_by p0 p1 p2 s.0.written t s.0.wrote e;
    ends = (body_whole s.0 s.1, (let own = s.0.limit in omega (arith, s.2, own)));
  }
  ends_stopped InputTooLong s e = record {
    taken = s.0.taken;
    printed = s.0.written ++ t;
    left = s.0.left;
    put = grown_by p0 p1 p2 s.0.written t s.0.wrote e;
    ends = (body_whole s.0 s.1, s.2 ∙ s.0.limit);
  }
  ends_stopped Done s e = absurd s
  ends_stopped Refused s e = absurd s
  ends_stopped Usage s e = absurd s
  ends_stopped BadImage s e = absurd s
  ends_stopped WriteFault s e = absurd s
  ends_stopped NoMemory s e = absurd s

  -- ---- the end of the input

  module _ (s : IsAtEnd has_run a l0 l1 p0 p1 h run text) (refused : ℕ) (whole : List ℕ)
      (finishes : (given : List Line) (so_far : List ℕ) → has_run new a given so_far → Finishes has_run ends_with refuses accepts new t whole refused a given so_far) where
    abbrev last : Finishes has_run ends_with refuses accepts new t whole refused a s.0.given (s.0.so_far ++ (goes s.0).0)
    last = finishes s.0.given (s.0.so_far ++ (goes s.0).0) (goes s.0).1

    text_is : (s.0.so_far ++ (goes s.0).0) ++ last.printed ≡ s.0.written ++ whole
    text_is = ap (λ b. b ++ last.printed) (all_is s.0) ∙ append_assoc s.0.written t last.printed ∙ ap (λ b. s.0.written ++ b) (sym last.text)

    text_of : ends_with a s.0.given (s.0.written ++ whole)
    text_of = subst (ends_with a s.0.given) text_is last.whole

    text_all : ends_with a (lines_of s.0.taken) (s.0.written ++ whole)
    text_all = subst (λ (ls : List Line). ends_with a ls (s.0.written ++ whole)) (sym s.1.all) text_of

    short : length s.0.taken < longest_input
    short = let own = s.0.limit in omega (arith, s.2, own)

    empty : IsEmpty l1
    empty = s.0.ended s.1.ended

    pub ends_closed : (status : Status) → (0 < refused → status ≡ Refused) → (refused ≡ 0 → status ≡ Done)
        → p2 ≡ grown p1 whole → Ends (prints a) (ends_with a) (refuses a) (accepts a) status l0 l1 p0 p2
    ends_closed status some none e = step refused refl
      where
        step : (n : ℕ) → refused ≡ n → Ends (prints a) (ends_with a) (refuses a) (accepts a) status l0 l1 p0 p2
        step zero is = subst (λ (x : Status). Ends (prints a) (ends_with a) (refuses a) (accepts a) x l0 l1 p0 p2) (sym (none is)) (record {
          taken = s.0.taken;
          printed = s.0.written ++ whole;
          left = s.0.left;
          put = grown_by p0 p1 p2 s.0.written whole s.0.wrote e;
          ends = (empty, text_all, subst (accepts a) (sym s.1.all) (last.none is), short);
        })
        step (suc n) is =
            let low : 0 < refused = omega (arith, is) in
            subst (λ (x : Status). Ends (prints a) (ends_with a) (refuses a) (accepts a) x l0 l1 p0 p2) (sym (some low)) (record {
              taken = s.0.taken;
              printed = s.0.written ++ whole;
              left = s.0.left;
              put = grown_by p0 p1 p2 s.0.written whole s.0.wrote e;
              ends = (empty, text_all, subst (refuses a) (sym s.1.all) (last.some n (omega (arith, is))), short);
            })

    pub ends_unclosed : (n : ℕ) → p2 ≡ grown p1 (take n whole) → Ends (prints a) (ends_with a) (refuses a) (accepts a) WriteFault l0 l1 p0 p2
    ends_unclosed n e = record {
      taken = s.0.taken;
      printed = s.0.written ++ take n whole;
      left = s.0.left;
      put = grown_by p0 p1 p2 s.0.written (take n whole) s.0.wrote e;
      ends = record {
        lines = s.0.given;
        whole = s.0.written ++ whole;
        more = drop n whole;
        first = first_given s.0.taken s.0.given h l1 s.0.lines s.0.ended;
        text = text_of;
        front = ap (λ w. s.0.written ++ w) (sym (take-append-drop n whole)) ∙ sym (append_assoc s.0.written (take n whole) (drop n whole));
      };
    }
