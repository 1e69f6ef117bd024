-- The figures of some lines, with one more line.
use Rattle.eb_fields.specs.Dialect.{plain}
use Rattle.std.proofs.Common.{◌≡◌, ℕ, suc, ◌+◌, ◌-◌, ◌*◌, ◌<◌, ◌≤◌, ◌^◌, List, [], ◌∷◌, ◌++◌, length, take, drop, Option, Some, None, inl, inr}
use Rattle.std.proofs.Common.{map, filter, refl, sym, ap, subst, ◌∙◌, arith, append_assoc, append-nil, length-append}
use Rattle.std.specs.Prelude.{sum, true, false, if◌then◌else◌}
use Rattle.std.proofs.lemmas.List.{take-append-drop, length-map, length-take, length-reverse}
use Rattle.std.proofs.lemmas.List.Sums.{length-filter, sum_by-append, count_by-le-length}
use Rattle.eb_base.specs.Document.{Doc}
use Rattle.eb_base.specs.Query.{Tree}
use Rattle.eb_base.specs.Match.{answer, matches, is_match}
use Rattle.eb_gen.specs.Made.{made}
use Rattle.eb_io.specs.Lines.{Line, lines_of}
use Rattle.eb_io.specs.Sink.{grown}
use Rattle.eb_run.specs.declared.bench.Bench.{Bench}
use Rattle.eb_query.specs.declared.ask.Ask.TheVariants.{Newest, Counts}
use Rattle.eb_lines.specs.declared.status.Status.{Status}
use Rattle.eb_lines.specs.declared.status.Status.TheVariants as status
use Rattle.eb_lines.specs.Reading.{Reading, blank, document, query, refused, watch}
use Rattle.eb_lines.specs.Reads.{Reads}
use Rattle.eb_lines.specs.Progress.{documents_in, accepted, queries, refusals, is_query, is_refused, one_if}
use Rattle.run_store.specs.Rules.{is_bad, document_outcome, come_behind}
use Rattle.run_store.proofs.ByKind.{reads_plain, all_plain}
use Rattle.run_store.proofs.Coming.{read_none, read_push, read_long}
use Rattle.run_index.specs.IndexRules.{admit}
use Rattle.run_index.specs.Indexed.{Holds, WithPlaced}
use Rattle.run_index.specs.declared.indexed.Indexed.{Indexed}
use Rattle.eb_lines.specs.declared.refusal.Refusal.TheVariants.{Full}
use Rattle.eb_run.specs.Bench.{usual, bench_rules, answer_in, answers_from, all_answers, bench_line, figures, Closes, PrintsFigures, WroteBench, MeansBench, HasCounted, Takes}
use Rattle.eb_lines.specs.Outcomes.{IsWorkedOff}
use Rattle.eb_lines.proofs.OneReading.{some_read}
use Rattle.eb_lines.proofs.Advancing.{accepted_few, accepted-push, queries-push, refusals-push}

-- ---- the answers of the lines

answers-push : (docs : List Doc) (rs : List Reading) (r : Reading) → answers_from docs (rs ++ r ∷ []) ≡ answers_from docs rs ++ answer_in (docs ++ accepted rs) r
unfolding answers_from accepted
answers-push docs [] r = append-nil (answer_in docs r) ∙ ap (λ ds. answer_in ds r) (sym (append-nil docs))
answers-push docs (s ∷ rs) r =
    ap (λ xs. answer_in docs s ++ xs) (answers-push (docs ++ documents_in s) rs r
    ∙ ap (λ ds. answers_from (docs ++ documents_in s) rs ++ answer_in ds r) (append_assoc docs (documents_in s) (accepted rs)))
    ∙ sym (append_assoc (answer_in docs s) (answers_from (docs ++ documents_in s) rs) (answer_in (docs ++ (documents_in s ++ accepted rs)) r))

all_answers-push : (rs : List Reading) (r : Reading) → all_answers (rs ++ r ∷ []) ≡ all_answers rs ++ answer_in (accepted rs) r
all_answers-push rs r = answers-push [] rs r

all_answers-nil : all_answers [] ≡ []
unfolding answers_from
all_answers-nil = refl

-- ---- how many they are

answer_short : (k : ℕ) (q : Tree) (docs : List Doc) → length (answer q k docs) ≤ length docs
unfolding answer
answer_short k q docs =
    let all = matches q docs in
    let mapped : length (map (λ (d : Doc). d.id) (take k all)) ≡ length (take k all) = length-map (take k all) (λ (d : Doc). d.id) in
    let short = length-take k all in
    let reversed = length-reverse (filter (λ (d : Doc). is_match q d) docs) in
    let counted = length-filter (λ (d : Doc). is_match q d) docs in
    let few = count_by-le-length (λ (d : Doc). is_match q d) docs in
    omega (arith, mapped, short, reversed, counted, few)

answer_few : (docs : List Doc) (r : Reading) → length (answer_in docs r) ≤ length docs
answer_few docs blank = omega arith
answer_few docs (document d) = omega arith
answer_few docs (query (Newest k) q) = answer_short k q docs
answer_few docs (query (Counts x w n) q) = omega arith
answer_few docs (refused x) = omega arith
answer_few docs (watch n q) = omega arith

sum-append : (xs ys : List ℕ) → sum (xs ++ ys) ≡ sum xs + sum ys
sum-append xs ys = sum_by-append (λ x. x) xs ys

module _ (b : Bench) (lines : List Line) (h : HasCounted b lines) (few : length lines < 2 ^ 17) where
  long : length h.readings ≡ length lines
  long = read_long bench_rules is_bad lines h.readings h.read

  -- the documents so far are no more than the lines, nor are the queries or the refused lines
  documents_few : length (accepted h.readings) ≤ length lines
  documents_few = let n = accepted_few h.readings in omega (arith, n, long)

  pub queries_few : b.queries < 2 ^ 17
  unfolding queries
  queries_few = let n = count_by-le-length is_query h.readings in omega (arith, n, long, few, h.queries)

  pub refused_few : b.refused < 2 ^ 17
  unfolding refusals
  refused_few = let n = count_by-le-length is_refused h.readings in omega (arith, n, long, few, h.refused)

  -- an answer has few ids
  pub answer_small : (k : ℕ) (q : Tree) → length (answer q k (accepted h.readings)) ≤ 2 ^ 17
  answer_small k q = let n = answer_short k q (accepted h.readings) in omega (arith, n, documents_few, few)

  -- what a further line of this kind comes to
  module _ (l : Line) (raw : Reading) (reads : Reads plain l raw) where
    abbrev next : Reading
    next = admit usual (accepted h.readings) raw

    pub counted_push : (c : Bench) (own : List ℕ) → Holds c.indexed usual (accepted h.readings ++ documents_in next) → c.queries ≡ b.queries + one_if (is_query next)
        → c.refused ≡ b.refused + one_if (is_refused next) → own ≡ answer_in (accepted h.readings) next
        → c.ids ≡ b.ids + length own → c.sum ≡ b.sum + sum own → sum own ≤ 2 ^ 64 * length own → HasCounted c (lines ++ l ∷ [])
    counted_push c own holds asked failed same ids sums small =
        let all = h.readings ++ next ∷ [] in
        let short : length own ≤ 2 ^ 17 = (let n = answer_few (accepted h.readings) next in omega (arith, ap length same, n, documents_few, few)) in
        let more : all_answers all ≡ all_answers h.readings ++ own = all_answers-push h.readings next ∙ ap (λ xs. all_answers h.readings ++ xs) (sym same) in
        record {
          readings = all;
          read = read_push bench_rules is_bad lines h.readings l raw h.read (reads_plain plain l raw reads);
          holds = subst (Holds c.indexed usual) (sym (accepted-push h.readings next)) holds;
          queries = asked ∙ ap (λ n. n + one_if (is_query next)) h.queries ∙ sym (queries-push h.readings next);
          refused = failed ∙ ap (λ n. n + one_if (is_refused next)) h.refused ∙ sym (refusals-push h.readings next);
          ids = ids ∙ ap (λ n. n + length own) h.ids ∙ sym (ap length more ∙ length-append (all_answers h.readings) own);
          sum = sums ∙ ap (λ n. n + sum own) h.sum ∙ sym (ap sum more ∙ sum-append (all_answers h.readings) own);
          few_ids = omega (arith, ids, h.few_ids, short, length-append lines (l ∷ []));
          small_sum = omega (arith, ids, sums, h.small_sum, small);
        }

-- a line that adds nothing and asks nothing
pub takes_quiet : (b c : Bench) (r : Reading) → ((docs : List Doc) → admit usual docs r ≡ r) → documents_in r ≡ [] → is_query r ≡ false → ((docs : List Doc) → answer_in docs r ≡ [])
    → c.indexed ≡ b.indexed → c.queries ≡ b.queries → c.refused ≡ b.refused + one_if (is_refused r) → c.ids ≡ b.ids → c.sum ≡ b.sum → Takes b c r
takes_quiet b c r same none quiet nothing indexed asked failed ids sums = λ lines l reads h few.
    let docs = accepted h.readings in
    let is = same docs in
    let holds : Holds c.indexed usual (docs ++ documents_in (admit usual docs r)) =
    subst (λ (i : Indexed). Holds i usual (docs ++ documents_in (admit usual docs r))) (sym indexed)
    (subst (Holds b.indexed usual) (sym (ap (λ x. docs ++ documents_in x) is ∙ ap (λ ds. docs ++ ds) none ∙ append-nil docs)) h.holds) in
    let none_asked : b.queries ≡ b.queries + 0 = omega arith in
    counted_push b lines h few l r reads c [] holds (asked ∙ none_asked ∙ sym (ap (λ x. b.queries + one_if (is_query x)) is ∙ ap (λ t. b.queries + one_if t) quiet))
    (failed ∙ sym (ap (λ x. b.refused + one_if (is_refused x)) is)) (sym (ap (answer_in docs) is ∙ nothing docs)) (ids ∙ omega arith) (sums ∙ omega arith) (omega arith)

pub takes_query : (b c : Bench) (k : ℕ) (q : Tree) (own : List ℕ) → c.indexed ≡ b.indexed
    → ((docs : List Doc) → Holds b.indexed usual docs → own ≡ answer q k docs) → c.queries ≡ b.queries + 1 → c.refused ≡ b.refused
    → c.ids ≡ b.ids + length own → c.sum ≡ b.sum + sum own → sum own ≤ 2 ^ 64 * length own → Takes b c (query (Newest k) q)
takes_query b c k q own indexed found asked failed ids sums small = λ lines l reads h few.
    let docs = accepted h.readings in
    let holds : Holds c.indexed usual (docs ++ []) = subst (λ (i : Indexed). Holds i usual (docs ++ [])) (sym indexed) (subst (Holds b.indexed usual) (sym (append-nil docs)) h.holds) in
    counted_push b lines h few l (query (Newest k) q) reads c own holds asked (failed ∙ omega arith) (found docs h.holds) ids sums small

-- a document that is placed; one that has no room
module _ (b c : Bench) (d : Doc) (asked : c.queries ≡ b.queries) (ids : c.ids ≡ b.ids) (sums : c.sum ≡ b.sum) where
  pub takes_placed : ((docs : List Doc) → Holds b.indexed usual docs → WithPlaced c.indexed usual docs d true) → c.refused ≡ b.refused → Takes b c (document d)
  takes_placed place failed = λ lines l reads h few.
      let docs = accepted h.readings in
      let placed = place docs h.holds in
      let is : admit usual docs (document d) ≡ document d = ap (λ t. document_outcome d (if t then None else Some Full)) placed.0 in
      let none_asked : b.queries ≡ b.queries + 0 = omega arith in
      let none_failed : b.refused ≡ b.refused + 0 = omega arith in
      counted_push b lines h few l (document d) reads c [] (subst (λ x. Holds c.indexed usual (docs ++ documents_in x)) (sym is) placed.1)
      (asked ∙ none_asked ∙ sym (ap (λ x. b.queries + one_if (is_query x)) is)) (failed ∙ none_failed ∙ sym (ap (λ x. b.refused + one_if (is_refused x)) is))
      (sym (ap (answer_in docs) is)) (ids ∙ omega arith) (sums ∙ omega arith) (omega arith)

  pub takes_full : ((docs : List Doc) → Holds b.indexed usual docs → WithPlaced c.indexed usual docs d false) → c.refused ≡ b.refused + 1 → Takes b c (document d)
  takes_full place failed = λ lines l reads h few.
      let docs = accepted h.readings in
      let placed = place docs h.holds in
      let is : admit usual docs (document d) ≡ refused Full = ap (λ t. document_outcome d (if t then None else Some Full)) placed.0 in
      let none_asked : b.queries ≡ b.queries + 0 = omega arith in
      counted_push b lines h few l (document d) reads c []
      (subst (λ x. Holds c.indexed usual (docs ++ documents_in x)) (sym is) (subst (Holds c.indexed usual) (sym (append-nil docs)) placed.1))
      (asked ∙ none_asked ∙ sym (ap (λ x. b.queries + one_if (is_query x)) is)) (failed ∙ sym (ap (λ x. b.refused + one_if (is_refused x)) is))
      (sym (ap (answer_in docs) is)) (ids ∙ omega arith) (sums ∙ omega arith) (omega arith)

pub counted_none : (b : Bench) → b.ids ≡ 0 → b.sum ≡ 0 → b.queries ≡ 0 → b.refused ≡ 0 → Holds b.indexed usual [] → HasCounted b []
unfolding accepted queries refusals
counted_none b ids sums asked failed holds = record {
  readings = [];
  read = read_none bench_rules is_bad;
  holds = holds;
  queries = asked;
  refused = failed;
  ids = ids ∙ ap length (sym all_answers-nil);
  sum = sums ∙ ap sum (sym all_answers-nil);
  few_ids = omega (arith, ids);
  small_sum = omega (arith, ids, sums);
}

-- ---- the line of figures

pub figures_are : (rs : List Reading) (ending : Status) (d q i x r : ℕ) (printed_old printed_new : Option (List ℕ)) → d ≡ length (accepted rs) → q ≡ queries rs
    → r ≡ refusals rs → i ≡ length (all_answers rs) → x ≡ sum (all_answers rs) → Closes ending r (bench_line d q i x) printed_old printed_new
    → Closes ending (refusals rs) (figures rs) printed_old printed_new
figures_are rs ending d q i x r old new de qe re ie xe closes =
    let D : ℕ → Type 0 = λ n. Closes ending r (bench_line n q i x) old new in
    let Q : ℕ → Type 0 = λ n. Closes ending r (bench_line (length (accepted rs)) n i x) old new in
    let I : ℕ → Type 0 = λ n. Closes ending r (bench_line (length (accepted rs)) (queries rs) n x) old new in
    let X : ℕ → Type 0 = λ n. Closes ending r (bench_line (length (accepted rs)) (queries rs) (length (all_answers rs)) n) old new in
    let R : ℕ → Type 0 = λ n. Closes ending n (figures rs) old new in
    subst R re (subst X xe (subst I ie (subst Q qe (subst D de closes))))

pub figures_told : (ending : Status) (start count : ℕ) (printed_old printed_new : Option (List ℕ)) (before : List ℕ) → PrintsFigures ending (lines_of (made start count)) printed_old printed_new
    → printed_old ≡ Some before → (printed : List ℕ) × (printed_new ≡ Some (before ++ printed)) × WroteBench ending start count printed
figures_told status.Done start count old new before f sink =
    (figures f.0, f.2.1 ∙ ap (λ p. grown p (figures f.0)) sink, record { readings = f.0; read = f.1; refusals = sym f.2.0; bytes = refl })
figures_told status.Refused start count old new before f sink =
    let some : suc (refusals f.0 - 1) ≡ refusals f.0 = omega (arith, f.2.0) in
    (figures f.0, f.2.1 ∙ ap (λ p. grown p (figures f.0)) sink, (refusals f.0 - 1, record { readings = f.0; read = f.1; refusals = some; bytes = refl }))
figures_told status.WriteFault start count old new before f sink =
    let n = f.2.0 in (
      take n (figures f.0),
      f.2.1 ∙ ap (λ p. grown p (take n (figures f.0))) sink,
      (drop n (figures f.0), refusals f.0, record { readings = f.0; read = f.1; refusals = refl; bytes = take-append-drop n (figures f.0) }),
    )
figures_told status.NoMemory start count old new before f sink =
    ([], f.2 ∙ sink ∙ ap Some (sym (append-nil before)), (figures f.0, refusals f.0, record { readings = f.0; read = f.1; refusals = refl; bytes = refl }))
figures_told status.Usage start count old new before f sink = absurd f.2
figures_told status.ReadFault start count old new before f sink = absurd f.2
figures_told status.InputTooLong start count old new before f sink = absurd f.2
figures_told status.BadImage start count old new before f sink = absurd f.2

pub figures_mean : (ending : Status) (start count : ℕ) (printed_old printed_new : Option (List ℕ))
    → PrintsFigures ending (lines_of (made start count)) printed_old printed_new → MeansBench ending start count
figures_mean status.Done start count old new f = (f.0, f.1, f.2.0)
figures_mean status.Refused start count old new f = (f.0, f.1, f.2.0)
figures_mean status.WriteFault start count old new f = tt
figures_mean status.NoMemory start count old new f = tt
figures_mean status.Usage start count old new f = absurd f.2
figures_mean status.ReadFault start count old new f = absurd f.2
figures_mean status.InputTooLong start count old new f = absurd f.2
figures_mean status.BadImage start count old new f = absurd f.2

pub figures_end : (ending : Status) (lines : List Line) (printed_old printed_new : Option (List ℕ)) (rose : Type 0) → PrintsFigures ending lines printed_old printed_new
    → (ending ≡ status.WriteFault → rose) → (rose → ⊥) → IsWorkedOff ending
figures_end status.Done lines old new rose f fault sound = inl refl
figures_end status.Refused lines old new rose f fault sound = inr (inl refl)
figures_end status.NoMemory lines old new rose f fault sound = inr (inr refl)
figures_end status.WriteFault lines old new rose f fault sound = absurd (sound (fault refl))
figures_end status.Usage lines old new rose f fault sound = absurd f.2
figures_end status.ReadFault lines old new rose f fault sound = absurd f.2
figures_end status.InputTooLong lines old new rose f fault sound = absurd f.2
figures_end status.BadImage lines old new rose f fault sound = absurd f.2

-- memory ran out before the end
pub figures_none : (lines : List Line) (printed : Option (List ℕ)) → PrintsFigures status.NoMemory lines printed printed
figures_none lines printed = let raw = some_read plain lines in (come_behind bench_rules [] tt raw.0, (raw.0, all_plain plain lines raw.0 raw.1, refl), refl)

-- five parts of a text, one after the other
pub five_parts : (a b c d e : List ℕ) → a ++ (b ++ (c ++ (d ++ e))) ≡ a ++ b ++ c ++ d ++ e
five_parts a b c d e = sym (append_assoc a b (c ++ (d ++ e))) ∙ sym (append_assoc (a ++ b) c (d ++ e)) ∙ sym (append_assoc (a ++ b ++ c) d e)
