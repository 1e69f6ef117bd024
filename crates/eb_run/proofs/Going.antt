-- From one round to the next.
use Rattle.eb_fields.specs.Dialect.{Dialect}
use Rattle.std.proofs.Common.{◌≡◌, ℕ, zero, suc, ◌+◌, ◌<◌, ◌≤◌, Bool, true, false, List, [], ◌∷◌, ◌++◌, length, take, map, count_by}
use Rattle.std.proofs.Common.{refl, sym, ap, ap₂, subst, ◌∙◌, arith, append_assoc, append-nil, length-append, le_trans, zero-add}
use Rattle.std.specs.List.{AllZip}
use Rattle.std.proofs.lemmas.List.{take-append-le}
use Rattle.std.proofs.lemmas.List.Sums.{sum_by-append}
use Rattle.eb_base.specs.Document.{Doc}
use Rattle.eb_base.specs.Setting.{Setting}
use Rattle.eb_place.specs.Room.{has_room}
use Rattle.eb_io.specs.Lines.{Line}
use Rattle.eb_lines.specs.declared.form.Form.{Form}
use Rattle.eb_lines.specs.Reading.{Reading, blank, document, query, refused, watch}
use Rattle.eb_lines.specs.Progress.{documents_in, is_query, is_refused, one_if, accepted, queries, refusals}
use Rattle.run_store.specs.Rules.{Rules, is_bad, come_behind, AreRead, ReadsWith}
use Rattle.run_store.specs.Text.{body_from}
use Rattle.run_store.proofs.ByKind.{all_plain}
use Rattle.run_store.proofs.Coming.{read_long}
use Rattle.run_index.specs.IndexRules.{admit, output_of}
use Rattle.eb_lines.specs.Text.{asked_line}
use Rattle.eb_rounds.specs.Inputs.{ReadsLine, admitted_in, added}
use Rattle.eb_rounds.specs.Shown.{shown_entry, shown_text, Counted, asks, fails, WorkedOff}
use Rattle.run_store.specs.Sees.{is_document_line, is_query_line, IsAsked, SeesBetween}
use Rattle.run_store.specs.Rows.{added_count, NoQueryLine, QueriesFirst, joined_numbers, SeesWithin}
use Rattle.eb_rounds.specs.Standing.{Standing}
use Rattle.run_store.proofs.Seeing.{accepted-append, sees_on, front_is, back_is, next_within}
use Rattle.eb_rounds.proofs.Rounded.{zip_append}
use Rattle.run_store.proofs.Texts.{body_append}
use Rattle.eb_lines.specs.Reads.{Reads}
use Rattle.eb_run.specs.Holding.{entries_from}
use Rattle.eb_run.specs.Waiting.{HasWorkedOff, HasSettled, counts_of, rules_in}
use Rattle.eb_run.proofs.Waitings.{read_back, admitted_entries, added_entries, seen_in, round_text, round_sees}

-- ---- a refused document is still a document line

admit_document : (σ : Setting) (docs : List Doc) (r : Reading) → is_document_line (admit σ docs r) ≡ is_document_line r
admit_document σ docs blank = refl
admit_document σ docs (document d) = step (has_room σ docs d) refl where
  step : (b : Bool) → has_room σ docs d ≡ b → is_document_line (admit σ docs (document d)) ≡ true
  step true is = rw is refl
  step false is = rw is refl
admit_document σ docs (query k q) = refl
admit_document σ docs (refused x) = refl
admit_document σ docs (watch n q) = refl

admit_query : (σ : Setting) (docs : List Doc) (r : Reading) → is_query_line (admit σ docs r) ≡ is_query_line r
admit_query σ docs blank = refl
admit_query σ docs (document d) = step (has_room σ docs d) refl where
  step : (b : Bool) → has_room σ docs d ≡ b → is_query_line (admit σ docs (document d)) ≡ false
  step true is = rw is refl
  step false is = rw is refl
admit_query σ docs (query k q) = refl
admit_query σ docs (refused x) = refl
admit_query σ docs (watch n q) = refl

module _ (how : Dialect) (form : Form) (σ : Setting) where
  abbrev rules : Rules (Unit {0})
  rules = rules_in how form σ

  no_query_on : (docs : List Doc) (rs : List Reading) → NoQueryLine rs → NoQueryLine (come_behind rules docs tt rs)
  unfolding come_behind
  no_query_on docs [] h = tt
  no_query_on docs (r ∷ rs) h = (admit_query σ docs r ∙ h.0, no_query_on (docs ++ documents_in (admit σ docs r)) rs h.1)

  first_on : (docs : List Doc) (rs : List Reading) → QueriesFirst rs → QueriesFirst (come_behind rules docs tt rs)
  unfolding come_behind
  first_on docs [] h = tt
  first_on docs (r ∷ rs) h =
      let more = docs ++ documents_in (admit σ docs r) in
      (λ e. no_query_on more rs (h.0 (sym (admit_document σ docs r) ∙ e)), first_on more rs h.1)

  -- ---- lists

  come-append : (docs : List Doc) (rs ss : List Reading)
      → come_behind rules docs tt (rs ++ ss) ≡ come_behind rules docs tt rs ++ come_behind rules (docs ++ accepted (come_behind rules docs tt rs)) tt ss
  unfolding come_behind accepted
  come-append docs [] ss = ap (λ ds. come_behind rules ds tt ss) (sym (append-nil docs))
  come-append docs (r ∷ rs) ss =
      let own = admit σ docs r in
      let more = docs ++ documents_in own in
      ap (λ xs. own ∷ xs) (come-append more rs ss
      ∙ ap (λ ds. come_behind rules more tt rs ++ come_behind rules ds tt ss) (append_assoc docs (documents_in own) (accepted (come_behind rules more tt rs))))

output_asked : (form : Form) (number n m : ℕ) (docs more : List Doc) (r : Reading) → (is_query r ≡ true → (m ≡ n) × (n ≤ length docs))
    → output_of form number n docs r ≡ output_of form number m (docs ++ more) r
output_asked form number n m docs more blank h = refl
output_asked form number n m docs more (document d) h = refl
output_asked form number n m docs more (query k q) h =
    let a = h refl in
    ap (λ ds. asked_line form number n k q ds) (sym (take-append-le n docs more a.1)) ∙ ap (λ x. asked_line form number x k q (take x (docs ++ more))) (sym a.0)
output_asked form number n m docs more (refused x) h = refl
output_asked form number n m docs more (watch w q) h = refl

-- lines print the same among more documents, where their queries see the same
body_asked : (how : Dialect) (form : Form) (σ : Setting) (n m : ℕ → ℕ) (docs more : List Doc) (j : ℕ) (rs : List Reading)
    → ((i : ℕ) → IsAsked rs i → (m (j + i) ≡ n (j + i)) × (n (j + i) ≤ length docs)) → body_from (rules_in how form σ) n docs j tt rs ≡ body_from (rules_in how form σ) m (docs ++ more) j tt rs
unfolding body_from
body_asked how form σ n m docs more j [] h = refl
body_asked how form σ n m docs more j (r ∷ rs) h =
    let none : j + 0 ≡ j = omega arith in
    ap₂ (λ a b. a ++ b)
    (output_asked form (j + 1) (n j) (m j) docs more r (λ a. subst (λ k. (m k ≡ n k) × (n k ≤ length docs)) none (h 0 a)))
    (body_asked how form σ n m docs more (j + 1) rs
    (λ i a. let plus : j + suc i ≡ j + 1 + i = omega arith in subst (λ k. (m k ≡ n k) × (n k ≤ length docs)) plus (h (suc i) a)))

-- ---- counts

asked_entries : (k : ℕ) (rs : List Reading) → count_by asks (entries_from k rs) ≡ queries rs
unfolding queries
asked_entries k [] = refl
asked_entries k (blank ∷ rs) = asked_entries (k + 1) rs ∙ sym (sum_by-append (λ x. one_if (is_query x)) (blank ∷ []) rs ∙ zero-add (count_by is_query rs))
asked_entries k (document d ∷ rs) = sum_by-append (λ x. one_if (asks x)) (record { number = k + 1; reading = document d } ∷ []) (entries_from (k + 1) rs)
    ∙ ap (λ n. 0 + n) (asked_entries (k + 1) rs) ∙ sym (sum_by-append (λ x. one_if (is_query x)) (document d ∷ []) rs)
asked_entries k (query j q ∷ rs) = sum_by-append (λ x. one_if (asks x)) (record { number = k + 1; reading = query j q } ∷ []) (entries_from (k + 1) rs)
    ∙ ap (λ n. 1 + n) (asked_entries (k + 1) rs) ∙ sym (sum_by-append (λ x. one_if (is_query x)) (query j q ∷ []) rs)
asked_entries k (refused y ∷ rs) = sum_by-append (λ x. one_if (asks x)) (record { number = k + 1; reading = refused y } ∷ []) (entries_from (k + 1) rs)
    ∙ ap (λ n. 0 + n) (asked_entries (k + 1) rs) ∙ sym (sum_by-append (λ x. one_if (is_query x)) (refused y ∷ []) rs)
asked_entries k (watch w y ∷ rs) = sum_by-append (λ x. one_if (asks x)) (record { number = k + 1; reading = watch w y } ∷ []) (entries_from (k + 1) rs)
    ∙ ap (λ n. 0 + n) (asked_entries (k + 1) rs) ∙ sym (sum_by-append (λ x. one_if (is_query x)) (watch w y ∷ []) rs)

failed_entries : (k : ℕ) (rs : List Reading) → count_by fails (entries_from k rs) ≡ refusals rs
unfolding refusals
failed_entries k [] = refl
failed_entries k (blank ∷ rs) = failed_entries (k + 1) rs ∙ sym (sum_by-append (λ x. one_if (is_refused x)) (blank ∷ []) rs ∙ zero-add (count_by is_refused rs))
failed_entries k (document d ∷ rs) = sum_by-append (λ x. one_if (fails x)) (record { number = k + 1; reading = document d } ∷ []) (entries_from (k + 1) rs)
    ∙ ap (λ n. 0 + n) (failed_entries (k + 1) rs) ∙ sym (sum_by-append (λ x. one_if (is_refused x)) (document d ∷ []) rs)
failed_entries k (query j q ∷ rs) = sum_by-append (λ x. one_if (fails x)) (record { number = k + 1; reading = query j q } ∷ []) (entries_from (k + 1) rs)
    ∙ ap (λ n. 0 + n) (failed_entries (k + 1) rs) ∙ sym (sum_by-append (λ x. one_if (is_refused x)) (query j q ∷ []) rs)
failed_entries k (refused y ∷ rs) = sum_by-append (λ x. one_if (fails x)) (record { number = k + 1; reading = refused y } ∷ []) (entries_from (k + 1) rs)
    ∙ ap (λ n. 1 + n) (failed_entries (k + 1) rs) ∙ sym (sum_by-append (λ x. one_if (is_refused x)) (refused y ∷ []) rs)
failed_entries k (watch w y ∷ rs) = sum_by-append (λ x. one_if (fails x)) (record { number = k + 1; reading = watch w y } ∷ []) (entries_from (k + 1) rs)
    ∙ ap (λ n. 0 + n) (failed_entries (k + 1) rs) ∙ sym (sum_by-append (λ x. one_if (is_refused x)) (watch w y ∷ []) rs)

counts_append : (rs ss : List Reading) (c d : Counted) → c ≡ counts_of rs → d.documents ≡ c.documents + length (accepted ss)
    → d.queries ≡ c.queries + queries ss → d.refused ≡ c.refused + refusals ss → d ≡ counts_of (rs ++ ss)
unfolding queries refusals
counts_append rs ss c d e f g h =
    let docs : d.documents ≡ length (accepted (rs ++ ss)) = f ∙ ap (λ (x : Counted). x.documents + length (accepted ss)) e
    ∙ sym (ap length (accepted-append rs ss) ∙ length-append (accepted rs) (accepted ss)) in
    let qs : d.queries ≡ queries (rs ++ ss) = g ∙ ap (λ (x : Counted). x.queries + queries ss) e ∙ sym (sum_by-append (λ x. one_if (is_query x)) rs ss) in
    let fs : d.refused ≡ refusals (rs ++ ss) = h ∙ ap (λ (x : Counted). x.refused + refusals ss) e ∙ sym (sum_by-append (λ x. one_if (is_refused x)) rs ss) in
    ap₂ (λ x y. record { documents = x; queries = y; refused = d.refused }) docs qs ∙ ap (λ z. record { documents = length (accepted (rs ++ ss)); queries = queries (rs ++ ss); refused = z }) fs

-- ---- the round

module _ (how : Dialect) (form : Form) (σ : Setting) (given : List Line) (docs docs_new : List Doc) (held : Standing) (counts_new : Counted) (so_far printed : List ℕ)
    (a : HasWorkedOff how form σ given docs held so_far) (w : WorkedOff how form σ held.held docs docs_new held.counts counts_new printed) where
  abbrev pub k : ℕ
  k = length a.done

  abbrev pub back : (rs : List Reading) × AllZip (Reads how) a.waiting rs × (w.raw ≡ entries_from k rs)
  back = read_back how k a.waiting w.raw (subst (λ hs. AllZip (ReadsLine how) hs w.raw) a.lines w.read)

  -- what the waiting lines come to
  abbrev pub ss : List Reading
  ss = come_behind (rules_in how form σ) docs tt back.0

  pub lines_are : map shown_entry w.shown ≡ entries_from k ss
  lines_are = w.lines ∙ ap (admitted_in σ docs) back.2 ∙ admitted_entries how form σ k docs back.0

  adds_are : added (map shown_entry w.shown) ≡ accepted ss
  adds_are = ap added lines_are ∙ added_entries k ss

  docs_are : docs_new ≡ accepted a.readings ++ accepted ss
  docs_are = w.docs ∙ ap₂ (λ x y. x ++ y) a.adds adds_are

  long_is : length a.readings ≡ k
  long_is = read_long (rules_in how form σ) is_bad a.done a.readings a.read

  read_on : AreRead is_bad (rules_in how form σ) given (a.readings ++ ss)
  read_on = subst (λ ls. AreRead is_bad (rules_in how form σ) ls (a.readings ++ ss)) (sym a.parts) (
    a.read.0 ++ back.0,
    zip_append (ReadsWith is_bad how) a.done a.read.0 a.waiting back.0 a.read.1 (all_plain how a.waiting back.0 back.1),
    ap₂ (λ x ds. x ++ come_behind (rules_in how form σ) ds tt back.0) a.read.2 (a.adds ∙ ap accepted a.read.2) ∙ sym (come-append how form σ [] a.read.0 back.0),
  )

  pub first_is : QueriesFirst ss
  first_is = first_on how form σ docs back.0 (a.round back.0 back.1)

  pub within : SeesWithin ss (seen_in ss w.shown) (added_count a.readings) (added_count a.readings + added_count ss)
  within =
      let low : length docs ≡ added_count a.readings = ap length a.adds in
      let high : length docs_new ≡ added_count a.readings + added_count ss = ap length docs_are ∙ length-append (accepted a.readings) (accepted ss) in
      subst (λ h. SeesWithin ss (seen_in ss w.shown) (added_count a.readings) h) high (subst (λ l. SeesWithin ss (seen_in ss w.shown) l (length docs_new)) low
      (round_sees k (length docs) (length docs_new) ss w.shown lines_are w.numbers))

  -- with any numbers that go on so
  pub goes_on : (n : ℕ → ℕ) → SeesBetween (a.readings ++ ss) n → ((j : ℕ) → IsAsked a.readings j → (n j ≡ a.numbers j) × (a.numbers j ≤ added_count a.readings))
      → ((i : ℕ) → IsAsked ss i → n (length a.readings + i) ≡ seen_in ss w.shown i)
      → HasSettled how form σ given docs_new counts_new (so_far ++ printed)
  goes_on n sees front rest = record {
    readings = a.readings ++ ss;
    numbers = n;
    read = read_on;
    sees = sees;
    adds = docs_are ∙ sym (accepted-append a.readings ss);
    counted = counts_append a.readings ss held.counts counts_new a.counts (w.documents ∙ ap (λ x. held.counts.documents + length x) adds_are)
        (w.queries ∙ ap (λ x. held.counts.queries + x) (ap (count_by asks) lines_are ∙ asked_entries k ss))
        (w.refused ∙ ap (λ x. held.counts.refused + x) (ap (count_by fails) lines_are ∙ failed_entries k ss));
    printed =
        let zero_front : (i : ℕ) → IsAsked a.readings i → (n (0 + i) ≡ a.numbers (0 + i)) × (a.numbers (0 + i) ≤ length (accepted a.readings)) =
        λ i q. let same : i ≡ 0 + i = omega arith in subst (λ j. (n j ≡ a.numbers j) × (a.numbers j ≤ length (accepted a.readings))) same (front i q) in
        let own = body_asked how form σ a.numbers n (accepted a.readings) (accepted ss) 0 a.readings zero_front in
        let last : (i : ℕ) → IsAsked ss i → n (k + i) ≡ seen_in ss w.shown i = λ i q. ap (λ x. n (x + i)) (sym long_is) ∙ rest i q in
        let more = w.text ∙ ap (λ ds. shown_text form ds w.shown) docs_are ∙ round_text how form σ n (accepted a.readings ++ accepted ss) k ss w.shown lines_are last in
        let whole = body_append (rules_in how form σ) n (accepted a.readings ++ accepted ss) 0 k tt a.readings ss (omega (arith, long_is)) in
        ap₂ (λ x y. x ++ y) (a.printed ∙ own) more ∙ sym whole ∙ ap (λ ds. body_from (rules_in how form σ) n ds 0 tt (a.readings ++ ss)) (sym (accepted-append a.readings ss));
  }

asked_low : (rs : List Reading) (j : ℕ) → IsAsked rs j → j < length rs
asked_low [] j e = absurd (cc e)
asked_low (r ∷ rs) zero e = omega arith
asked_low (r ∷ rs) (suc j) e = omega (arith, asked_low rs j e)

-- the round is processed
pub overlapped : (how : Dialect) (form : Form) (σ : Setting) (given : List Line) (docs docs_new : List Doc) (held : Standing) (counts_new : Counted) (so_far printed : List ℕ)
    → HasWorkedOff how form σ given docs held so_far → WorkedOff how form σ held.held docs docs_new held.counts counts_new printed
    → HasSettled how form σ given docs_new counts_new (so_far ++ printed)
overlapped how form σ given docs docs_new held counts_new so_far printed a w =
    let rs = a.readings in
    let more = ss how form σ given docs docs_new held counts_new so_far printed a w in
    let m = seen_in more w.shown in
    let h = within how form σ given docs docs_new held counts_new so_far printed a w in
    let q = first_is how form σ given docs docs_new held counts_new so_far printed a w in
    goes_on how form σ given docs docs_new held counts_new so_far printed a w (joined_numbers (length rs) a.numbers m) (sees_on rs more a.numbers m a.sees h q)
    (λ j e. (front_is rs more a.numbers m a.sees h q j (asked_low rs j e), le_trans (a.sees.most j e) (next_within rs j)))
    (λ i e. back_is rs more a.numbers m a.sees h q i)
