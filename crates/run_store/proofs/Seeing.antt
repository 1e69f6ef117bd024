-- What the queries of some lines see, where one more round is processed.
use Rattle.std.proofs.Common.{◌≡◌, ℕ, zero, suc, ◌+◌, ◌-◌, ◌<◌, ◌≤◌, ◌⊎◌, inl, inr, true, false, List, [], ◌∷◌, ◌++◌, length, take, drop}
use Rattle.std.proofs.Common.{flat_map, slice_get, refl, sym, ap, subst, ◌∙◌, arith, length-append, le_trans, nat_lt}
use Rattle.std.proofs.lemmas.List.{take-append-le, take-append-drop, drop-append-le}
use Rattle.std.proofs.lemmas.Bool.{cases_Bool}
use Rattle.std.proofs.lemmas.Bool.Decides.{nat_tests}
use Rattle.std.proofs.Math.Seq.{take-append-add, drop-append-add}
use Rattle.eb_lines.specs.Reading.{Reading, blank, document, query, refused, watch}
use Rattle.eb_lines.specs.Progress.{documents_in, is_query, accepted, told}
pub use Rattle.eb_lines.proofs.Advancing.{accepted-append}
use Rattle.run_store.specs.Sees.{is_document_line, is_query_line, until_query, until_next, next, is_asked, IsAsked, SeesBetween}
use Rattle.run_store.specs.Rows.{added_count, NoQueryLine, QueriesFirst, joined_numbers, SeesWithin}

count-append : (rs ss : List Reading) → added_count (rs ++ ss) ≡ added_count rs + added_count ss
count-append rs ss = ap length (accepted-append rs ss) ∙ length-append (accepted rs) (accepted ss)

pub count-cons : (r : Reading) (rs : List Reading) → added_count (r ∷ rs) ≡ length (documents_in r) + added_count rs
unfolding accepted
count-cons r rs = length-append (documents_in r) (flat_map documents_in rs)

pub told-count : (rs : List Reading) (j : ℕ) → told rs j ≡ added_count (take j rs)
unfolding told
told-count rs j = refl

pub told-rest : (rs : List Reading) (j : ℕ) → told rs j + added_count (drop j rs) ≡ added_count rs
told-rest rs j = ap (λ n. n + added_count (drop j rs)) (told-count rs j) ∙ sym (count-append (take j rs) (drop j rs)) ∙ ap added_count (take-append-drop j rs)

no_document : (r : Reading) → is_document_line r ≡ false → length (documents_in r) ≡ 0
no_document blank e = refl
no_document (document d) e = absurd (cc e)
no_document (query k q) e = refl
no_document (refused x) e = refl
no_document (watch n q) e = refl

no_answer : (r : Reading) → is_query r ≡ true → is_query_line r ≡ true
no_answer blank e = absurd (cc e)
no_answer (document d) e = absurd (cc e)
no_answer (query k q) e = refl
no_answer (refused x) e = absurd (cc e)
no_answer (watch n q) e = absurd (cc e)

-- ---- until the next query line

until_cut : (r : Reading) (rs : List Reading) → is_query_line r ≡ true → until_query (r ∷ rs) ≡ 0
unfolding until_query
until_cut r rs e = rw e refl

until_on : (r : Reading) (rs : List Reading) → is_query_line r ≡ false → until_query (r ∷ rs) ≡ length (documents_in r) + until_query rs
unfolding until_query
until_on r rs e = rw e refl

next_cut : (r : Reading) (rs : List Reading) → is_document_line r ≡ true → until_next (r ∷ rs) ≡ length (documents_in r) + until_query rs
unfolding until_next
next_cut r rs e = rw e refl

next_on : (r : Reading) (rs : List Reading) → is_document_line r ≡ false → until_next (r ∷ rs) ≡ until_next rs
unfolding until_next
next_on r rs e = rw e refl

until_few : (rs : List Reading) → until_query rs ≤ added_count rs
unfolding until_query
until_few [] = omega arith
until_few (r ∷ rs) = elim (cases_Bool (is_query_line r)) [
  | inl yes_is ↦ omega (arith, until_cut r rs yes_is)
  | inr no_is ↦ omega (arith, until_on r rs no_is, until_few rs, count-cons r rs)
]

next_few : (rs : List Reading) → until_next rs ≤ added_count rs
unfolding until_next
next_few [] = omega arith
next_few (r ∷ rs) = elim (cases_Bool (is_document_line r)) [
  | inl yes_is ↦ omega (arith, next_cut r rs yes_is, until_few rs, count-cons r rs)
  | inr no_is ↦ omega (arith, next_on r rs no_is, next_few rs, count-cons r rs)
]

until_more : (rs ms : List Reading) → until_query rs ≤ until_query (rs ++ ms)
unfolding until_query
until_more [] ms = omega arith
until_more (r ∷ rs) ms = elim (cases_Bool (is_query_line r)) [
  | inl yes_is ↦ omega (arith, until_cut r rs yes_is)
  | inr no_is ↦ omega (arith, until_on r rs no_is, until_on r (rs ++ ms) no_is, until_more rs ms)
]

next_more : (rs ms : List Reading) → until_next rs ≤ until_next (rs ++ ms)
unfolding until_next
next_more [] ms = omega arith
next_more (r ∷ rs) ms = elim (cases_Bool (is_document_line r)) [
  | inl yes_is ↦ omega (arith, next_cut r rs yes_is, next_cut r (rs ++ ms) yes_is, until_more rs ms)
  | inr no_is ↦ omega (arith, next_on r rs no_is, next_on r (rs ++ ms) no_is, next_more rs ms)
]

-- where no query line follows a document line, all documents come before the next one
until_all : (rs : List Reading) → NoQueryLine rs → added_count rs ≤ until_query rs
unfolding accepted
until_all [] h = omega arith
until_all (r ∷ rs) h = omega (arith, until_on r rs h.0, until_all rs h.1, count-cons r rs)

next_all : (rs : List Reading) → QueriesFirst rs → added_count rs ≤ until_next rs
unfolding accepted
next_all [] h = omega arith
next_all (r ∷ rs) h = elim (cases_Bool (is_document_line r)) [
  | inl yes_is ↦ omega (arith, next_cut r rs yes_is, until_all rs (h.0 yes_is), count-cons r rs)
  | inr no_is ↦ omega (arith, next_on r rs no_is, next_all rs h.1, count-cons r rs, no_document r no_is)
]

first_drop : (rs : List Reading) (j : ℕ) → QueriesFirst rs → QueriesFirst (drop j rs)
first_drop rs zero h = h
first_drop [] (suc j) h = h
first_drop (r ∷ rs) (suc j) h = first_drop rs j h.1

-- ---- no document comes before a query of a round

asked_no : (rs : List Reading) (j : ℕ) → NoQueryLine rs → IsAsked rs j → ⊥
asked_no [] j h e = cc e
asked_no (r ∷ rs) zero h e = cc (h.0, no_answer r e)
asked_no (r ∷ rs) (suc j) h e = asked_no rs j h.1 e

pub told_none : (rs : List Reading) (j : ℕ) → QueriesFirst rs → IsAsked rs j → added_count (take j rs) ≡ 0
unfolding accepted
told_none [] j h e = absurd (cc e)
told_none (r ∷ rs) zero h e = refl
told_none (r ∷ rs) (suc j) h e = elim (cases_Bool (is_document_line r)) [
  | inl yes_is ↦ absurd (asked_no rs j (h.0 yes_is) e)
  | inr no_is ↦ omega (arith, count-cons r (take j rs), told_none rs j h.1 e, no_document r no_is)
]

-- ---- one more round

pub get_front : (rs ss : List Reading) (j : ℕ) → j < length rs → slice_get (rs ++ ss) j ≡ slice_get rs j
get_front [] ss j low = absurd (omega (arith, low))
get_front (r ∷ rs) ss zero low = refl
get_front (r ∷ rs) ss (suc j) low = get_front rs ss j (omega (arith, low))

get_back : (rs ss : List Reading) (i : ℕ) → slice_get (rs ++ ss) (length rs + i) ≡ slice_get ss i
get_back [] ss i = ap (slice_get ss) (omega arith)
get_back (r ∷ rs) ss i =
    let step : suc (length rs) + i ≡ suc (length rs + i) = omega arith in
    ap (slice_get (r ∷ (rs ++ ss))) step ∙ get_back rs ss i

pub next_within : (rs : List Reading) (j : ℕ) → next rs j ≤ added_count rs
next_within rs j = omega (arith, told-rest rs (j + 1), next_few (drop (j + 1) rs))

module _ (rs ss : List Reading) where
  pub told_front : (j : ℕ) → j ≤ length rs → told (rs ++ ss) j ≡ told rs j
  told_front j le = told-count (rs ++ ss) j ∙ ap added_count (take-append-le j rs ss le) ∙ sym (told-count rs j)

  pub told_back : (i : ℕ) → told (rs ++ ss) (length rs + i) ≡ added_count rs + added_count (take i ss)
  told_back i = told-count (rs ++ ss) (length rs + i) ∙ ap added_count (take-append-add rs ss i) ∙ count-append rs (take i ss)

  next_front : (j : ℕ) → j < length rs → next rs j ≤ next (rs ++ ss) j
  next_front j low =
      let rest : drop (j + 1) (rs ++ ss) ≡ drop (j + 1) rs ++ ss = drop-append-le (j + 1) rs ss (omega (arith, low)) in
      omega (arith, told_front (j + 1) (omega (arith, low)), next_more (drop (j + 1) rs) ss, ap until_next rest)

  next_back : (i : ℕ) → QueriesFirst ss → added_count rs + added_count ss ≤ next (rs ++ ss) (length rs + i)
  next_back i h =
      let plus : length rs + i + 1 ≡ length rs + (i + 1) = omega arith in
      let rest : drop (length rs + i + 1) (rs ++ ss) ≡ drop (i + 1) ss = ap (λ n. drop n (rs ++ ss)) plus ∙ drop-append-add rs ss (i + 1) in
      let before : told (rs ++ ss) (length rs + i + 1) ≡ added_count rs + added_count (take (i + 1) ss) = ap (told (rs ++ ss)) plus ∙ told_back (i + 1) in
      let parts : added_count (take (i + 1) ss) + added_count (drop (i + 1) ss) ≡ added_count ss = ap (λ n. n + added_count (drop (i + 1) ss)) (sym (told-count ss (i + 1))) ∙ told-rest ss (i + 1) in
      omega (arith, before, parts, ap until_next rest, next_all (drop (i + 1) ss) (first_drop ss (i + 1) h))

  module _ (n m : ℕ → ℕ) (h : SeesBetween rs n) (w : SeesWithin ss m (added_count rs) (added_count rs + added_count ss)) (q : QueriesFirst ss) where
    pub front_is : (j : ℕ) → j < length rs → joined_numbers (length rs) n m j ≡ n j
    front_is j low = let is : nat_lt j (length rs) ≡ true = grind (arith, nat_tests) in rw is refl

    pub back_is : (i : ℕ) → joined_numbers (length rs) n m (length rs + i) ≡ m i
    back_is i =
        let is : nat_lt (length rs + i) (length rs) ≡ false = grind (arith, nat_tests) in
        let minus : length rs + i - length rs ≡ i = omega arith in
        rw is (ap m minus)

    asked_front : (j : ℕ) → j < length rs → IsAsked (rs ++ ss) j → IsAsked rs j
    asked_front j low e = ap is_asked (sym (get_front rs ss j low)) ∙ e

    asked_back : (i : ℕ) → IsAsked (rs ++ ss) (length rs + i) → IsAsked ss i
    asked_back i e = ap is_asked (sym (get_back rs ss i)) ∙ e

    least_front : (j : ℕ) → j < length rs → IsAsked (rs ++ ss) j → told (rs ++ ss) j ≤ joined_numbers (length rs) n m j
    least_front j low e = omega (arith, front_is j low, told_front j (omega (arith, low)), h.least j (asked_front j low e))

    least_back : (i : ℕ) → IsAsked (rs ++ ss) (length rs + i) → told (rs ++ ss) (length rs + i) ≤ joined_numbers (length rs) n m (length rs + i)
    least_back i e = let a = asked_back i e in omega (arith, back_is i, told_back i, told_none ss i q a, w.least i a)

    most_front : (j : ℕ) → j < length rs → IsAsked (rs ++ ss) j → joined_numbers (length rs) n m j ≤ next (rs ++ ss) j
    most_front j low e = le_trans (omega (arith, front_is j low, h.most j (asked_front j low e))) (next_front j low)

    most_back : (i : ℕ) → IsAsked (rs ++ ss) (length rs + i) → joined_numbers (length rs) n m (length rs + i) ≤ next (rs ++ ss) (length rs + i)
    most_back i e = le_trans (omega (arith, back_is i, w.most i (asked_back i e))) (next_back i q)

    -- a line is one of the lines before or one of the round
    side : (j : ℕ) → (j < length rs) ⊎ ((i : ℕ) × (j ≡ length rs + i))
    side j = elim (cases_Bool (nat_lt j (length rs))) [
      | inl yes_is ↦ inl (grind (arith, nat_tests))
      | inr no_is ↦ (let high : length rs ≤ j = grind (arith, nat_tests) in inr (j - length rs, omega (arith, high)))
    ]

    rises_both : (i j : ℕ) → i ≤ j → IsAsked (rs ++ ss) i → IsAsked (rs ++ ss) j → joined_numbers (length rs) n m i ≤ joined_numbers (length rs) n m j
    rises_both i j le e f = elim (side i) [
      | inl low ↦ elim (side j) [
        | inl small ↦ omega (arith, front_is i low, front_is j small, h.rises i j le (asked_front i low e) (asked_front j small f))
        | inr back ↦
            let a = asked_back back.0 (subst (IsAsked (rs ++ ss)) back.1 f) in
            omega (arith, front_is i low, h.most i (asked_front i low e), next_within rs i, back_is back.0, ap (joined_numbers (length rs) n m) back.1, w.least back.0 a)
      ]
      | inr there ↦ elim (side j) [
        | inl small ↦ absurd (omega (arith, le, there.1, small))
        | inr back ↦
            let a = asked_back there.0 (subst (IsAsked (rs ++ ss)) there.1 e) in
            let b = asked_back back.0 (subst (IsAsked (rs ++ ss)) back.1 f) in
            omega (
              arith,
              ap (joined_numbers (length rs) n m) there.1,
              ap (joined_numbers (length rs) n m) back.1,
              back_is there.0,
              back_is back.0,
              w.rises there.0 back.0 (omega (arith, le, there.1, back.1)) a b,
            )
      ]
    ]

    -- the queries of the lines before and those of the round
    pub sees_on : SeesBetween (rs ++ ss) (joined_numbers (length rs) n m)
    sees_on = record {
      least = λ j e.
          elim (side j) [
            | inl low ↦ least_front j low e
            | inr back ↦ subst (λ k. told (rs ++ ss) k ≤ joined_numbers (length rs) n m k) (sym back.1)
                (least_back back.0 (subst (IsAsked (rs ++ ss)) back.1 e))
          ];
      most = λ j e.
          elim (side j) [
            | inl low ↦ most_front j low e
            | inr back ↦ subst (λ k. joined_numbers (length rs) n m k ≤ next (rs ++ ss) k) (sym back.1)
                (most_back back.0 (subst (IsAsked (rs ++ ss)) back.1 e))
          ];
      rises = rises_both;
    }
