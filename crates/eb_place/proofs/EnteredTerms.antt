-- The terms that are entered in a segment: their numbers, their bytes, and that they stay.
use Rattle.std.proofs.Common.{◌≡◌, ℕ, zero, suc, ◌+◌, ◌*◌, ◌/◌, ◌<◌, ◌≤◌, Bool, cond, List, [], ◌∷◌, ◌++◌, length, take, drop, get_or}
use Rattle.std.proofs.Common.{count_by, All, Contains, refl, ap, sym, ◌∙◌, subst, arith, inl, inr, bytes_eq}
use Rattle.std.proofs.lemmas.Bool.{cases_lt}
use Rattle.std.proofs.lemmas.List.{length_push, length-append, length-take, length-drop, take-append-le, take-append-drop, get_or_append_left, get_or_default}
use Rattle.std.proofs.lemmas.List.Elements.{All-head, All-tail, All-take, All-drop, Contains-get_or, Contains-append_left}
use Rattle.std.proofs.lemmas.List.Sums.{sum_by-append}
use Rattle.std.proofs.Math.Seq.{get_or-append_seam}
use mathlib.Core.List.{IsPrefix}
use Rattle.eb_base.specs.Term.{Term, AreBytes}
use Rattle.eb_base.specs.Document.{Doc, IsDocument}
use Rattle.eb_place.specs.declared.moment.Moment.{Moment}
use Rattle.eb_place.specs.Layout.Region.{cell_region}
use Rattle.eb_place.specs.Postings.{count_of, terms_of, distinct, number_of}
use Rattle.eb_place.specs.Room.{text_words, cut}
use Rattle.eb_place.specs.Placing.{Store, text_of, eights, little_endian}
use Rattle.eb_place.specs.Moments.{with_current, document_stores, IsMoment}
use Rattle.eb_place.specs.Later.{IsNotBefore}
use Rattle.eb_place.specs.Seen.{segment, is_in, stores_in_region, entered, IsEntered}
use Rattle.eb_place.specs.Walk.{IsTerm}
use Rattle.eb_place.proofs.TermCounts.{one_if, by_push, count_of_push, distinct_push, distinct-nil, with_term_cases, same_term, once}
use Rattle.eb_place.proofs.FreshPoolWords.{Each, Each-append}
use Rattle.eb_place.proofs.FreshPoolWords.Each.{none, more}
use Rattle.eb_place.proofs.TermNumbersStay.{number_keeps, number_here, number_absent, distinct_more}
use Rattle.eb_place.proofs.WordsOfHistories.{terms_more}
use Rattle.eb_place.proofs.WordsAtMoment.{placed_all}
use Rattle.eb_place.proofs.ReachedLater.{later_stores, later_segment}
use Rattle.std.proofs.lemmas.Grind.{same_number_lists}
use Rattle.eb_place.proofs.StoringTokens.{Each-front, Each-back}
use Rattle.eb_place.proofs.DictionaryAtMoment.{entered_done_is}
use Rattle.eb_place.proofs.StoresWithinTable.{length-text_of}

-- ---- they stay

take_grows : {X : Type 0} (i j : ℕ) (xs ys : List X) → i ≤ j → IsPrefix (take i xs) (take j (xs ++ ys))
take_grows zero j xs ys h = (take j (xs ++ ys), refl)
take_grows (suc i) zero xs ys h = absurd (omega arith)
take_grows (suc i) (suc j) [] ys h = (take (suc j) ys, refl)
take_grows (suc i) (suc j) (x ∷ xs) ys h = let r = take_grows i j xs ys (omega arith) in (r.0, ap (λ z. x ∷ z) r.1)

counts_grow : (p : Store → Bool) (xs ys : List Store) → IsPrefix xs ys → count_by p xs ≤ count_by p ys
counts_grow p xs ys h = omega (arith, ap (count_by p) (sym h.1), sum_by-append (λ y. cond (p y) 1 0) xs h.0)

-- the terms that are entered are the first of those that are entered later
pub entered_later : (m n : Moment) (s : ℕ) → IsNotBefore n m → IsPrefix (entered m s) (entered n s)
unfolding entered stores_in_region
entered_later m n s l =
    let p = later_segment m n s l in
    let t : terms_of (segment n s) ≡ terms_of (segment m s) ++ terms_of p.0 = ap terms_of (sym p.1) ∙ terms_more (segment m s) p.0 in
    let d = distinct_more (terms_of (segment m s)) (terms_of p.0) in
    let e : distinct (terms_of (segment m s)) ++ d.0 ≡ distinct (terms_of (segment n s)) = sym d.1 ∙ ap distinct (sym t) in
    let c = counts_grow (is_in s cell_region) (document_stores m.setting m.documents) (document_stores n.setting n.documents) (later_stores m n l) in
    subst (λ z. IsPrefix (entered m s) (take (count_by (is_in s cell_region) (document_stores n.setting n.documents)) z)) e
    (take_grows (count_by (is_in s cell_region) (document_stores m.setting m.documents))
    (count_by (is_in s cell_region) (document_stores n.setting n.documents)) (distinct (terms_of (segment m s))) d.0 c)

-- so an entered term keeps its number
pub term_later : (m n : Moment) (s k : ℕ) → IsNotBefore n m → k < length (entered m s) → (k < length (entered n s)) × (get_or (entered n s) k [] ≡ get_or (entered m s) k [])
term_later m n s k l h = let p = entered_later m n s l in
    (omega (arith, ap length (sym p.1), length-append (entered m s) p.0), ap (λ z. get_or z k []) (sym p.1) ∙ get_or_append_left (entered m s) p.0 [] k h)

-- and so does their prefix
pub front_later : (m n : Moment) (s k : ℕ) → IsNotBefore n m → k ≤ length (entered m s) → take k (entered n s) ≡ take k (entered m s)
front_later m n s k l h = let p = entered_later m n s l in ap (take k) (sym p.1) ∙ take-append-le k (entered m s) p.0 h

pub is_entered_later : (m n : Moment) (s : ℕ) (t : Term) → IsNotBefore n m → IsEntered m s t → IsEntered n s t
is_entered_later m n s t l h = let p = entered_later m n s l in subst (λ z. Contains z t) p.1 (Contains-append_left (entered m s) p.0 t h)

-- ---- their numbers

counted_low : (ts : List Term) (k : ℕ) → k < length (distinct ts) → 1 ≤ count_of (get_or (distinct ts) k []) ts
counted_low = by_push (λ ts. (k : ℕ) → k < length (distinct ts) → 1 ≤ count_of (get_or (distinct ts) k []) ts) (λ k h. absurd (omega (arith, ap length distinct-nil))) step
  where
    step : (ts : List Term) (u : Term) → ((k : ℕ) → k < length (distinct ts) → 1 ≤ count_of (get_or (distinct ts) k []) ts)
        → (k : ℕ) → k < length (distinct (ts ++ u ∷ [])) → 1 ≤ count_of (get_or (distinct (ts ++ u ∷ [])) k []) (ts ++ u ∷ [])
    step ts u ih k h =
        let d = distinct_push ts u in
        let old : k < length (distinct ts) → get_or (distinct (ts ++ u ∷ [])) k [] ≡ get_or (distinct ts) k [] → 1 ≤ count_of (get_or (distinct (ts ++ u ∷ [])) k []) (ts ++ u ∷ []) =
        λ l e. omega (arith, ap (λ z. count_of z (ts ++ u ∷ [])) e, count_of_push (get_or (distinct ts) k []) u ts, ih k l) in
        elim (with_term_cases (distinct ts) u) [
          | inl w ↦ let e = d ∙ w.1 in old (omega (arith, ap length e)) (ap (λ z. get_or z k []) e)
          | inr w ↦ let e = d ∙ w.1 in elim (cases_lt k (length (distinct ts))) [
            | inl low ↦ old low (ap (λ z. get_or z k []) e ∙ get_or_append_left (distinct ts) (u ∷ []) [] k low)
            | inr high ↦
                let q : k ≡ length (distinct ts) = omega (arith, ap length e, length_push (distinct ts) u) in
                let g : get_or (distinct (ts ++ u ∷ [])) k [] ≡ u = ap (λ z. get_or z k []) e ∙ ap (λ z. get_or (distinct ts ++ u ∷ []) z []) q ∙ get_or-append_seam (distinct ts) u [] [] in
                let one : one_if (bytes_eq u u) ≡ 1 = ap one_if (same_term u) in
                omega (arith, ap (λ z. count_of z (ts ++ u ∷ [])) g, count_of_push u u ts, one)
          ]
        ]

-- the number of a distinct term is its place
pub number_at : (ts : List Term) (k : ℕ) → k < length (distinct ts) → number_of (get_or (distinct ts) k []) ts ≡ k
number_at = by_push (λ ts. (k : ℕ) → k < length (distinct ts) → number_of (get_or (distinct ts) k []) ts ≡ k) (λ k h. absurd (omega (arith, ap length distinct-nil))) step
  where
    step : (ts : List Term) (u : Term) → ((k : ℕ) → k < length (distinct ts) → number_of (get_or (distinct ts) k []) ts ≡ k)
        → (k : ℕ) → k < length (distinct (ts ++ u ∷ [])) → number_of (get_or (distinct (ts ++ u ∷ [])) k []) (ts ++ u ∷ []) ≡ k
    step ts u ih k h =
        let d = distinct_push ts u in
        let old : k < length (distinct ts) → get_or (distinct (ts ++ u ∷ [])) k [] ≡ get_or (distinct ts) k [] → number_of (get_or (distinct (ts ++ u ∷ [])) k []) (ts ++ u ∷ []) ≡ k =
        λ l e. ap (λ z. number_of z (ts ++ u ∷ [])) e ∙ number_keeps (get_or (distinct ts) k []) u ts (counted_low ts k l) ∙ ih k l in
        elim (with_term_cases (distinct ts) u) [
          | inl w ↦ let e = d ∙ w.1 in old (omega (arith, ap length e)) (ap (λ z. get_or z k []) e)
          | inr w ↦ let e = d ∙ w.1 in elim (cases_lt k (length (distinct ts))) [
            | inl low ↦ old low (ap (λ z. get_or z k []) e ∙ get_or_append_left (distinct ts) (u ∷ []) [] k low)
            | inr high ↦
                let q : k ≡ length (distinct ts) = omega (arith, ap length e, length_push (distinct ts) u) in
                let g : get_or (distinct (ts ++ u ∷ [])) k [] ≡ u = ap (λ z. get_or z k []) e ∙ ap (λ z. get_or (distinct ts ++ u ∷ []) z []) q ∙ get_or-append_seam (distinct ts) u [] [] in
                let absent : count_of u ts ≡ 0 = omega (arith, once u ts, w.0) in
                ap (λ z. number_of z (ts ++ u ∷ [])) g ∙ number_here u ts ∙ number_absent u ts absent ∙ sym q
          ]
        ]

pub distinct_of : (m : Moment) (s k : ℕ) → k < length (entered m s) → (k < length (distinct (terms_of (segment m s)))) × (get_or (distinct (terms_of (segment m s))) k [] ≡ get_or (entered m s) k [])
distinct_of m s k h = let d = entered_done_is m s in
    (omega (arith, ap length d.all, length-append (entered m s) d.left), ap (λ z. get_or z k []) d.all ∙ get_or_append_left (entered m s) d.left [] k h)

-- the number of an entered term is its place among them
pub number_is : (m : Moment) (s k : ℕ) → k < length (entered m s) → number_of (get_or (entered m s) k []) (terms_of (segment m s)) ≡ k
number_is m s k h = let d = distinct_of m s k h in ap (λ z. number_of z (terms_of (segment m s))) (sym d.1) ∙ number_at (terms_of (segment m s)) k d.0

-- so it has a tail
pub entered_is_term : (m : Moment) (s k : ℕ) → s < m.setting.segments → k < length (entered m s) → IsTerm m s (get_or (entered m s) k []) k
entered_is_term m s k inside h = let d = distinct_of m s k h in record {
  inside = inside;
  there = omega (arith, counted_low (terms_of (segment m s)) k d.0, ap (λ z. count_of z (terms_of (segment m s))) d.1);
  number = sym (number_is m s k h);
}

-- an entered term is at its number
pub number_found : (m : Moment) (s : ℕ) (t : Term) → IsEntered m s t → (k : ℕ) × (k < length (entered m s)) × (get_or (entered m s) k [] ≡ t)
number_found m s t h = (h.0, h.1, get_or_default (entered m s) h.0 [] t h.1 ∙ h.2)

-- the term at a number is entered
pub entered_at : (m : Moment) (s k : ℕ) (t : Term) → k < length (entered m s) → get_or (entered m s) k [] ≡ t → IsEntered m s t
entered_at m s k t h e = subst (Contains (entered m s)) e (Contains-get_or (entered m s) k [] h)

-- ---- their bytes

bytes_each : (seg : List Doc) → Each IsDocument seg → Each AreBytes (terms_of seg)
unfolding terms_of
bytes_each [] none = none
bytes_each (d ∷ ds) (more i h) = Each-append (each_from (d.terms) i.terms) (bytes_each ds h)
  where
    each_from : (ts : List Term) → All AreBytes ts → Each AreBytes ts
    each_from [] h = none
    each_from (t ∷ ts) h = more (All-head AreBytes t ts h) (each_from ts (All-tail AreBytes t ts h))

each_distinct : (ts : List Term) → Each AreBytes ts → Each AreBytes (distinct ts)
each_distinct = by_push (λ ts. Each AreBytes ts → Each AreBytes (distinct ts)) (λ h. subst (Each AreBytes) (sym distinct-nil) none) (λ ts u ih h. elim (with_term_cases (distinct ts) u) [
  | inl w ↦ subst (Each AreBytes) (sym (distinct_push ts u ∙ w.1)) (ih (Each-front ts (u ∷ []) h))
  | inr w ↦ subst (Each AreBytes) (sym (distinct_push ts u ∙ w.1)) (Each-append (ih (Each-front ts (u ∷ []) h)) (Each-back ts (u ∷ []) h))
])

each_get : (ts : List Term) (k : ℕ) → Each AreBytes ts → k < length ts → AreBytes (get_or ts k [])
each_get [] k none l = absurd (omega arith)
each_get (t ∷ ts) zero (more i h) l = i
each_get (t ∷ ts) (suc k) (more i h) l = each_get ts k h (omega arith)

-- an entered term is a list of bytes
pub entered_bytes : (m : Moment) (s k : ℕ) → IsMoment m → k < length (entered m s) → AreBytes (get_or (entered m s) k [])
entered_bytes m s k is h =
    let p = placed_all m.setting (with_current m.documents) is.setting is.lawful in
    let d = distinct_of m s k h in
    subst AreBytes d.1 (each_get (distinct (terms_of (segment m s))) k (each_distinct (terms_of (segment m s)) (bytes_each (segment m s) (p.limits s))) d.0)

-- ---- the text of a term determines the term

low_once : (xs ys : List ℕ) → length xs ≡ length ys → AreBytes xs → AreBytes ys → little_endian xs ≡ little_endian ys → xs ≡ ys
low_once [] [] n h k e = refl
low_once [] (y ∷ ys) n h k e = absurd (omega arith)
low_once (x ∷ xs) [] n h k e = absurd (omega arith)
low_once (x ∷ xs) (y ∷ ys) n h k e =
    let a = All-head (λ b. b < 256) x xs h in
    let b = All-head (λ b. b < 256) y ys k in
    let first : x ≡ y = omega arith in
    let rest = low_once xs ys (omega arith) (All-tail (λ b. b < 256) x xs h) (All-tail (λ b. b < 256) y ys k) (omega arith) in
    cc

eights_once : (n : ℕ) (xs ys : List ℕ) → length xs ≡ length ys → length xs ≤ 8 * n → AreBytes xs → AreBytes ys → eights n xs ≡ eights n ys → xs ≡ ys
eights_once zero [] [] e l h k q = refl
eights_once zero [] (y ∷ ys) e l h k q = absurd (omega arith)
eights_once zero (x ∷ xs) ys e l h k q = absurd (omega arith)
eights_once (suc n) xs ys e l h k q =
    let first : little_endian (take 8 xs) ≡ little_endian (take 8 ys) = cc in
    let rest : eights n (drop 8 xs) ≡ eights n (drop 8 ys) = cc in
    let a = low_once (take 8 xs) (take 8 ys) (omega (arith, length-take 8 xs, length-take 8 ys)) (All-take (λ b. b < 256) 8 xs h) (All-take (λ b. b < 256) 8 ys k) first in
    let b = eights_once n (drop 8 xs) (drop 8 ys) (omega (arith, length-drop 8 xs, length-drop 8 ys))
    (omega (arith, length-drop 8 xs)) (All-drop (λ b. b < 256) 8 xs h) (All-drop (λ b. b < 256) 8 ys k) rest in
    sym (take-append-drop 8 xs) ∙ (λ i. a i ++ b i) ∙ take-append-drop 8 ys

-- two terms of bytes have two texts
pub text_once : (t u : Term) → AreBytes t → AreBytes u → text_of t ≡ text_of u → t ≡ u
text_once t u h k e =
    let n : length t ≡ length u = cc in
    let w : eights ((length t + 7) / 8) t ≡ eights ((length u + 7) / 8) u = cc in
    eights_once ((length t + 7) / 8) t u n (omega arith) h k (w ∙ ap (λ z. eights ((z + 7) / 8) u) (sym n))

-- the text is the term's where its words are
pub text_same : (t u : Term) → AreBytes t → AreBytes u → length t ≡ length u → ((i : ℕ) → i < text_words u → get_or (text_of t) i 0 ≡ get_or (text_of u) i 0) → t ≡ u
text_same t u h k n e =
    text_once t u h k (same_number_lists (text_of t) (text_of u) (omega (arith, length-text_of t, length-text_of u)) (λ i l. e i (omega (arith, length-text_of t))))

-- which terms are entered goes by the setting and the documents part alone
pub entered_by : (m n : Moment) (s : ℕ) → n.setting ≡ m.setting → n.documents ≡ m.documents → entered n s ≡ entered m s
unfolding entered stores_in_region
entered_by m n s e f i = take (count_by (is_in s cell_region) (document_stores (e i) (f i))) (distinct (terms_of (get_or (cut (e i) (with_current (f i))) s [])))
