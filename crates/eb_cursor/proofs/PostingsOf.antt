-- The postings of a term in a segment are the places where it occurs, and fall when read backwards.
use Rattle.std.proofs.Common.{◌≡◌, ℕ, zero, suc, ◌+◌, ◌-◌, ◌*◌, ◌/◌, ◌%◌, ◌<◌, ◌≤◌, inl, inr, Bool, false, List, [], ◌∷◌, ◌++◌, length}
use Rattle.std.proofs.Common.{take, drop, reverse, None, slice_get, refl, ap, sym, ◌∙◌, subst, arith, append-nil, append_assoc, bytes_eq}
use Rattle.std.proofs.lemmas.Bool.{cases_Bool, cases_lt}
use Rattle.std.proofs.lemmas.List.{reverse-append, length-reverse, length-append, take-append-drop, length-drop}
use Rattle.std.proofs.Math.Seq.{drop-append_seam}
use Rattle.eb_base.specs.Term.{Term}
use Rattle.eb_base.specs.Document.{Doc, IsDocument}
use Rattle.eb_place.specs.Postings.{places, posting_of, tokens_from, segment_from, tokens, postings}
use Rattle.eb_place.proofs.WordsOfHistories.{postings_in, postings_append}
use Rattle.eb_place.proofs.FreshPoolWords.{Each}
use Rattle.eb_place.proofs.FreshPoolWords.Each.{none, more}
use Rattle.eb_cursor.specs.Tops.{below}
use Rattle.eb_cursor.specs.Lists.{from_below, IsDescending, IsUnder}
use Rattle.eb_cursor.specs.Posted.{terms_at, is_term, is_posting, Narrow}
use Rattle.eb_cursor.proofs.Tops.{from_below_in, from_below_past, from_below-below}

-- ---- the postings of a term, from the last to the first

below_past : (f : ℕ → Bool) (n k : ℕ) → ((i : ℕ) → i < k → f (n + i) ≡ false) → below f (n + k) ≡ below f n
below_past f n zero h = let e : n + zero ≡ n = omega arith in rw e refl
below_past f n (suc k) h = let e : n + suc k ≡ suc (n + k) = omega arith in rw (e, h k (omega arith)) (below_past f n k (λ i l. h i (omega arith)))

below_same : (f h : ℕ → Bool) (n : ℕ) → ((i : ℕ) → i < n → f i ≡ h i) → below f n ≡ below h n
below_same f h zero e = refl
below_same f h (suc n) e = rw (e n (omega arith), below_same f h n (λ i l. e i (omega arith))) refl

-- the terms of one document, from a position on
tokens_below : (f : ℕ → Bool) (t : Term) (n p : ℕ) (us : List Term) → ((i : ℕ) → i < length us → f (places * n + p + i) ≡ is_term t (slice_get us i))
    → below f (places * n + p + length us) ≡ reverse (postings_in t (tokens_from n p us)) ++ below f (places * n + p)
tokens_below f t n p [] h = let e : places * n + p + 0 ≡ places * n + p = omega arith in ap (below f) e
tokens_below f t n p (u ∷ us) h =
    let rest : List ℕ = postings_in t (tokens_from n (p + 1) us) in
    let ih = tokens_below f t n (p + 1) us (λ i l. let e : places * n + (p + 1) + i ≡ places * n + p + suc i = omega arith in rw e (h (suc i) (omega arith))) in
    let all : places * n + p + suc (length us) ≡ places * n + (p + 1) + length us = omega arith in
    let step : places * n + (p + 1) ≡ suc (places * n + p) = omega arith in
    let same : places * n + p + 0 ≡ places * n + p = omega arith in
    let here : f (places * n + p) ≡ bytes_eq t u = ap f (sym same) ∙ h 0 (omega arith) in
    let number : posting_of n p ≡ places * n + p = omega arith in
    ap (below f) all ∙ ih ∙ ap (λ (k : ℕ). reverse rest ++ below f k) step ∙ elim (cases_Bool (bytes_eq t u)) [
      | inl e ↦ rw (here ∙ e, e) (
          ap (λ (k : ℕ). reverse rest ++ (k ∷ below f (places * n + p))) (sym number) ∙ sym (append_assoc (reverse rest) (posting_of n p ∷ []) (below f (places * n + p)))
          ∙ ap (λ (z : List ℕ). z ++ below f (places * n + p)) (sym (reverse-append (posting_of n p ∷ []) rest)))
      | inr e ↦ rw (here ∙ e, e) refl
    ]

pub segment_below : (f : ℕ → Bool) (t : Term) (n : ℕ) (ds : List Doc) → Narrow ds → ((k i : ℕ) → k < length ds → i < places → f (places * (n + k) + i) ≡ is_term t (slice_get (terms_at ds k) i))
    → below f (places * (n + length ds)) ≡ reverse (postings_in t (segment_from n ds)) ++ below f (places * n)
segment_below f t n [] w h = let e : n + 0 ≡ n = omega arith in ap (λ (k : ℕ). below f (places * k)) e
segment_below f t n (d ∷ ds) w h =
    let few : length d.terms ≤ places = w.narrow 0 in
    let ih = segment_below f t (n + 1) ds (record { narrow = λ k. w.narrow (suc k) }) (λ k i l j. let e : n + 1 + k ≡ n + suc k = omega arith in rw e (h (suc k) i (omega arith) j)) in
    let at : (i : ℕ) → i < places → f (places * n + i) ≡ is_term t (slice_get d.terms i) = λ i j. let e : n + 0 ≡ n = omega arith in
    ap (λ (k : ℕ). f (places * k + i)) (sym e) ∙ h 0 i (omega arith) j in
    let past : (i : ℕ) → i < places - length d.terms → f (places * n + length d.terms + i) ≡ false = λ i j.
    let e : places * n + length d.terms + i ≡ places * n + (length d.terms + i) = omega arith in
    ap f e ∙ at (length d.terms + i) (omega arith) ∙ ap (is_term t) (past_end d.terms i) in
    let full : places * (n + 1) ≡ places * n + length d.terms + (places - length d.terms) = omega arith in
    let zero_is : places * n + 0 + length d.terms ≡ places * n + length d.terms = omega arith in
    let none_is : places * n + 0 ≡ places * n = omega arith in
    let one = tokens_below f t n 0 d.terms (λ i l. let e : places * n + 0 + i ≡ places * n + i = omega arith in ap f e ∙ at i (omega arith)) in
    let doc : below f (places * (n + 1)) ≡ reverse (postings_in t (tokens_from n 0 d.terms)) ++ below f (places * n) =
    ap (below f) full ∙ below_past f (places * n + length d.terms) (places - length d.terms) past ∙ ap (below f) (sym zero_is)
    ∙ one ∙ ap (λ (k : ℕ). reverse (postings_in t (tokens_from n 0 d.terms)) ++ below f k) none_is in
    let size : n + suc (length ds) ≡ n + 1 + length ds = omega arith in
    ap (λ (k : ℕ). below f (places * k)) size ∙ ih ∙ ap (λ (z : List ℕ). reverse (postings_in t (segment_from (n + 1) ds)) ++ z) doc
    ∙ sym (append_assoc (reverse (postings_in t (segment_from (n + 1) ds))) (reverse (postings_in t (tokens_from n 0 d.terms))) (below f (places * n)))
    ∙ ap (λ (z : List ℕ). z ++ below f (places * n)) (sym (reverse-append (postings_in t (tokens_from n 0 d.terms)) (postings_in t (segment_from (n + 1) ds)))
    ∙ ap reverse (sym (postings_append t (tokens_from n 0 d.terms) (segment_from (n + 1) ds))))
  where
    past_end : (ts : List Term) (i : ℕ) → slice_get ts (length ts + i) ≡ None
    past_end [] i = refl
    past_end (t ∷ ts) i = let e : suc (length ts) + i ≡ suc (length ts + i) = omega arith in rw e (past_end ts i)

-- read backwards they are the places below the end of the segment where the term occurs
pub postings_below : (t : Term) (ds : List Doc) → Narrow ds → reverse (postings t ds) ≡ below (is_posting ds t) (places * length ds)
unfolding postings tokens
postings_below t ds w =
    let z : 0 + length ds ≡ length ds = omega arith in
    let all = segment_below (is_posting ds t) t 0 ds w (λ k i l j.
    let d : (places * (0 + k) + i) / places ≡ k = omega arith in let m : (places * (0 + k) + i) % places ≡ i = omega arith in rw (d, m) refl) in
    sym (ap (λ (k : ℕ). below (is_posting ds t) (places * k)) (sym z) ∙ all ∙ append-nil (reverse (postings_in t (segment_from 0 ds))))

-- ---- they fall

under_below : (f : ℕ → Bool) (n m : ℕ) → n ≤ m → IsUnder m (below f n)
under_below f zero m h = tt
under_below f (suc n) m h = elim (cases_Bool (f n)) [ inl e ↦ rw e (omega arith) | inr e ↦ rw e (under_below f n m (omega arith)) ]

falling_below : (f : ℕ → Bool) (n : ℕ) → IsDescending (below f n)
falling_below f zero = tt
falling_below f (suc n) = elim (cases_Bool (f n)) [ inl e ↦ rw e (under_below f n n (omega arith), falling_below f n) | inr e ↦ rw e (falling_below f n) ]

falling_drop : (j : ℕ) (xs : List ℕ) → IsDescending xs → IsDescending (drop j xs)
falling_drop zero xs h = h
falling_drop (suc j) [] h = tt
falling_drop (suc j) (x ∷ xs) h = falling_drop j xs h.1

-- ---- the newest may be left out

left_out : (e j : ℕ) (xs : List ℕ) → j + length (from_below e xs) ≤ length xs → from_below e (drop j xs) ≡ from_below e xs
left_out e zero xs h = refl
left_out e (suc j) [] h = refl
left_out e (suc j) (x ∷ xs) h = elim (cases_lt x e) [
  | inl i ↦ absurd (omega (arith, ap length (from_below_in e x xs i)))
  | inr i ↦ left_out e j xs (omega (arith, ap length (from_below_past e x xs i))) ∙ sym (from_below_past e x xs i)
]

reverse-take : (k : ℕ) (xs : List ℕ) → k ≤ length xs → reverse (take k xs) ≡ drop (length xs - k) (reverse xs)
reverse-take k xs h =
    let back : List ℕ = reverse (drop k xs) in
    let whole : reverse xs ≡ back ++ reverse (take k xs) = ap reverse (sym (take-append-drop k xs)) ∙ reverse-append (take k xs) (drop k xs) in
    let n : length back ≡ length xs - k = length-reverse (drop k xs) ∙ length-drop k xs in
    sym (ap (drop (length xs - k)) whole ∙ subst (λ j. drop j (back ++ reverse (take k xs)) ≡ reverse (take k xs)) n (drop-append_seam back (reverse (take k xs))))

-- a prefix of the postings of a segment, read backwards, falls; and where it has all postings of
-- the first documents, it is these below their end
pub seen_below : (t : Term) (docs rest : List Doc) (k : ℕ) → Narrow (docs ++ rest) → Narrow docs → length (postings t docs) ≤ k → k ≤ length (postings t (docs ++ rest))
    → IsDescending (reverse (take k (postings t (docs ++ rest))))
    × (from_below (places * length docs) (reverse (take k (postings t (docs ++ rest)))) ≡ below (is_posting docs t) (places * length docs))
seen_below t docs rest k w v few most =
    let P : List ℕ = postings t (docs ++ rest) in
    let F : ℕ → Bool = is_posting (docs ++ rest) t in
    let N : ℕ = places * length (docs ++ rest) in
    let M : ℕ = places * length docs in
    let j : ℕ = length P - k in
    let whole : reverse P ≡ below F N = postings_below t (docs ++ rest) w in
    let back : reverse (take k P) ≡ drop j (below F N) = reverse-take k P most ∙ ap (drop j) whole in
    let under : M ≤ N = omega (arith, length-append docs rest) in
    let low : from_below M (below F N) ≡ below F M = from_below-below F M N under in
    let same : below F M ≡ below (is_posting docs t) M =
    below_same F (is_posting docs t) M (λ i l. ap (λ (d : List Term). is_term t (slice_get d (i % places))) (front_terms docs rest (i / places) (omega arith))) in
    let size : length (below (is_posting docs t) M) ≡ length (postings t docs) = ap length (sym (postings_below t docs v)) ∙ length-reverse (postings t docs) in
    let long : length (below F N) ≡ length P = ap length (sym whole) ∙ length-reverse P in
    let out : from_below M (drop j (below F N)) ≡ from_below M (below F N) = left_out M j (below F N) (omega (arith, ap length low, ap length same, size, long)) in
    (subst IsDescending (sym back) (falling_drop j (below F N) (falling_below F N)), ap (from_below M) back ∙ out ∙ low ∙ same)
  where
    front_terms : (docs rest : List Doc) (n : ℕ) → n < length docs → terms_at (docs ++ rest) n ≡ terms_at docs n
    front_terms [] rest n h = absurd (omega arith)
    front_terms (d ∷ ds) rest zero h = refl
    front_terms (d ∷ ds) rest (suc n) h = front_terms ds rest n (omega arith)

-- ---- no document has more terms than places

pub narrow_each : (ds : List Doc) → Each IsDocument ds → Narrow ds
narrow_each ds h = record { narrow = go ds h }
  where
    go : (ds : List Doc) → Each IsDocument ds → (n : ℕ) → length (terms_at ds n) ≤ places
    go [] none n = omega arith
    go (d ∷ ds) (more i h) zero = omega (arith, i.limits.tokens)
    go (d ∷ ds) (more i h) (suc n) = go ds h n

pub narrow_front : (docs rest : List Doc) → Narrow (docs ++ rest) → Narrow docs
narrow_front docs rest w = record { narrow = λ n. go docs rest n (w.narrow n) }
  where
    go : (docs rest : List Doc) (n : ℕ) → length (terms_at (docs ++ rest) n) ≤ places → length (terms_at docs n) ≤ places
    go [] rest n h = omega arith
    go (d ∷ ds) rest zero h = h
    go (d ∷ ds) rest (suc n) h = go ds rest n h
