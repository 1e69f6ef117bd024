-- What the writer needs: the next address from the last one, and the next stores of a list.
use Rattle.std.proofs.Common.{◌≡◌, ℕ, zero, suc, ◌+◌, ◌≤◌, true, false, ◌==◌, List, [], ◌∷◌, ◌++◌, length, drop, refl, ap, sym, ◌∙◌, append-nil, append_assoc, arith, inl, inr, bytes_eq, if◌then◌else◌}
use Rattle.std.proofs.lemmas.Bool.{cases_Bool, eqb-true}
use Rattle.std.proofs.lemmas.Bool.Decides.{nat_tests}
use Rattle.std.proofs.lemmas.List.{drop_at, drop-drop}
use Rattle.eb_base.specs.Term.{Term}
use Rattle.eb_base.specs.Setting.{Setting}
use Rattle.eb_place.specs.Layout.{address_number}
use Rattle.eb_place.specs.Postings.{count_of, posting_of}
use Rattle.eb_place.specs.Address.{pool_at, offset_at, slice_start, begins, slices_begun, front_of, address_of}
use Rattle.eb_place.specs.Placing.{Store, tokens_stores, token_stores}
use Rattle.eb_place.specs.Moments.{value_after}
use Rattle.eb_place.proofs.TermCounts.{same_term, count_of-nil, count_of-cons}
use Rattle.eb_place.proofs.AddressesDiffer.{front_away, front_first, front_later}

-- where the term occurs no more often, the prefix is all
pub front_all : (t : Term) (n : ℕ) (ts : List Term) → count_of t ts ≤ n → front_of t n ts ≡ ts
unfolding front_of
front_all t zero [] h = refl
front_all t (suc n) [] h = refl
front_all t zero (u ∷ us) h = let d = count_of-cons t u us in elim (cases_Bool (bytes_eq t u)) [
  | inl here ↦ let d' = rw here at d in absurd (omega arith)
  | inr away ↦ let d' = rw away at d in front_away t u 0 us away ∙ ap (λ (x : List Term). u ∷ x) (front_all t zero us (omega arith))
]
front_all t (suc n) (u ∷ us) h = let d = count_of-cons t u us in elim (cases_Bool (bytes_eq t u)) [
  | inl here ↦ let d' = rw here at d in front_later t u n us here ∙ ap (λ (x : List Term). u ∷ x) (front_all t n us (omega arith))
  | inr away ↦ let d' = rw away at d in front_away t u (suc n) us away ∙ ap (λ (x : List Term). u ∷ x) (front_all t (suc n) us (omega arith))
]

-- the same prefix before and after the token itself comes
pub front_here : (t : Term) (n : ℕ) (xs ys : List Term) → n ≤ count_of t xs → front_of t n (xs ++ t ∷ ys) ≡ front_of t n xs
front_here t zero [] ys h = front_first t t ys (same_term t) ∙ sym (front_all t zero [] (omega (arith, count_of-nil t)))
front_here t (suc n) [] ys h = let e = count_of-nil t in absurd (omega arith)
front_here t zero (u ∷ us) ys h = let d = count_of-cons t u us in elim (cases_Bool (bytes_eq t u)) [
  | inl here ↦ front_first t u _ here ∙ sym (front_first t u us here)
  | inr away ↦ let d' = rw away at d in front_away t u 0 _ away ∙ ap (λ (x : List Term). u ∷ x) (front_here t zero us ys (omega arith)) ∙ sym (front_away t u 0 us away)
]
front_here t (suc n) (u ∷ us) ys h = let d = count_of-cons t u us in elim (cases_Bool (bytes_eq t u)) [
  | inl here ↦ let d' = rw here at d in front_later t u n _ here ∙ ap (λ (x : List Term). u ∷ x) (front_here t n us ys (omega arith)) ∙ sym (front_later t u n us here)
  | inr away ↦ let d' = rw away at d in front_away t u (suc n) _ away ∙ ap (λ (x : List Term). u ∷ x) (front_here t (suc n) us ys (omega arith)) ∙ sym (front_away t u (suc n) us away)
]

-- the first posting of a slice: the next slice of the pool
pub address_new : (t : Term) (ts : List Term) → begins (count_of t ts) ≡ true
    → address_of t (count_of t ts) ts ≡ address_number (pool_at (count_of t ts)) (slices_begun (pool_at (count_of t ts)) ts) (offset_at (count_of t ts))
unfolding address_of
address_new t ts h = let s : slice_start (count_of t ts) ≡ count_of t ts = eqb-true _ _ h in
    ap (λ (z : List Term). address_number (pool_at (count_of t ts)) (slices_begun (pool_at (count_of t ts)) z) (offset_at (count_of t ts))) (front_all t _ ts (omega (arith, s)))

-- a further posting of a slice: the next place
next_number : (f : ℕ) → begins (f + 1) ≡ false → (pool_at (f + 1) ≡ pool_at f) × (slice_start (f + 1) ≡ slice_start f) × (offset_at (f + 1) ≡ offset_at f + 1)
unfolding pool_at offset_at slice_start
next_number f h = grind (arith, nat_tests)

-- the next posting in a slice has the next address
pub address_next : (t : Term) (f : ℕ) (ts : List Term) → begins (f + 1) ≡ false → address_of t (f + 1) ts ≡ address_of t f ts + 1
unfolding address_of
address_next t f ts h = let w = next_number f h in rw (w.0, w.1, w.2) (omega arith)

-- one more token's stores after those of the tokens before it
pub tokens_stores-append : (σ : Setting) (s n p : ℕ) (before xs ys : List Term)
    → tokens_stores σ s n p before (xs ++ ys) ≡ tokens_stores σ s n p before xs ++ tokens_stores σ s n (p + length xs) (before ++ xs) ys
unfolding tokens_stores
tokens_stores-append σ s n p before [] ys = rw append-nil (ap (λ k. tokens_stores σ s n k before ys) (omega arith))
tokens_stores-append σ s n p before (x ∷ xs) ys =
    let a : (before ++ x ∷ []) ++ xs ≡ before ++ (x ∷ xs) = append_assoc before (x ∷ []) xs in
    let b : (p + 1) + length xs ≡ p + suc (length xs) = omega arith in
    ap (λ (z : List Store). token_stores σ s before x (posting_of n p) ++ z) (tokens_stores-append σ s n (p + 1) (before ++ x ∷ []) xs ys
    ∙ ap (λ (k : ℕ). tokens_stores σ s n (p + 1) (before ++ x ∷ []) xs ++ tokens_stores σ s n k ((before ++ x ∷ []) ++ xs) ys) b
    ∙ ap (λ (z : List Term). tokens_stores σ s n (p + 1) (before ++ x ∷ []) xs ++ tokens_stores σ s n (p + suc (length xs)) z ys) a)
    ∙ sym (append_assoc (token_stores σ s before x (posting_of n p)) (tokens_stores σ s n (p + 1) (before ++ x ∷ []) xs) (tokens_stores σ s n (p + suc (length xs)) (before ++ (x ∷ xs)) ys))

-- of a list that goes on with `now` and then `rest` at place i, `rest` comes after `now`
pub next_rest : (xs now rest : List Store) (i : ℕ) → drop i xs ≡ now ++ rest → drop (i + length now) xs ≡ rest
next_rest xs now rest i h = sym (drop-drop (length now) i xs) ∙ ap (drop (length now)) h ∙ drop_at now rest (length now) refl

-- the value after two lists
pub value_after-append : (p v : ℕ) (xs ys : List (ℕ × ℕ)) → value_after p v (xs ++ ys) ≡ value_after p (value_after p v xs) ys
unfolding value_after
value_after-append p v [] ys = refl
value_after-append p v (x ∷ xs) ys = value_after-append p (if x.0 == p then x.1 else v) xs ys
