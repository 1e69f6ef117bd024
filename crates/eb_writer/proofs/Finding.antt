-- What is found of the tokens of a document.
use Rattle.std.proofs.Common.{◌≡◌, ℕ, zero, suc, ◌+◌, ◌-◌, ◌<◌, ◌≤◌, List, [], ◌∷◌, ◌++◌, length, take, get_or}
use Rattle.std.proofs.Common.{refl, ap, sym, ◌∙◌, subst, arith, inl, inr, append_assoc, slice_get, slice_set, Some}
use native.Mathlib.Decide.{ℕ_discrete}
use Rattle.std.proofs.lemmas.Bool.{cases_lt}
use Rattle.eb_base.specs.Term.{Term}
use Rattle.eb_place.specs.declared.moment.Moment.{Moment}
use Rattle.eb_place.specs.Postings.{distinct, count_of, number_of}
use Rattle.eb_place.specs.Later.{IsNotBefore}
use Rattle.eb_place.proofs.TermCounts.{one_if, same_term, count_of-nil, count_of-append, count_of_push}
use Rattle.eb_place.proofs.TermNumbersStay.{number_here, number_stays, number_absent}
use Rattle.eb_place.proofs.ReachedLater.{later_term}
use Rattle.eb_chain.specs.Needs.{IsTailWord}
use Rattle.eb_writer.specs.declared.plan.Found.{Found}
use Rattle.eb_writer.specs.Recall.{token_at, StoodAt}
use Rattle.eb_writer.specs.Counting.{tokens_in, IsFound, AreFound, IsFirst}
use Rattle.eb_writer.proofs.Recalling.{count_take}
use Rattle.eb_writer.proofs.Idle.{IsKnown, tokens_same}
use Rattle.eb_writer.proofs.Tallies.{set_get_here, set_get_other, length_written}

-- a term that is known is so later
pub known_later : (m n : Moment) (s : ℕ) (t : Term) (k : ℕ) → IsNotBefore n m → n.documents ≡ m.documents → IsKnown m s t k → IsKnown n s t k
known_later m n s t k l e h =
    let q : tokens_in m s ≡ tokens_in n s = sym (tokens_same m n s l e) in
    record { term = later_term m n s t k l h.term; some = subst (λ z. 1 ≤ count_of t z) q h.some; number = h.number ∙ ap (number_of t) q }

-- the element at a place
pub element : {X : Type 0} (xs : List X) (i : ℕ) (d : X) → i < length xs → slice_get xs i ≡ Some (get_or xs i d)
element [] i d h = absurd (omega arith)
element (x ∷ xs) zero d h = refl
element (x ∷ xs) (suc i) d h = element xs i d (omega arith)

pub count_few : (u : Term) (ts : List Term) (i : ℕ) → i ≤ length ts → count_of u (take i ts) ≤ i
count_few u ts zero h = omega (arith, count_of-nil u)
count_few u ts (suc i) h = omega (arith, count_few u ts i (omega arith), count_take u ts i (omega arith), Rattle.eb_writer.proofs.Tallies.one_low (Rattle.std.proofs.Common.bytes_eq u (token_at ts i)))

-- a prefix and what comes after a shorter one
take_rest : {X : Type 0} (xs : List X) (q i : ℕ) → q ≤ i → (rest : List X) × (take i xs ≡ take q xs ++ rest)
take_rest xs zero i h = (take i xs, refl)
take_rest [] (suc q) zero h = absurd (omega arith)
take_rest [] (suc q) (suc i) h = ([], refl)
take_rest (x ∷ xs) (suc q) zero h = absurd (omega arith)
take_rest (x ∷ xs) (suc q) (suc i) h = let r = take_rest xs q i (omega arith) in (r.0, ap (λ z. x ∷ z) r.1)

take_at_end : (ts : List Term) (p : ℕ) → p < length ts → take (suc p) ts ≡ take p ts ++ token_at ts p ∷ []
take_at_end [] p h = absurd (omega arith)
take_at_end (x ∷ xs) zero h = refl
take_at_end (x ∷ xs) (suc p) h = ap (λ z. x ∷ z) (take_at_end xs p (omega arith))

-- a token whose term was at place p last
pub again : (A ts : List Term) (i p : ℕ) (k : Found) → i < length ts → StoodAt ts i p → IsFound A ts p k → IsFound A ts i record { number = k.number; tail = k.tail; earlier = k.earlier + 1 }
again A ts i p k low st h =
    let t = token_at ts i in
    let e = st.same in
    let F : List Term = A ++ take p ts in
    let r = take_rest ts (suc p) i st.earlier in
    let all : A ++ take i ts ≡ (F ++ t ∷ []) ++ r.0 = ap (λ z. A ++ z) (r.1 ∙ ap (λ z. z ++ r.0) (take_at_end ts p (let o = st.earlier in omega arith) ∙ ap (λ z. take p ts ++ z ∷ []) e))
    ∙ sym (append_assoc A (take p ts ++ t ∷ []) r.0) ∙ ap (λ z. z ++ r.0) (sym (append_assoc A (take p ts) (t ∷ []))) in
    let m = count_of_push t t F in
    let o = ap one_if (same_term t) in
    record {
      number = h.number ∙ ap (λ z. number_of z F) e ∙ sym (number_here t F) ∙ sym (number_stays t (F ++ t ∷ []) r.0 (omega arith)) ∙ ap (number_of t) (sym all);
      tail = subst (λ z. IsTailWord (count_of z A) k.tail) e h.tail;
      earlier =
          omega (arith, h.earlier, ap (λ z. count_of z (take p ts)) e, st.last, count_take t ts p (let o = st.earlier in omega arith), ap (λ z. one_if (Rattle.std.proofs.Common.bytes_eq t z)) e, o);
    }

-- a token whose term doesn't occur earlier
pub first : (A ts : List Term) (i next : ℕ) (t : Term) (k : Found) → t ≡ token_at ts i → count_of (token_at ts i) (take i ts) ≡ 0
    → next ≡ length (distinct (A ++ take i ts)) → IsFirst A t next k → IsFound A ts i k
first A ts i next t k e z n h' =
    let u = token_at ts i in
    let h : IsFirst A u next k = subst (λ y. IsFirst A y next k) e h' in
    record {
      number = elim (cases_lt 0 (count_of u A)) [
        | inl l ↦ h.known l ∙ sym (number_stays u A (take i ts) l)
        | inr l ↦ h.new (omega arith) ∙ n ∙ sym (number_absent u (A ++ take i ts) (omega (arith, count_of-append u A (take i ts))))
      ];
      tail = h.tail;
      earlier = h.earlier ∙ sym z;
    }

-- one more token is found
pub found_more : (A ts : List Term) (found : List Found) (i : ℕ) (k : Found) → AreFound A ts found i → IsFound A ts i k → AreFound A ts (slice_set found i k) (i + 1)
found_more A ts found i k h f = record {
  places = length_written found i k ∙ h.places;
  each = λ j w l e. elim (ℕ_discrete j i) [
    | yes q ↦ subst (λ (z : Found). IsFound A ts j z) (sym (set_get_here found i k w (subst (λ z. slice_get (slice_set found i k) z ≡ Some w) q e))) (subst (λ z. IsFound A ts z k) (sym q) f)
    | no q ↦ let low : j < i = below j i l q in h.each j w low (sym (set_get_other found i j k low) ∙ e)
  ];
}
  where
    below : (p i : ℕ) → p < i + 1 → (p ≡ i → ⊥) → p < i
    below p i l q = elim (cases_lt p i) [
      | inl z ↦ z
      | inr z ↦ absurd (q (omega arith))
    ]
