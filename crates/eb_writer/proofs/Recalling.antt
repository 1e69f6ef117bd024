-- Remembering the tokens of a document.
use Rattle.std.proofs.Common.{◌≡◌, ◌≢◌, ℕ, zero, suc, ◌+◌, ◌%◌, ◌<◌, ◌≤◌, false, List, [], ◌∷◌, length, take, get_or, refl, ap, sym, ◌∙◌, subst, arith, inl, inr, bytes_eq, slice_get, slice_set, Some}
use native.Mathlib.Decide.{ℕ_discrete}
use Rattle.std.proofs.lemmas.Bool.{cases_Bool, cases_lt}
use Rattle.std.proofs.lemmas.Slice.Eq.{bytes_eq-Decides}
use Rattle.eb_base.specs.Term.{Term}
use Rattle.eb_base.specs.Document.{most_tokens}
use Rattle.eb_place.specs.Placing.{hash}
use Rattle.eb_place.specs.Postings.{count_of}
use Rattle.eb_place.proofs.TermCounts.{one_if, count_of-nil, count_of-cons}
use Rattle.eb_writer.specs.declared.plan.Recall.{Recall}
use Rattle.eb_writer.specs.declared.plan.TheConstants.{BUCKETS}
use Rattle.eb_writer.specs.Recall.{bucket, bucket_in, token_at, LeadsBack, Remembers, StoodAt}

-- the element that is given is that at its place
pub at_place : {X : Type 0} (xs : List X) (i : ℕ) (x y : X) → slice_get xs i ≡ Some x → get_or xs i y ≡ x
at_place [] i x y e = absurd cc
at_place (z ∷ xs) zero x y e = cc
at_place (z ∷ xs) (suc i) x y e = at_place xs i x y e

-- the bucket of a token by its hash
pub bucket_by_hash : (ts : List Term) (i hashed b : ℕ) → hashed ≡ hash (token_at ts i) → b ≡ hashed % BUCKETS → b ≡ bucket_in ts i
bucket_by_hash ts i hashed b h e = e ∙ ap (λ k. k % BUCKETS) h

-- the first tokens with one more
pub count_take : (u : Term) (ts : List Term) (p : ℕ) → p < length ts → count_of u (take (suc p) ts) ≡ count_of u (take p ts) + one_if (bytes_eq u (token_at ts p))
count_take u [] p h = absurd (omega arith)
count_take u (t ∷ ts) zero h = count_of-cons u t [] ∙ omega (arith, count_of-nil u)
count_take u (t ∷ ts) (suc p) h = omega (arith, count_of-cons u t (take (suc p) ts), count_of-cons u t (take p ts), count_take u ts p (omega arith))

other : (u t : Term) → u ≢ t → bytes_eq u t ≡ false
other u t h = elim (cases_Bool (bytes_eq u t)) [
  | inl same ↦ absurd (h ((bytes_eq-Decides u t).0 same))
  | inr away ↦ away
]

-- another token adds nothing
pub count_other : (u : Term) (ts : List Term) (p : ℕ) → p < length ts → u ≢ token_at ts p → count_of u (take (suc p) ts) ≡ count_of u (take p ts)
count_other u ts p l h = omega (arith, count_take u ts p l, ap one_if (other u (token_at ts p) h))

-- a bucket is one of them
pub bucket_low : (t : Term) → bucket t < BUCKETS
bucket_low t = omega arith

-- no token is led back to where there is none
pub leads_nothing : (ts : List Term) (b : ℕ) → LeadsBack ts 0 b 0
leads_nothing ts b = record { back = omega arith; there = λ p e. absurd cc; passed = λ u e. refl }

-- how far a search is: no token of the term at place i is at `next` or after it, before place i
pub record IsSought (ts : List Term) (i next : ℕ) : Type 0 where
  pub back : next ≤ i
  pub there : (p : ℕ) → next ≡ suc p → bucket (token_at ts p) ≡ bucket (token_at ts i)
  pub passed : count_of (token_at ts i) (take i ts) ≡ count_of (token_at ts i) (take next ts)

pub sought_first : (ts : List Term) (i last : ℕ) → LeadsBack ts i (bucket (token_at ts i)) last → IsSought ts i last
sought_first ts i last h = record { back = h.back; there = h.there; passed = h.passed (token_at ts i) refl }

pub sought_more : (ts : List Term) (i p next last : ℕ) → i < length ts → next ≡ suc p → IsSought ts i next
    → token_at ts i ≢ token_at ts p → LeadsBack ts p (bucket (token_at ts p)) last → IsSought ts i last
sought_more ts i p next last low e h away l =
    let t = token_at ts i in
    let b = h.there p e in
    record {
      back = omega (arith, h.back, l.back);
      there = λ q f. l.there q f ∙ b;
      passed = h.passed ∙ ap (λ k. count_of t (take k ts)) e ∙ count_other t ts p (omega (arith, h.back)) away ∙ l.passed t (sym b);
    }

pub sought_found : (ts : List Term) (i p next : ℕ) → next ≡ suc p → IsSought ts i next → token_at ts p ≡ token_at ts i → StoodAt ts i p
sought_found ts i p next e h same = record { earlier = omega (arith, h.back); same = same; last = h.passed ∙ ap (λ k. count_of (token_at ts i) (take k ts)) e }

pub sought_none : (ts : List Term) (i : ℕ) → IsSought ts i 0 → count_of (token_at ts i) (take i ts) ≡ 0
sought_none ts i h = h.passed ∙ count_of-nil (token_at ts i)

-- the bucket of the token itself leads back to it
pub leads_here : (ts : List Term) (i : ℕ) → LeadsBack ts (i + 1) (bucket (token_at ts i)) (i + 1)
leads_here ts i = record { back = omega arith; there = λ p e. ap (λ k. bucket (token_at ts k)) (let f : p ≡ i = omega arith in f); passed = λ u e. refl }

-- the other buckets lead back as before
pub leads_on : (ts : List Term) (i b last : ℕ) → i < length ts → b ≢ bucket (token_at ts i) → LeadsBack ts i b last → LeadsBack ts (i + 1) b last
leads_on ts i b last low h l = record {
  back = omega (arith, l.back);
  there = l.there;
  passed = λ u e. ap (λ k. count_of u (take k ts)) (let f : i + 1 ≡ suc i = omega arith in f) ∙ count_other u ts i low (λ same. h (sym e ∙ ap bucket same)) ∙ l.passed u e;
}

-- an element after a write
pub set_here : (xs : List ℕ) (i v : ℕ) → i < length xs → get_or (slice_set xs i v) i 0 ≡ v
set_here [] i v h = absurd (omega arith)
set_here (x ∷ xs) zero v h = refl
set_here (x ∷ xs) (suc i) v h = set_here xs i v (omega arith)

pub set_other : (xs : List ℕ) (i j v : ℕ) → i ≢ j → get_or (slice_set xs i v) j 0 ≡ get_or xs j 0
set_other [] i j v h = refl
set_other (x ∷ xs) zero zero v h = absurd (h refl)
set_other (x ∷ xs) zero (suc j) v h = refl
set_other (x ∷ xs) (suc i) zero v h = refl
set_other (x ∷ xs) (suc i) (suc j) v h = set_other xs i j v (λ e. h (ap suc e))

length_set : (xs : List ℕ) (i v : ℕ) → length (slice_set xs i v) ≡ length xs
length_set [] i v = refl
length_set (x ∷ xs) zero v = refl
length_set (x ∷ xs) (suc i) v = ap suc (length_set xs i v)

-- one more token is remembered
pub remembers_more : (r : Recall) (ts : List Term) (i b : ℕ) → i < length ts → length ts ≤ most_tokens → b ≡ bucket (token_at ts i) → Remembers r ts i
    → (p : length (slice_set r.before i (get_or r.latest b 0)) ≡ most_tokens)
    → Remembers record { latest = slice_set r.latest b (i + 1); before = slice_set r.before i (get_or r.latest b 0); places = p } ts (i + 1)
remembers_more r ts i b low few e h p =
    let bl = bucket_low (token_at ts i) in
    record {
      buckets = length_set r.latest b (i + 1) ∙ h.buckets;
      tokens = length_set r.before i (get_or r.latest b 0) ∙ h.tokens;
      few = omega arith;
      latest = λ c l. elim (ℕ_discrete c b) [
        | yes q ↦ subst (λ (z : ℕ × ℕ). LeadsBack ts (i + 1) z.0 z.1)
            (λ j. (sym (q ∙ e) j, sym (ap (λ k. get_or (slice_set r.latest b (i + 1)) k 0) q ∙ set_here r.latest b (i + 1) (omega (arith, h.buckets, e))) j)) (leads_here ts i)
        | no q ↦ subst (LeadsBack ts (i + 1) c) (sym (set_other r.latest b c (i + 1) (λ z. q (sym z)))) (leads_on ts i c (get_or r.latest c 0) low (λ z. q (z ∙ sym e)) (h.latest c l))
      ];
      before = λ p l. elim (ℕ_discrete p i) [
        | yes q ↦ subst (λ k. LeadsBack ts k (bucket (token_at ts k)) (get_or (slice_set r.before i (get_or r.latest b 0)) k 0)) (sym q)
            (subst (LeadsBack ts i (bucket (token_at ts i)))
            (sym (set_here r.before i (get_or r.latest b 0) (omega (arith, h.tokens)))) (subst (λ k. LeadsBack ts i k (get_or r.latest b 0)) e (h.latest b (omega (arith, e)))))
        | no q ↦ subst (LeadsBack ts p (bucket (token_at ts p))) (sym (set_other r.before i p (get_or r.latest b 0) (λ z. q (sym z)))) (h.before p (below p i l q))
      ];
    }
  where
    below : (p i : ℕ) → p < i + 1 → p ≢ i → p < i
    below p i l q = elim (cases_lt p i) [
      | inl z ↦ z
      | inr z ↦ absurd (q (omega arith))
    ]
