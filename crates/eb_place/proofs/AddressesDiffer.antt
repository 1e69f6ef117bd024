-- Two postings of a segment have two addresses.
use Rattle.std.proofs.Common.{◌≡◌, ℕ, zero, suc, ◌+◌, ◌*◌, ◌^◌, ◌<◌, ◌≤◌, ◌⊎◌, true, false, List, [], ◌∷◌, ◌++◌, refl, ap, sym, ◌∙◌, subst, append_assoc, arith, inl, inr, bytes_eq}
use Rattle.std.proofs.lemmas.Bool.{cases_Bool, cases_lt, and_from, eq-eqb}
use Rattle.std.proofs.lemmas.Bool.Decides.{nat_tests}
use Rattle.std.proofs.lemmas.Nat.{same_from_place, mul-le}
use Rattle.eb_base.specs.Term.{Term}
use Rattle.eb_place.specs.Layout.{address_number, slice_bits}
use Rattle.eb_place.specs.Postings.{count_of}
use Rattle.eb_place.specs.Address.{pool_at, offset_at, slice_start, begins_in, slices_begun, front_of, address_of}
use Rattle.eb_place.proofs.TermCounts.{one_if, same_from_test, count_of-nil, count_of-cons, begun_after-append, begun_push}

-- the prefix of a list with one more element before it
pub front_away : (t u : Term) (n : ℕ) (us : List Term) → bytes_eq t u ≡ false → front_of t n (u ∷ us) ≡ u ∷ front_of t n us
unfolding front_of
front_away t u zero us h = rw h refl
front_away t u (suc n) us h = rw h refl

-- there is nothing before the first of a term that heads the list
pub front_first : (t u : Term) (us : List Term) → bytes_eq t u ≡ true → front_of t 0 (u ∷ us) ≡ []
unfolding front_of
front_first t u us h = rw h refl

-- the head is before a later one
pub front_later : (t u : Term) (n : ℕ) (us : List Term) → bytes_eq t u ≡ true → front_of t (suc n) (u ∷ us) ≡ u ∷ front_of t n us
unfolding front_of
front_later t u n us h = rw h refl

split_cons : (t u : Term) (us f g rest : List Term) → f ≡ u ∷ g → us ≡ g ++ t ∷ rest → u ∷ us ≡ f ++ t ∷ rest
split_cons t u us f g rest e h = rw e (ap (λ (x : List Term). u ∷ x) h)

-- the list goes on with the term after the prefix
pub front_split : (t : Term) (n : ℕ) (ts : List Term) → n < count_of t ts → (rest : List Term) × (ts ≡ front_of t n ts ++ t ∷ rest)
front_split t n [] h = let e = count_of-nil t in absurd (omega arith)
front_split t zero (u ∷ us) h = let d = count_of-cons t u us in elim (cases_Bool (bytes_eq t u)) [
  | inl here ↦ (us, rw (front_first t u us here) (ap (λ (x : Term). x ∷ us) (sym (same_from_test t u here))))
  | inr away ↦ let d' = rw away at d in let r = front_split t zero us (omega arith) in (r.0, split_cons t u us _ _ r.0 (front_away t u zero us away) r.1)
]
front_split t (suc n) (u ∷ us) h = let d = count_of-cons t u us in elim (cases_Bool (bytes_eq t u)) [
  | inl here ↦ let d' = rw here at d in let r = front_split t n us (omega arith) in (r.0, split_cons t u us _ _ r.0 (front_later t u n us here) r.1)
  | inr away ↦ let d' = rw away at d in let r = front_split t (suc n) us (omega arith) in (r.0, split_cons t u us _ _ r.0 (front_away t u (suc n) us away) r.1)
]

-- the prefix has n of the term
pub front_count : (t : Term) (n : ℕ) (ts : List Term) → n < count_of t ts → count_of t (front_of t n ts) ≡ n
unfolding count_of front_of
front_count t n [] h = absurd (omega arith)
front_count t zero (u ∷ us) h = elim (cases_Bool (bytes_eq t u)) [
  | inl here ↦ rw here refl
  | inr away ↦ rw (away, away) (let h' = rw away at h in omega (arith, front_count t zero us (omega arith)))
]
front_count t (suc n) (u ∷ us) h = elim (cases_Bool (bytes_eq t u)) [
  | inl here ↦ rw here (let h' = rw here at h in omega (arith, front_count t n us (omega arith)))
  | inr away ↦ rw away (let h' = rw away at h in omega (arith, front_count t (suc n) us (omega arith)))
]

-- two prefixes of one list are one, or the longer goes on with the shorter's next element
pub two_fronts : (xs ys xs' ys' : List Term) (x y : Term) → xs ++ x ∷ xs' ≡ ys ++ y ∷ ys' →
    ((xs ≡ ys) × (x ≡ y)) ⊎ (((c : List Term) × (ys ≡ xs ++ x ∷ c)) ⊎ ((c : List Term) × (xs ≡ ys ++ y ∷ c)))
two_fronts [] [] xs' ys' x y e = inl (refl, cc)
two_fronts [] (b ∷ ys) xs' ys' x y e = inr (inl (ys, cc))
two_fronts (a ∷ xs) [] xs' ys' x y e = inr (inr (xs, cc))
two_fronts (a ∷ xs) (b ∷ ys) xs' ys' x y e = elim (two_fronts xs ys xs' ys' x y cc) [
  | inl w ↦ inl (cc, w.1)
  | inr w ↦ elim w [
    | inl v ↦ inr (inl (v.0, cc))
    | inr v ↦ inr (inr (v.0, cc))
  ]
]

-- a slice is begun by its own posting or an earlier one
pub start_le : (f : ℕ) → slice_start f ≤ f
unfolding pool_at offset_at slice_start
start_le f = grind (arith, nat_tests)

start_pool : (f : ℕ) → pool_at (slice_start f) ≡ pool_at f
unfolding pool_at offset_at slice_start
start_pool f = grind (arith, nat_tests)

start_start : (f : ℕ) → slice_start (slice_start f) ≡ slice_start f
unfolding pool_at offset_at slice_start
start_start f = grind (arith, nat_tests)

-- the posting that begins a slice begins one of its pool
pub start_begins : (f : ℕ) → begins_in (pool_at f) (slice_start f) ≡ true
start_begins f = and_from _ _ (eq-eqb _ _ (start_start f)) (eq-eqb _ _ (start_pool f))

-- a posting is known by its slice and its offset
pub same_number : (f g : ℕ) → slice_start f ≡ slice_start g → offset_at f ≡ offset_at g → f ≡ g
unfolding pool_at offset_at slice_start
same_number f g e h = grind (arith, nat_tests)

-- an offset lies in a slice of its pool
pub offset_in : (f : ℕ) → offset_at f < 2 ^ slice_bits (pool_at f)
unfolding pool_at offset_at slice_start
offset_in f = elim (cases_lt f 2) [
  | inl a ↦ grind (arith, nat_tests)
  | inr a ↦ elim (cases_lt f 17) [
    | inl b ↦ grind (arith, nat_tests)
    | inr b ↦ elim (cases_lt f 144) [
      | inl c ↦ grind (arith, nat_tests)
      | inr c ↦ grind (arith, nat_tests)
    ]
  ]
]

-- a token that begins a slice is counted from then on
pub slice_same : (p : ℕ) (xs ts : List Term) (t : Term) (rest : List Term) → begins_in p (count_of t xs) ≡ true → ts ≡ xs ++ t ∷ rest → slices_begun p xs < slices_begun p ts
slice_same p xs ts t rest b e = let s : slices_begun p (xs ++ t ∷ rest) ≡ slices_begun p ((xs ++ t ∷ []) ++ rest) = ap (slices_begun p) (sym (append_assoc xs (t ∷ []) rest)) in
    let n = ap one_if b in
    rw e (omega (arith, s, begun_push p xs t, begun_after-append p [] (xs ++ t ∷ []) rest))

-- a slice of a pool is begun by one token
pub slice_once : (p : ℕ) (ts : List Term) (t u : Term) (f g : ℕ) → f < count_of t ts → g < count_of u ts → begins_in p f ≡ true → begins_in p g ≡ true →
    slices_begun p (front_of t f ts) ≡ slices_begun p (front_of u g ts) → (t ≡ u) × (f ≡ g)
slice_once p ts t u f g hf hg bf bg e =
    let a = front_split t f ts hf in
    let b = front_split u g ts hg in
    let ca = front_count t f ts hf in
    let cb = front_count u g ts hg in
    let bf' : begins_in p (count_of t (front_of t f ts)) ≡ true = rw ca bf in
    let bg' : begins_in p (count_of u (front_of u g ts)) ≡ true = rw cb bg in
    elim (two_fronts _ _ _ _ t u (sym a.1 ∙ b.1)) [
      | inl w ↦ (w.1, sym ca ∙ ap (count_of t) w.0 ∙ ap (λ (x : Term). count_of x (front_of u g ts)) w.1 ∙ cb)
      | inr w ↦ elim w [
        | inl v ↦ absurd (let l = slice_same p _ _ t v.0 bf' v.1 in omega arith)
        | inr v ↦ absurd (let l = slice_same p _ _ u v.0 bg' v.1 in omega arith)
      ]
    ]

-- an address has one pool, one slice and one offset
pub address_fields : (p q a b o r : ℕ) → o < 2 ^ slice_bits p → r < 2 ^ slice_bits q → a * 2 ^ slice_bits p + o < 2 ^ 30 → b * 2 ^ slice_bits q + r < 2 ^ 30 →
    address_number p a o ≡ address_number q b r → (p ≡ q) × (a ≡ b) × (o ≡ r)
address_fields p q a b o r ho hr ha hb e =
    let w = same_from_place p (a * 2 ^ slice_bits p + o) q (b * 2 ^ slice_bits q + r) (2 ^ 30) ha hb (omega (arith, e)) in
    let z = ap (λ k. 2 ^ slice_bits k) w.0 in
    let hr' : r < 2 ^ slice_bits p = omega (arith, hr, z) in
    let i : b * 2 ^ slice_bits q ≡ b * 2 ^ slice_bits p = ap (λ n. b * n) (sym z) in
    let v = same_from_place a o b r (2 ^ slice_bits p) ho hr' (w.1 ∙ omega (arith, i)) in
    (w.0, v.0, v.1)

-- few enough slices for an address
abbrev pub SlicesFit : List Term → Type 0
SlicesFit ts = (p : ℕ) → p < 4 → slices_begun p ts * 2 ^ slice_bits p ≤ 2 ^ 30

-- there are four pools
pub pool_low : (f : ℕ) → pool_at f < 4
unfolding pool_at offset_at slice_start
pool_low f = grind (arith, nat_tests)

-- where a posting is there, so is the one that begins its slice
pub start_in : (f n : ℕ) → f < n → slice_start f < n
start_in f n h = omega (arith, start_le f)

-- the place of a posting's word in its pool has 30 bits
pub slice_in : (t : Term) (f : ℕ) (ts : List Term) → f < count_of t ts → SlicesFit ts → slices_begun (pool_at f) (front_of t (slice_start f) ts) * 2 ^ slice_bits (pool_at f) + offset_at f < 2 ^ 30
slice_in t f ts h fit =
    let a = front_split t (slice_start f) ts (start_in f _ h) in
    let b : begins_in (pool_at f) (count_of t (front_of t (slice_start f) ts)) ≡ true = rw (front_count t (slice_start f) ts (start_in f _ h)) (start_begins f) in
    let l = slice_same (pool_at f) _ ts t a.0 b a.1 in
    let m = fit (pool_at f) (pool_low f) in
    let o = offset_in f in
    let x = slices_begun (pool_at f) (front_of t (slice_start f) ts) in
    let y = 2 ^ slice_bits (pool_at f) in
    let prod : (x + 1) * y ≤ slices_begun (pool_at f) ts * y = mul-le (x + 1) y (slices_begun (pool_at f) ts) y (omega arith) (omega arith) in
    omega (arith, prod)

-- two postings of a segment have two addresses
pub address_once : (ts : List Term) (t u : Term) (f g : ℕ) → f < count_of t ts → g < count_of u ts → SlicesFit ts → address_of t f ts ≡ address_of u g ts → (t ≡ u) × (f ≡ g)
unfolding address_of
address_once ts t u f g hf hg fit e =
    let w = address_fields (pool_at f) (pool_at g) _ _ (offset_at f) (offset_at g) (offset_in f) (offset_in g) (slice_in t f ts hf fit) (slice_in u g ts hg fit) e in
    let bf : begins_in (pool_at f) (slice_start f) ≡ true = start_begins f in
    let bg : begins_in (pool_at f) (slice_start g) ≡ true = subst (λ p. begins_in p (slice_start g) ≡ true) (sym w.0) (start_begins g) in
    let s : slices_begun (pool_at f) (front_of t (slice_start f) ts) ≡ slices_begun (pool_at f) (front_of u (slice_start g) ts) = w.1
    ∙ ap (λ p. slices_begun p (front_of u (slice_start g) ts)) (sym w.0) in
    let v = slice_once (pool_at f) ts t u (slice_start f) (slice_start g) (start_in f _ hf) (start_in g _ hg) bf bg s in
    (v.0, same_number f g v.1 w.2)

-- what is before a token stays when more tokens come
pub front_stays : (t : Term) (n : ℕ) (xs ys : List Term) → n < count_of t xs → front_of t n (xs ++ ys) ≡ front_of t n xs
front_stays t n [] ys h = let e = count_of-nil t in absurd (omega arith)
front_stays t zero (u ∷ us) ys h = let d = count_of-cons t u us in elim (cases_Bool (bytes_eq t u)) [
  | inl here ↦ front_first t u (us ++ ys) here ∙ sym (front_first t u us here)
  | inr away ↦ let d' = rw away at d in front_away t u 0 (us ++ ys) away ∙ ap (λ (x : List Term). u ∷ x) (front_stays t zero us ys (omega arith)) ∙ sym (front_away t u 0 us away)
]
front_stays t (suc n) (u ∷ us) ys h = let d = count_of-cons t u us in elim (cases_Bool (bytes_eq t u)) [
  | inl here ↦ let d' = rw here at d in front_later t u n (us ++ ys) here ∙ ap (λ (x : List Term). u ∷ x) (front_stays t n us ys (omega arith)) ∙ sym (front_later t u n us here)
  | inr away ↦ let d' = rw away at d in front_away t u (suc n) (us ++ ys) away ∙ ap (λ (x : List Term). u ∷ x) (front_stays t (suc n) us ys (omega arith)) ∙ sym (front_away t u (suc n) us away)
]

-- later tokens leave the address of a posting as it is
pub address_stays : (t : Term) (f : ℕ) (xs ys : List Term) → f < count_of t xs → address_of t f (xs ++ ys) ≡ address_of t f xs
unfolding address_of
address_stays t f xs ys h = ap (λ (z : List Term). address_number (pool_at f) (slices_begun (pool_at f) z) (offset_at f)) (front_stays t (slice_start f) xs ys (start_in f _ h))
