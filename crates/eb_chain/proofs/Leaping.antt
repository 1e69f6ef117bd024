-- Leaps: rows of postings one place after the other, and what a walk may skip.
use Rattle.std.proofs.Common.{◌≡◌, ℕ, zero, suc, ◌+◌, ◌-◌, ◌*◌, ◌^◌, ◌<◌, ◌≤◌, inl, inr, true, false, List, [], ◌∷◌}
use Rattle.std.proofs.Common.{length, take, reverse, get_or, refl, ap, sym, ◌∙◌, subst, arith, nat_le, nat_lt, ◌&&◌}
use Rattle.std.proofs.lemmas.Bool.{cases_Bool, cases_lt}
use Rattle.std.proofs.lemmas.Bool.Decides.{nat_tests}
use Rattle.std.proofs.Math.Nat.{pow-succ'}
use Rattle.eb_base.specs.Term.{Term}
use Rattle.eb_place.specs.declared.moment.Moment.{Moment}
use Rattle.eb_place.specs.Address.{pool_at, offset_at, slice_start, begins, address_of}
use Rattle.eb_place.specs.Postings.{terms_of, at_most}
use Rattle.eb_place.specs.Moments.{IsMoment}
use Rattle.eb_place.specs.Later.{IsNotBefore}
use Rattle.eb_place.specs.Seen.{segment}
use Rattle.eb_place.specs.Walk.{IsAddress, posting_in}
use Rattle.eb_place.proofs.AddressesDiffer.{start_le}
use Rattle.eb_place.proofs.ReaderWords.{Parts, address_parts, address_small}
use Rattle.eb_place.proofs.ReachedWordsStay.{address_later, later_posting}
use Rattle.eb_place.proofs.PostingsFall.{RisesFrom}
use Rattle.eb_place.proofs.WayBackFromPosting.{told, reverse_take}
use Rattle.eb_chain.specs.declared.leaps.Found.{Found}
use Rattle.eb_chain.specs.Chains.{next_loads}
use Rattle.eb_chain.specs.Leaps.{slices_in_use, walk_loads, IsRow, IsOldest, IsNewest}

-- ---- rows at later moments

pub row_later : (m n : Moment) (s : ℕ) (t : Term) (b o span : ℕ) → IsMoment m → IsNotBefore n m → IsRow m s t b o span → IsRow n s t b o span
row_later m n s t b o span is l h = record { places = λ p k. address_later m n s t (b + p) (o + p) is l (h.places p k); short = h.short }

-- the postings of a row are the same later
pub row_stays : (m n : Moment) (s : ℕ) (t : Term) (b o span p : ℕ) → IsNotBefore n m → IsRow m s t b o span → p ≤ span → posting_in n s t (b + p) ≡ posting_in m s t (b + p)
row_stays m n s t b o span p l h k = later_posting m n s t (b + p) l (h.places p k).reached

pub newest_as : (m n : Moment) (s : ℕ) (t : Term) (b span most : ℕ) (x : Found)
    → ((p : ℕ) → p ≤ span → posting_in n s t (b + p) ≡ posting_in m s t (b + p)) → IsNewest m s t b span most x → IsNewest n s t b span most x
newest_as m n s t b span most x same h =
    record {
      within = h.within;
      is = h.is ∙ sym (same x.at h.within);
      few = h.few;
      above = λ k. omega (arith, h.above k, same (suc x.at) (omega arith));
    }

-- the first of a row
pub row_first : (m : Moment) (s : ℕ) (t : Term) (b o span : ℕ) → IsRow m s t b o span → IsAddress m s t b o
row_first m s t b o span h = subst (λ (z : ℕ × ℕ). IsAddress m s t z.0 z.1) (λ i. ((let q : b + 0 ≡ b = omega arith in q) i, (let q : o + 0 ≡ o = omega arith in q) i)) (h.places 0 (omega arith))

pub row_head : (m n : Moment) (s : ℕ) (t : Term) (b o span : ℕ) → IsNotBefore n m → IsRow m s t b o span → posting_in n s t b ≡ posting_in m s t b
row_head m n s t b o span l h = later_posting m n s t b l (row_first m s t b o span h).reached

-- an address of a row has 32 bits
pub row_small : (m : Moment) (s : ℕ) (t : Term) (b o span p : ℕ) → IsMoment m → IsRow m s t b o span → p ≤ span → o + p < 2 ^ 32
row_small m s t b o span p is h k = let a = h.places p k in omega (arith, a.is, address_small m s t (b + p) is a.inside a.reached)

-- ---- powers of 2

pub power_some : (i : ℕ) → 1 ≤ 2 ^ i
power_some zero = omega arith
power_some (suc i) = omega (arith, pow-succ' 2 i, power_some i)

pub power_next : (i : ℕ) → 2 ^ suc i ≡ 2 * 2 ^ i
power_next i = pow-succ' 2 i

-- the half of a range has one digit less
pub halves : (w c : ℕ) → 2 ≤ w → w ≤ 2 ^ c → (d : ℕ) × (c ≡ suc d) × (w ≤ 2 * 2 ^ d)
halves w zero h k = absurd (omega arith)
halves w (suc d) h k = (d, refl, omega (arith, power_next d))

-- ---- rising postings

rises_above : (lo : ℕ) (xs : List ℕ) (j : ℕ) → RisesFrom lo xs → j < length xs → lo ≤ get_or xs j 0
rises_above lo [] j r h = absurd (omega (arith, h))
rises_above lo (x ∷ xs) zero r h = r.0
rises_above lo (x ∷ xs) (suc j) r h = omega (arith, r.0, rises_above (suc x) xs j r.1 (omega (arith, h)))

pub rises_get : (lo : ℕ) (xs : List ℕ) (i j : ℕ) → RisesFrom lo xs → i < j → j < length xs → get_or xs i 0 < get_or xs j 0
rises_get lo [] i j r h k = absurd (omega (arith, k))
rises_get lo (x ∷ xs) i zero r h k = absurd (omega (arith, h))
rises_get lo (x ∷ xs) zero (suc j) r h k = rises_above (suc x) xs j r.1 (omega (arith, k))
rises_get lo (x ∷ xs) (suc i) (suc j) r h k = rises_get (suc x) xs i j r.1 (omega (arith, h)) (omega (arith, k))

-- ---- what is skipped

pub at_most_in : (most x : ℕ) (xs : List ℕ) → x ≤ most → at_most most (x ∷ xs) ≡ x ∷ xs
at_most_in most x xs h = grind (arith, nat_tests)

pub at_most_past : (most x : ℕ) (xs : List ℕ) → most < x → at_most most (x ∷ xs) ≡ at_most most xs
at_most_past most x xs h = grind (arith, nat_tests)

-- the newest d of the first i + d, where the oldest of them is above the number
pub passes : (ps : List ℕ) (lo most i d : ℕ) → RisesFrom lo ps → i + d ≤ length ps → (1 ≤ d → most < get_or ps i 0) → at_most most (reverse (take (i + d) ps)) ≡ at_most most (reverse (take i ps))
passes ps lo most i zero r h k = ap (λ j. at_most most (reverse (take j ps))) (let q : i + 0 ≡ i = omega arith in q)
passes ps lo most i (suc d) r h k =
    let above : most < get_or ps (i + d) 0 = elim (cases_lt 0 d) [
      | inl some ↦ omega (arith, k (omega arith), rises_get lo ps i (i + d) r (omega (arith, some)) (omega (arith, h)))
      | inr zero_is ↦ let e : i + d ≡ i = omega (arith, zero_is) in omega (arith, k (omega arith), ap (λ j. get_or ps j 0) e)
    ] in
    ap (λ j. at_most most (reverse (take j ps))) (let q : i + suc d ≡ suc (i + d) = omega arith in q)
    ∙ ap (at_most most) (reverse_take (i + d) ps (omega (arith, h))) ∙ at_most_past most (get_or ps (i + d) 0) (reverse (take (i + d) ps)) above
    ∙ passes ps lo most i d r (omega (arith, h)) (λ j. k (omega arith))

-- ---- a slice is a row

pub span_is : (g : ℕ) → (pool_at g ≡ 0 → offset_at g + slice_start g ≡ g) × (1 ≤ pool_at g → offset_at g + slice_start g ≡ g + 1) × (g ≤ slice_start g + 2046)
unfolding pool_at offset_at slice_start
span_is g = elim (cases_lt g 2) [
  | inl a ↦ (λ h. grind (arith, nat_tests), λ h. grind (arith, nat_tests), grind (arith, nat_tests))
  | inr a ↦ elim (cases_lt g 17) [
    | inl b ↦ (λ h. grind (arith, nat_tests), λ h. grind (arith, nat_tests), grind (arith, nat_tests))
    | inr b ↦ elim (cases_lt g 144) [
      | inl c ↦ (λ h. grind (arith, nat_tests), λ h. grind (arith, nat_tests), grind (arith, nat_tests))
      | inr c ↦ (λ h. grind (arith, nat_tests), λ h. grind (arith, nat_tests), grind (arith, nat_tests))
    ]
  ]
]

same_slice : (g x : ℕ) → slice_start g ≤ x → x ≤ g → (pool_at x ≡ pool_at g) × (slice_start x ≡ slice_start g) × (offset_at x + (g - x) ≡ offset_at g)
unfolding pool_at offset_at slice_start
same_slice g x = elim (cases_lt g 2) [
  | inl a ↦ λ h k. (grind (arith, nat_tests), grind (arith, nat_tests), grind (arith, nat_tests))
  | inr a ↦ elim (cases_lt g 17) [
    | inl b ↦ λ h k. (grind (arith, nat_tests), grind (arith, nat_tests), grind (arith, nat_tests))
    | inr b ↦ elim (cases_lt g 144) [
      | inl c ↦ λ h k. (grind (arith, nat_tests), grind (arith, nat_tests), grind (arith, nat_tests))
      | inr c ↦ λ h k. (grind (arith, nat_tests), grind (arith, nat_tests), grind (arith, nat_tests))
    ]
  ]
]

address_back : (t : Term) (g x : ℕ) (ts : List Term) → slice_start g ≤ x → x ≤ g → address_of t x ts + (g - x) ≡ address_of t g ts
unfolding address_of
address_back t g x ts h k = let w = same_slice g x h k in rw (w.0, w.1) (omega (arith, w.2))

-- the slice of a posting, from the one that begins it to this one
pub row_of : (m : Moment) (s : ℕ) (t : Term) (g a o : ℕ) → IsMoment m → IsAddress m s t g a → IsOldest a o → IsRow m s t (slice_start g) o (a - o) × (a ≡ o + (g - slice_start g))
row_of m s t g a o is h b =
    let low = start_le g in
    let p = subst (Parts g) (sym h.is) (address_parts m s t g is h.inside h.reached) in
    let k = told g a p in
    let z = span_is g in
    let e : a ≡ o + (g - slice_start g) = elim (cases_lt 0 (pool_at g)) [
      | inl high ↦ omega (arith, b.linked (omega (arith, k.0, high)), k.1, z.1 (omega (arith, high)), low)
      | inr zero_is ↦ omega (arith, b.plain (omega (arith, k.0, zero_is)), k.1, z.0 (omega (arith, zero_is)), low)
    ] in (
      record {
        places = λ p l. record {
          inside = h.inside;
          reached = let r = h.reached in omega (arith, e, l, low, r);
          is = omega (arith, h.is, e, l, low, address_back t g (slice_start g + p) (terms_of (segment m s)) (omega arith) (omega (arith, e, l, low)));
        };
        short = omega (arith, e, z.2);
      },
      e,
    )

-- ---- slices in use, and the loads of a walk

pub slices_same : (g x : ℕ) → slice_start g ≤ x → x ≤ g → slices_in_use (suc x) ≡ slices_in_use (suc g)
unfolding slices_in_use slice_start
slices_same g x = elim (cases_lt g 2) [
  | inl a ↦ λ h k. grind (arith, nat_tests)
  | inr a ↦ elim (cases_lt g 17) [
    | inl b ↦ λ h k. grind (arith, nat_tests)
    | inr b ↦ elim (cases_lt g 144) [
      | inl c ↦ λ h k. grind (arith, nat_tests)
      | inr c ↦ λ h k. grind (arith, nat_tests)
    ]
  ]
]

pub slices_before : (g : ℕ) → slices_in_use (suc g) ≡ slices_in_use (slice_start g) + 1
unfolding slices_in_use slice_start
slices_before g = elim (cases_lt g 2) [
  | inl a ↦ grind (arith, nat_tests)
  | inr a ↦ elim (cases_lt g 17) [
    | inl b ↦ grind (arith, nat_tests)
    | inr b ↦ elim (cases_lt g 144) [
      | inl c ↦ grind (arith, nat_tests)
      | inr c ↦ grind (arith, nat_tests)
    ]
  ]
]

next_some : (opened f : ℕ) → 1 ≤ next_loads opened (suc f)
unfolding next_loads
next_some opened f = elim (cases_Bool (nat_lt (suc f) opened && begins (suc f) && nat_le 1 (pool_at (suc f)))) [ inl e ↦ rw e (omega arith) | inr e ↦ rw e (omega arith) ]

-- each call takes a load
pub walk_some : (opened f n : ℕ) → n ≤ f → n ≤ walk_loads opened f n
unfolding walk_loads
walk_some opened f zero h = omega arith
walk_some opened zero (suc n) h = absurd (omega (arith, h))
walk_some opened (suc f) (suc n) h = omega (arith, next_some opened f, walk_some opened f n (omega (arith, h)))

pub walk_first : (opened f n : ℕ) → n ≤ f → next_loads opened (suc f) + n ≤ walk_loads opened (suc f) (suc n)
unfolding walk_loads
walk_first opened f n h = omega (arith, walk_some opened f n h)

-- the loads of some calls, and then of more
pub walk_more : (opened f a b : ℕ) → a ≤ f → walk_loads opened f (a + b) ≡ walk_loads opened f a + walk_loads opened (f - a) b
unfolding walk_loads
walk_more opened f zero b h = let e : 0 + b ≡ b = omega arith in let k : f - 0 ≡ f = omega arith in rw (e, k) (omega arith)
walk_more opened zero (suc a) b h = absurd (omega (arith, h))
walk_more opened (suc f) (suc a) b h =
    let e : suc a + b ≡ suc (a + b) = omega arith in
    let k : suc f - suc a ≡ f - a = omega arith in
    rw (e, k) (omega (arith, walk_more opened f a b (omega (arith, h))))

-- ---- a whole walk

begun : (f : ℕ) → begins f ≡ true → slice_start f ≡ f
unfolding slice_start
begun f h = grind (arith, nat_tests)

not_begun : (f : ℕ) → begins (suc f) ≡ false → slice_start (suc f) ≤ f
unfolding slice_start
not_begun f h = grind (arith, nat_tests)

slices_none : slices_in_use 0 ≡ 0
unfolding slices_in_use
slices_none = refl

slices_grow_one : (f : ℕ) → slices_in_use f ≤ slices_in_use (suc f)
slices_grow_one zero = omega (arith, slices_none)
slices_grow_one (suc f) = let e = slices_before (suc f) in elim (cases_Bool (begins (suc f))) [
  | inl new ↦ let s : slice_start (suc f) ≡ suc f = begun (suc f) new in omega (arith, e, ap slices_in_use s)
  | inr old ↦ omega (arith, slices_same (suc f) f (not_begun f old) (omega arith))
]

pub slices_grow : (f g : ℕ) → f ≤ g → slices_in_use f ≤ slices_in_use g
slices_grow f zero h = let e : f ≡ 0 = omega (arith, h) in omega (arith, ap slices_in_use e)
slices_grow f (suc g) h = elim (cases_lt g f) [
  | inl top ↦ let e : f ≡ suc g = omega (arith, h, top) in omega (arith, ap slices_in_use e)
  | inr low ↦ omega (arith, slices_grow f g low, slices_grow_one g)
]

at_one : (opened f : ℕ) → begins (suc f) ≡ false → next_loads opened (suc f) ≡ 1
unfolding next_loads
at_one opened f old = grind (arith, nat_tests)

at_two : (opened f : ℕ) → next_loads opened (suc f) ≤ 2
unfolding next_loads
at_two opened f = elim (cases_Bool (nat_lt (suc f) opened && begins (suc f) && nat_le 1 (pool_at (suc f)))) [ inl e ↦ rw e (omega arith) | inr e ↦ rw e (omega arith) ]

next_few : (opened f : ℕ) → next_loads opened (suc f) + slices_in_use (suc f) ≤ slices_in_use (suc (suc f)) + 1
next_few opened f = elim (cases_Bool (begins (suc f))) [
  | inl new ↦ let s : slice_start (suc f) ≡ suc f = begun (suc f) new in omega (arith, slices_before (suc f), ap slices_in_use s, at_two opened f)
  | inr old ↦ omega (arith, slices_grow_one (suc f), at_one opened f old)
]

one_slice : 1 ≤ slices_in_use 1
unfolding slices_in_use
one_slice = grind (arith, nat_tests)

-- f calls take as many loads, and one for each slice but the last
walk_part : (opened f : ℕ) → walk_loads opened f f + 1 ≤ f + slices_in_use (suc f)
unfolding walk_loads
walk_part opened zero = omega (arith, one_slice)
walk_part opened (suc f) = omega (arith, walk_part opened f, next_few opened f)

first_loads : (f : ℕ) → next_loads (suc f) (suc f) ≡ 1
unfolding next_loads
first_loads f = grind (arith, nat_tests)

-- all calls of a chain that was opened for k postings take at most k loads and one for each slice
-- in use
pub walk_all : (k : ℕ) → walk_loads k k k ≤ k + slices_in_use k
unfolding walk_loads
walk_all zero = omega arith
walk_all (suc f) = omega (arith, walk_part (suc f) f, first_loads f)
