-- Which place comes after that of a term's last posting.
use Rattle.std.proofs.Common.{◌≡◌, ℕ, zero, suc, ◌+◌, ◌-◌, ◌*◌, ◌/◌, ◌%◌, ◌^◌, ◌<◌, ◌≤◌, true, false, Some, None, refl, ap, sym, ◌∙◌, subst, arith, inl, inr}
use Rattle.std.proofs.lemmas.Bool.{cases_lt, false≢true}
use Rattle.std.proofs.lemmas.Bool.Decides.{nat_tests}
use Rattle.eb_place.specs.declared.used.Used.{Used}
use Rattle.eb_place.specs.Layout.{address_number, address_pool, address_offset, slice_bits}
use Rattle.eb_place.specs.Address.{pool_at, offset_at, slice_start, begins}
use Rattle.eb_place.proofs.AddressesDiffer.{pool_low}
use Rattle.eb_chain.specs.declared.next_place.NextPlace.{NextPlace}
use Rattle.eb_chain.specs.Needs.{IsTailWord}
use Rattle.eb_chain.specs.NextPlaces.{slices_of, with_slice, HasAddress, IsNextPlace}
use Rattle.eb_chain.proofs.Likes.{last_of_tail, none_of_tail}

-- the pool of the next slice
pub record IsPoolAfter (p q : ℕ) : Type 0 where
  pub three : p ≡ 3 → q ≡ 3
  pub next : p < 3 → q ≡ p + 1

-- the next posting has a place in the slice
room_left : (g : ℕ) → offset_at g + 1 < 2 ^ slice_bits (pool_at g) → begins (suc g) ≡ false
unfolding pool_at offset_at slice_start
room_left g = elim (cases_lt g 2) [
  | inl a ↦ grind (arith, nat_tests)
  | inr a ↦ elim (cases_lt g 17) [
    | inl b ↦ grind (arith, nat_tests)
    | inr b ↦ elim (cases_lt g 144) [
      | inl c ↦ grind (arith, nat_tests)
      | inr c ↦ grind (arith, nat_tests)
    ]
  ]
]

-- the next posting begins a slice
pub record Begins (g : ℕ) : Type 0 where
  pub begins : begins (suc g) ≡ true
  pub offset : offset_at (suc g) ≡ 1
  pub pool : IsPoolAfter (pool_at g) (pool_at (suc g))

slice_full : (g : ℕ) → 2 ^ slice_bits (pool_at g) ≤ offset_at g + 1 → Begins g
unfolding pool_at offset_at slice_start
slice_full g = elim (cases_lt g 2) [
  | inl a ↦ λ h. record { begins = grind (arith, nat_tests); offset = grind (arith, nat_tests); pool = record { three = λ q. grind (arith, nat_tests); next = λ q. grind (arith, nat_tests) } }
  | inr a ↦ elim (cases_lt g 17) [
    | inl b ↦ λ h. record { begins = grind (arith, nat_tests); offset = grind (arith, nat_tests); pool = record { three = λ q. grind (arith, nat_tests); next = λ q. grind (arith, nat_tests) } }
    | inr b ↦ elim (cases_lt g 144) [
      | inl c ↦ λ h. record { begins = grind (arith, nat_tests); offset = grind (arith, nat_tests); pool = record { three = λ q. grind (arith, nat_tests); next = λ q. grind (arith, nat_tests) } }
      | inr c ↦ λ h. record { begins = grind (arith, nat_tests); offset = grind (arith, nat_tests); pool = record { three = λ q. grind (arith, nat_tests); next = λ q. grind (arith, nat_tests) } }
    ]
  ]
]

pools_after : (p q r : ℕ) → p < 4 → IsPoolAfter p q → IsPoolAfter p r → q ≡ r
pools_after p q r l a b = elim (cases_lt p 3) [
  | inl low ↦ a.next low ∙ sym (b.next low)
  | inr high ↦ let e : p ≡ 3 = omega arith in a.three e ∙ sym (b.three e)
]

first_begins : (begins 0 ≡ true) × (pool_at 0 ≡ 0) × (offset_at 0 ≡ 0)
unfolding pool_at offset_at slice_start
first_begins = (refl, refl, refl)

-- the first posting of a term
pub next_first : (f tail : ℕ) (u : Used) (r : NextPlace) → tail ≡ 0 → IsTailWord f tail
    → r.address ≡ address_number 0 (slices_of u 0) 0 → r.link ≡ None → r.used ≡ with_slice u 0 → IsNextPlace f tail u r
next_first f tail u r z h a l w = subst (λ k. IsNextPlace k tail u r) (sym (none_of_tail f tail z h)) (record {
  within = λ b. absurd (false≢true (sym b ∙ first_begins.0));
  first = λ b. (
    a ∙ (λ i. address_number (sym first_begins.1 i) (slices_of u (sym first_begins.1 i)) (sym first_begins.2 i)),
    w ∙ ap (with_slice u) (sym first_begins.1),
  );
  linked = λ b o. absurd (let p = first_begins.1 in omega arith);
  unlinked = λ b o. l;
})

-- the room for it
pub first_room : (f tail : ℕ) (u : Used) → tail ≡ 0 → IsTailWord f tail → HasAddress f u → slices_of u 0 * 2 ^ slice_bits 0 + 0 < 2 ^ 30
first_room f tail u z h room =
    let room0 = subst (λ k. HasAddress k u) (none_of_tail f tail z h) room first_begins.0 in
    subst (λ (w : ℕ × ℕ). slices_of u w.0 * 2 ^ slice_bits w.0 + w.1 < 2 ^ 30) (λ i. (first_begins.1 i, first_begins.2 i)) room0

-- a further one of a slice
pub next_within : (f tail : ℕ) (u : Used) (r : NextPlace) → 1 ≤ tail → IsTailWord f tail
    → address_offset (tail - 1) + 1 < 2 ^ slice_bits (address_pool (tail - 1)) → r.address ≡ tail → r.link ≡ None → r.used ≡ u → IsNextPlace f tail u r
next_within f tail u r some h left a l w =
    let g = last_of_tail f tail some h in
    let p = g.2.pool in
    let o = g.2.offset in
    let not : begins (suc g.0) ≡ false = room_left g.0 (subst (λ (z : ℕ × ℕ). z.1 + 1 < 2 ^ slice_bits z.0) (λ i. (p i, o i)) left) in
    subst (λ k. IsNextPlace k tail u r) (sym g.1) (record {
      within = λ b. (a, l, w);
      first = λ b. absurd (false≢true (sym not ∙ b));
      linked = λ b q. absurd (false≢true (sym not ∙ b));
      unlinked = λ b q. absurd (false≢true (sym not ∙ b));
    })

-- the first of a linked slice
pub next_slice : (f tail q : ℕ) (u : Used) (r : NextPlace) → 1 ≤ tail → IsTailWord f tail
    → 2 ^ slice_bits (address_pool (tail - 1)) ≤ address_offset (tail - 1) + 1 → IsPoolAfter (address_pool (tail - 1)) q
    → r.address ≡ address_number q (slices_of u q) 1 → r.link ≡ Some (tail - 1) → r.used ≡ with_slice u q → IsNextPlace f tail u r
next_slice f tail q u r some h full after a l w =
    let g = last_of_tail f tail some h in
    let p = g.2.pool in
    let o = g.2.offset in
    let new = slice_full g.0 (subst (λ (z : ℕ × ℕ). 2 ^ slice_bits z.0 ≤ z.1 + 1) (λ i. (p i, o i)) full) in
    let low = pool_low g.0 in
    let same : q ≡ pool_at (suc g.0) = pools_after (pool_at g.0) q (pool_at (suc g.0)) low (subst (λ z. IsPoolAfter z q) p after) new.pool in
    subst (λ k. IsNextPlace k tail u r) (sym g.1) (record {
      within = λ b. absurd (false≢true (sym b ∙ new.begins));
      first = λ b. (
        a ∙ (λ i. address_number (same i) (slices_of u (same i)) (sym new.offset i)),
        w ∙ ap (with_slice u) same,
      );
      linked = λ b x. l;
      unlinked = λ b x. absurd (none_before (address_pool (tail - 1)) q after (omega (arith, p, low)) (omega (arith, same, x)));
    })
  where
    none_before : (p q : ℕ) → IsPoolAfter p q → p < 4 → q ≡ 0 → ⊥
    none_before p q after low z = elim (cases_lt p 3) [
      | inl l ↦ omega (arith, after.next l)
      | inr h ↦ omega (arith, after.three (omega arith))
    ]

-- the room for it
pub slice_room : (f tail q : ℕ) (u : Used) → 1 ≤ tail → IsTailWord f tail → 2 ^ slice_bits (address_pool (tail - 1)) ≤ address_offset (tail - 1) + 1
    → IsPoolAfter (address_pool (tail - 1)) q → HasAddress f u → slices_of u q * 2 ^ slice_bits q + 1 < 2 ^ 30
slice_room f tail q u some h full after room =
    let g = last_of_tail f tail some h in
    let p = g.2.pool in
    let o = g.2.offset in
    let new = slice_full g.0 (subst (λ (z : ℕ × ℕ). 2 ^ slice_bits z.0 ≤ z.1 + 1) (λ i. (p i, o i)) full) in
    let same : pool_at (suc g.0) ≡ q = pools_after (pool_at g.0) (pool_at (suc g.0)) q (pool_low g.0) new.pool (subst (λ z. IsPoolAfter z q) p after) in
    subst (λ (w : ℕ × ℕ). slices_of u w.0 * 2 ^ slice_bits w.0 + w.1 < 2 ^ 30) (λ i. (same i, new.offset i)) (subst (λ k. HasAddress k u) g.1 room new.begins)

-- a slice of the last pool is full at the greatest address
pub last_low : (f tail : ℕ) → 1 ≤ tail → IsTailWord f tail → address_pool (tail - 1) < 4
last_low f tail some h = let g = last_of_tail f tail some h in let p = g.2.pool in let low = pool_low g.0 in omega arith

-- a posting that has a place after it has not the greatest address
pub room_small : (at : ℕ) → address_pool at < 4 → address_offset at + 1 < 2 ^ slice_bits (address_pool at) → at + 1 < 2 ^ 32
room_small at low h = by (at / 2 ^ 30) refl h
  where
    by : (p : ℕ) → at / 2 ^ 30 ≡ p → at % 2 ^ slice_bits p + 1 < 2 ^ slice_bits p → at + 1 < 2 ^ 32
    by zero e l = omega arith
    by (suc zero) e l = omega arith
    by (suc (suc zero)) e l = omega arith
    by (suc (suc (suc zero))) e l = omega arith
    by (suc (suc (suc (suc p)))) e l = absurd (omega arith)

-- there are four pools
pub after_low : (p q : ℕ) → p < 4 → IsPoolAfter p q → q < 4
after_low p q low after = elim (cases_lt p 3) [
  | inl l ↦ omega (arith, after.next l)
  | inr h ↦ omega (arith, after.three (omega arith))
]
