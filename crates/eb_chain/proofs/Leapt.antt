-- What a leap has passed between two slices, and what it gives.
use Rattle.std.proofs.Common.{◌≡◌, ℕ, zero, suc, ◌+◌, ◌-◌, ◌*◌, ◌^◌, ◌<◌, ◌≤◌, inl, inr, Some, None, List, [], ◌∷◌, length, take, reverse, get_or, refl, ap, sym, ◌∙◌, subst, arith}
use Rattle.std.proofs.lemmas.Bool.{cases_lt}
use Rattle.std.proofs.lemmas.List.{length-reverse, length-take-le}
use Rattle.std.proofs.Math.Pow.{pow_mono}
use Rattle.eb_base.specs.Term.{Term}
use Rattle.eb_place.specs.declared.moment.Moment.{Moment}
use Rattle.eb_place.specs.Address.{slice_start}
use Rattle.eb_place.specs.Postings.{postings, at_most}
use Rattle.eb_place.specs.Moments.{IsMoment}
use Rattle.eb_place.specs.Later.{IsNotBefore}
use Rattle.eb_place.specs.Seen.{segment, seen_count}
use Rattle.eb_place.specs.Walk.{IsAddress, posting_in}
use Rattle.eb_place.proofs.AddressesDiffer.{start_le}
use Rattle.eb_place.proofs.ReaderWords.{reached_few, posting_small, Parts, address_parts}
use Rattle.eb_chain.specs.declared.chain.Way.{Way}
use Rattle.eb_chain.specs.declared.chain.Way.TheVariants.{End, At, Link}
use Rattle.eb_chain.specs.declared.chain.Chain.{Chain}
use Rattle.eb_chain.specs.declared.leaps.Found.{Found}
use Rattle.eb_chain.specs.declared.leaps.Look.TheVariants.{Within}
use Rattle.eb_chain.specs.Chains.{IsWay, way_loads, next_loads, IsWayBefore, Stands, Given}
use Rattle.eb_chain.specs.Leaps.{slices_in_use, walk_loads, lead_loads, LeadsTo, IsRow, IsOldest, IsNewest, IsLookLoads, IsLeap, IsShort}
use Rattle.eb_place.specs.Layout.{address_pool, address_offset}
use Rattle.eb_place.proofs.LaterMoments.{later_on}
use Rattle.eb_place.proofs.PostingsFall.{postings_rise}
use Rattle.eb_place.proofs.WayBackFromPosting.{reverse_take, told}
use Rattle.eb_chain.proofs.Walks.{stands_later, way_back}
use Rattle.eb_chain.proofs.Leaping.{passes, at_most_in, rises_get, row_first, row_of, row_later, row_stays, row_head, newest_as}
use Rattle.eb_chain.proofs.Leaping.{span_is, slices_before, slices_same, walk_more, walk_first, power_next, power_some}

-- the first is below the number
abbrev pub IsHeadBelow : ℕ → List ℕ → Type 0
IsHeadBelow above [] = Unit {0}
IsHeadBelow above (x ∷ xs) = x < above

-- between two slices: what is left holds all of the rest that is at or below the number
pub record Leapt (m : Moment) (s : ℕ) (t : Term) (c : Chain) (opened most : ℕ) (rest : List ℕ) (above before after : ℕ) : Type 0 where
  pub left : List ℕ
  pub stands : Stands m s t c opened left
  pub same : at_most most left ≡ at_most most rest
  pub below : IsHeadBelow above left
  pub shorter : length left ≤ length rest
  pub slices : after + 2 * slices_in_use (length left) ≤ before + 2 * slices_in_use (length rest)
  pub walk : after ≤ before + walk_loads opened (length rest) (length rest - length left)

lead_few : (w : Way) → lead_loads w ≤ 1
lead_few End = omega arith
lead_few (At a) = omega arith
lead_few (Link a) = omega arith

-- a way to a posting takes its load besides
lead_one : (m : Moment) (s : ℕ) (t : Term) (f : ℕ) (w : Way) → IsWay m s t (suc f) w → way_loads w ≡ lead_loads w + 1
lead_one m s t f End h = absurd h
lead_one m s t f (At a) h = refl
lead_one m s t f (Link a) h = refl

length_front : (k : ℕ) (ps : List ℕ) → k ≤ length ps → length (reverse (take k ps)) ≡ k
length_front k ps h = length-reverse (take k ps) ∙ length-take-le k ps h

-- before the first slice all is left
pub leapt_start : (m : Moment) (s : ℕ) (t : Term) (c : Chain) (opened most : ℕ) (rest : List ℕ) (steps : ℕ)
    → IsMoment m → Stands m s t c opened rest → Leapt m s t c opened most rest (2 ^ 64 - 1) steps steps
leapt_start m s t c opened most rest steps is h = record {
  left = rest;
  stands = h;
  same = refl;
  below = go rest (let a = h.left in let b = h.seen in omega (arith, a, b, reached_few m s t)) h.postings;
  shorter = omega arith;
  slices = omega arith;
  walk = omega arith;
}
  where
    go : (xs : List ℕ) → length xs ≤ length (postings t (segment m s)) → xs ≡ reverse (take (length xs) (postings t (segment m s))) → IsHeadBelow (2 ^ 64 - 1) xs
    go [] k e = tt
    go (x ∷ xs) k e =
        let hd : x ≡ get_or (postings t (segment m s)) (length xs) 0 = cc (e ∙ reverse_take (length xs) (postings t (segment m s)) (omega (arith, k))) in
        omega (arith, hd, posting_small m s t (length xs) is)

-- the prefix of a segment's postings that a walk still has to give
pub record IsFront (l : Moment) (v : ℕ) (t : Term) (opened : ℕ) (left : List ℕ) (g : ℕ) : Type 0 where
  pub inside : v < l.setting.segments
  pub seen : opened ≤ seen_count l v t
  pub size : length left ≡ suc g
  pub many : suc g ≤ opened
  pub postings : left ≡ reverse (take (suc g) (postings t (segment l v)))

pub front_of : (l : Moment) (v : ℕ) (t : Term) (c : Chain) (opened : ℕ) (left : List ℕ) (g : ℕ) → Stands l v t c opened left → length left ≡ suc g → IsFront l v t opened left g
front_of l v t c opened left g h e = record {
  inside = h.inside;
  seen = h.seen;
  size = e;
  many = let k = h.left in omega (arith, k, e);
  postings = h.postings ∙ ap (λ k. reverse (take k (postings t (segment l v)))) e;
}

-- the chain for the oldest f of them
front_stands : (l : Moment) (v : ℕ) (t : Term) (opened : ℕ) (left : List ℕ) (g f a : ℕ) (w : Way) → IsMoment l → IsFront l v t opened left g → f ≤ g → IsAddress l v t f a → IsWayBefore a w
    → Stands l v t record { segment = v; way = w } opened (reverse (take f (postings t (segment l v))))
front_stands l v t opened left g f a w is h k at b =
    let few = reached_few l v t in
    let seen = h.seen in
    let o = h.many in
    let n = length_front f (postings t (segment l v)) (omega arith) in
    let z = way_back l v t opened f a w is (omega arith) at b in
    record {
      inside = h.inside;
      of_segment = refl;
      seen = h.seen;
      left = omega (arith, n);
      postings = ap (λ j. reverse (take j (postings t (segment l v)))) (sym n);
      way = subst (λ j. IsWay l v t j w) (sym n) z.0;
      loads = z.1 ∙ ap (next_loads opened) (sym n);
    }

-- what is found in a slice is what the call gives
pub found_gives : (l : Moment) (v : ℕ) (t : Term) (opened most : ℕ) (rest left : List ℕ) (g b o span : ℕ) (x : Found) (w : Way)
    → IsMoment l → IsFront l v t opened left g → at_most most left ≡ at_most most rest
    → g ≡ b + span → IsRow l v t b o span → IsNewest l v t b span most x → IsWayBefore (o + x.at) w
    → Given l v t record { segment = v; way = w } opened (at_most most rest) (Some x.posting) × (length (at_most most rest) ≡ suc (b + x.at))
found_gives l v t opened most rest left g b o span x w is h same e row new back =
    let ps : List ℕ = postings t (segment l v) in
    let f : ℕ = b + x.at in
    let few = reached_few l v t in
    let seen = h.seen in
    let op = h.many in
    let in_row = new.within in
    let near : f ≤ g = omega (arith, e, in_row) in
    let there : g < length ps = omega arith in
    let one : get_or ps f 0 ≤ most = omega (arith, new.is, new.few) in
    let pass : at_most most (reverse (take (suc g) ps)) ≡ at_most most (reverse (take (suc f) ps)) =
    ap (λ j. at_most most (reverse (take j ps))) (let q : suc g ≡ suc f + (g - f) = omega (arith, near) in q)
    ∙ passes ps 0 most (suc f) (g - f) (postings_rise l v t is)
    (omega (arith, near, there)) (λ k. omega (arith, new.above (omega (arith, k, e)), ap (λ j. get_or ps j 0) (let q : b + suc x.at ≡ suc f = omega arith in q))) in
    let all : at_most most rest ≡ get_or ps f 0 ∷ reverse (take f ps) =
    sym same ∙ ap (at_most most) h.postings ∙ pass ∙ ap (at_most most) (reverse_take f ps (omega (arith, near, there))) ∙ at_most_in most (get_or ps f 0) (reverse (take f ps)) one in
    let st = front_stands l v t opened left g f (o + x.at) w is h near (row.places x.at in_row) back in (
      subst (λ z. Given l v t record { segment = v; way = w } opened z (Some x.posting)) (sym all) (ap (λ (z : ℕ). Some z) new.is, st),
      ap length all ∙ omega (arith, length_front f ps (omega (arith, near, there))),
    )

-- a slice that is passed as a whole
pub passed_slice : (l : Moment) (v : ℕ) (t : Term) (opened most : ℕ) (rest left : List ℕ) (g o span first : ℕ) (v0 w : Way) (before after : ℕ)
    → IsMoment l → IsFront l v t opened left g → at_most most left ≡ at_most most rest
    → g ≡ slice_start g + span → IsRow l v t (slice_start g) o span → first ≡ posting_in l v t (slice_start g) → most < first
    → IsWayBefore o w → length left ≤ length rest → way_loads v0 ≡ next_loads opened (suc g) → way_loads v0 ≡ lead_loads v0 + 1
    → after + 2 * slices_in_use (length left) ≤ before + 2 * slices_in_use (length rest) → after ≤ before + walk_loads opened (length rest) (length rest - length left)
    → Leapt l v t record { segment = v; way = w } opened most rest first before (after + lead_loads v0 + 1)
passed_slice l v t opened most rest left g o span first v0 w before after is h same e row is_first above back shorter loads lead slices walk =
    let ps : List ℕ = postings t (segment l v) in
    let b : ℕ = slice_start g in
    let few = reached_few l v t in
    let seen = h.seen in
    let op = h.many in
    let low = start_le g in
    let there : g < length ps = omega arith in
    let n = length_front b ps (omega arith) in
    let size = h.size in
    let rises = postings_rise l v t is in
    let pass : at_most most (reverse (take (suc g) ps)) ≡ at_most most (reverse (take b ps)) =
    ap (λ j. at_most most (reverse (take j ps))) (let q : suc g ≡ b + (suc g - b) = omega (arith, low) in q)
    ∙ passes ps 0 most b (suc g - b) rises (omega (arith, low, there)) (λ k. omega (arith, above, is_first)) in
    record {
      left = reverse (take b ps);
      stands = front_stands l v t opened left g b o w is h low (row_first l v t b o span row) back;
      same = sym pass ∙ ap (at_most most) (sym h.postings) ∙ same;
      below = head b (omega arith) is_first;
      shorter = omega (arith, n, size, shorter, low);
      slices = omega (arith, slices, ap slices_in_use n, ap slices_in_use size, slices_before g, lead_few v0);
      walk =
          let more = walk_more opened (length rest) (length rest - length left) (suc (g - b)) (omega arith) in
          let k1 : length rest - length (reverse (take b ps)) ≡ length rest - length left + suc (g - b) = omega (arith, n, size, shorter, low) in
          let k2 : length rest - (length rest - length left) ≡ suc g = omega (arith, size, shorter) in
          omega (arith, walk, more, ap (walk_loads opened (length rest)) k1, ap (λ j. walk_loads opened j (suc (g - b))) k2, walk_first opened g (g - b) (omega arith), loads, lead);
    }
  where
    head : (b : ℕ) → b < length (postings t (segment l v)) → first ≡ posting_in l v t b → IsHeadBelow first (reverse (take b (postings t (segment l v))))
    head zero k z = tt
    head (suc b) k z = subst (IsHeadBelow first)
        (sym (reverse_take b (postings t (segment l v)) (omega (arith, k)))) (omega (arith, z, rises_get 0 (postings t (segment l v)) b (suc b) (postings_rise l v t is) (omega arith) k))

-- the first of a passed slice is below the number that all of it is below
pub falls_on : (l : Moment) (v : ℕ) (t : Term) (opened : ℕ) (left : List ℕ) (g first above : ℕ) → IsMoment l
    → IsFront l v t opened left g → first ≡ posting_in l v t (slice_start g) → IsHeadBelow above left → first < above
falls_on l v t opened left g first above is h e below =
    let ps : List ℕ = postings t (segment l v) in
    let few = reached_few l v t in
    let seen = h.seen in
    let op = h.many in
    let there : g < length ps = omega arith in
    let last : get_or ps g 0 < above = subst (IsHeadBelow above) (h.postings ∙ reverse_take g ps there) below in
    elim (cases_lt (slice_start g) g) [
      | inl low ↦ omega (arith, e, last, rises_get 0 ps (slice_start g) g (postings_rise l v t is) low there)
      | inr high ↦ let k : slice_start g ≡ g = omega (arith, start_le g, high) in omega (arith, e, last, ap (λ j. get_or ps j 0) k)
    ]

-- ---- loads

double_power : (i : ℕ) → 2 * i ≤ 2 ^ i
double_power zero = omega arith
double_power (suc zero) = omega arith
double_power (suc (suc i)) = omega (arith, double_power (suc i), power_next (suc i), power_next i, power_some i)

ten_digits : (i : ℕ) → 2 ^ i ≤ 2047 → i ≤ 10
ten_digits i h = elim (cases_lt 10 i) [
  | inl high ↦ absurd (let k : 2 ^ 11 ≤ 2 ^ i = pow_mono high in omega (arith, h, k))
  | inr low ↦ low
]

pub found_leap : (rest left given : List ℕ) (g at span i before after end : ℕ) (v0 : Way) → length left ≡ suc g → length left ≤ length rest
    → g ≡ slice_start g + span → span ≤ 2046 → length given ≡ suc (slice_start g + at) → at ≤ span → 2 ^ i + at ≤ span + 1
    → after + 2 * slices_in_use (length left) ≤ before + 2 * slices_in_use (length rest) → end ≤ after + lead_loads v0 + 2 * i + 2 → IsLeap rest given before end
found_leap rest left given g at span i before after end v0 size shorter e short n within p slices loads = record {
  digits = i;
  passed = omega (arith, size, shorter, e, n, p);
  few = ten_digits i (omega (arith, p, short));
  loads = omega (arith, slices, ap slices_in_use n, ap slices_in_use size, slices_same g (slice_start g + at) (omega arith) (omega (arith, e, within)), lead_few v0, loads);
}

pub found_short : (opened : ℕ) (rest left given : List ℕ) (g at span i before after end : ℕ) (v0 : Way) → length left ≡ suc g
    → length left ≤ length rest → g ≡ slice_start g + span → length given ≡ suc (slice_start g + at) → at ≤ span → 2 ^ i + at ≤ span + 1
    → way_loads v0 ≡ next_loads opened (suc g) → way_loads v0 ≡ lead_loads v0 + 1 → after ≤ before + walk_loads opened (length rest) (length rest - length left)
    → end ≤ after + lead_loads v0 + 2 * i + 2 → IsShort opened rest given before end
found_short opened rest left given g at span i before after end v0 size shorter e n within p way lead walk loads =
    let f : ℕ = slice_start g + at in
    let more = walk_more opened (length rest) (length rest - length left) (suc (g - f)) (omega arith) in
    let k1 : length rest - length given + 1 ≡ length rest - length left + suc (g - f) = omega (arith, n, size, shorter, e, within) in
    let k2 : length rest - (length rest - length left) ≡ suc g = omega (arith, size, shorter) in
    omega (
      arith,
      walk,
      more,
      ap (walk_loads opened (length rest)) k1,
      ap (λ j. walk_loads opened j (suc (g - f))) k2,
      walk_first opened g (g - f) (omega arith),
      way,
      lead,
      loads,
      double_power i,
      p,
      e,
    )

pub end_leap : (rest : List ℕ) (before after end : ℕ) (v0 : Way) → after + 2 * slices_in_use 0 ≤ before + 2 * slices_in_use (length rest) → end ≡ after + lead_loads v0 → IsLeap rest [] before end
end_leap rest before after end v0 slices loads = record { digits = 0; passed = omega arith; few = omega arith; loads = omega (arith, slices, loads, lead_few v0) }

pub end_short : (opened : ℕ) (rest : List ℕ) (before after end : ℕ) (v0 : Way)
    → after ≤ before + walk_loads opened (length rest) (length rest - 0) → end ≡ after + lead_loads v0 → IsShort opened rest [] before end
end_short opened rest before after end v0 walk loads =
    let more = walk_more opened (length rest) (length rest - 0) 1 (omega arith) in
    omega (arith, walk, more, loads, lead_few v0)

-- ---- a look into a slice

lead_at : (l : Moment) (v : ℕ) (t : Term) (f a : ℕ) → LeadsTo l v t f (Some a) → (f ≡ suc (f - 1)) × IsAddress l v t (f - 1) a
lead_at l v t zero a h = absurd (cc h)
lead_at l v t (suc f) a h = let e : suc f - 1 ≡ f = omega arith in (omega arith, subst (λ k. IsAddress l v t k a) (sym e) h)

lead_none : (l : Moment) (v : ℕ) (t : Term) (f : ℕ) → LeadsTo l v t f None → f ≡ 0
lead_none l v t zero h = refl
lead_none l v t (suc f) h = absurd h

-- the way of what is left, by the chain's own segment
pub own_way : (n : Moment) (s : ℕ) (t : Term) (c : Chain) (opened : ℕ) (left : List ℕ) → Stands n s t c opened left → IsWay n c.segment t (length left) c.way
own_way n s t c opened left h = subst (λ z. IsWay n z t (length left) c.way) (sym h.of_segment) h.way

-- the slice that the way leads into
pub lead_row : (k : Moment) (v : ℕ) (t : Term) (f a o : ℕ) → IsMoment k → LeadsTo k v t f (Some a) → IsOldest a o → IsRow k v t (slice_start (f - 1)) o (a - o)
lead_row k v t f a o is h b = (row_of k v t (f - 1) a o is (lead_at k v t f a h).1 b).0

pub lead_low : (k : Moment) (v : ℕ) (t : Term) (f a o : ℕ) → IsMoment k → LeadsTo k v t f (Some a) → IsOldest a o → o ≤ a
lead_low k v t f a o is h b = let e = (row_of k v t (f - 1) a o is (lead_at k v t f a h).1 b).1 in omega (arith, e)

pub lead_offset : (k : Moment) (v : ℕ) (t : Term) (f a : ℕ) → IsMoment k → LeadsTo k v t f (Some a) → 1 ≤ address_pool a → 1 ≤ address_offset a
lead_offset k v t f a is h high =
    let at = (lead_at k v t f a h).1 in
    let p = subst (Parts (f - 1)) (sym at.is) (address_parts k v t (f - 1) is at.inside at.reached) in
    let q = told (f - 1) a p in
    let z = span_is (f - 1) in
    omega (arith, q.0, q.1, z.1 (omega (arith, q.0, high)), start_le (f - 1))

pub look_found : (n k l : Moment) (s : ℕ) (t : Term) (c : Chain) (opened most : ℕ) (rest : List ℕ)
    (above before after end a o : ℕ) (x : Found) (w : Way) (L : Leapt n s t c opened most rest above before after)
    → IsMoment n → IsMoment k → IsMoment l → IsNotBefore k n → IsNotBefore l k → LeadsTo k c.segment t (length L.left) (Some a) → IsOldest a o
    → IsNewest k c.segment t (slice_start (length L.left - 1)) (a - o) most x → IsWayBefore (o + x.at) w → IsLookLoads (a - o) (Within x) (after + lead_loads c.way) end
    → Given l s t record { segment = c.segment; way = w } opened (at_most most rest) (Some x.posting) × IsLeap rest (at_most most rest) before end × IsShort opened rest (at_most most rest) before end
look_found n k l s t c opened most rest above before after end a o x w L is js ls nk kl lead old new back loads =
    let v : ℕ = c.segment in
    let g : ℕ = length L.left - 1 in
    let at = lead_at k v t (length L.left) a lead in
    let r = row_of k v t g a o js at.1 old in
    let low = start_le g in
    let e : g ≡ slice_start g + (a - o) = omega (arith, r.1, low) in
    let st : Stands l v t c opened L.left = stands_later n l v t c opened L.left is (later_on n k l nk kl) (subst (λ z. Stands n z t c opened L.left) (sym L.stands.of_segment) L.stands) in
    let row = row_later k l v t (slice_start g) o (a - o) js kl r.0 in
    let here = newest_as k l v t (slice_start g) (a - o) most x (λ p j. row_stays k l v t (slice_start g) o (a - o) p kl r.0 j) new in
    let f = front_of l v t c opened L.left g st at.0 in
    let q = found_gives l v t opened most rest L.left g (slice_start g) o (a - o) x w ls f L.same e row here back in
    let one = lead_one n v t g c.way (subst (λ j. IsWay n v t j c.way) at.0 (own_way n s t c opened L.left L.stands)) in
    let way : way_loads c.way ≡ next_loads opened (suc g) = L.stands.loads ∙ ap (next_loads opened) at.0 in
    let short = row.short in (
      subst (λ z. Given l z t record { segment = v; way = w } opened (at_most most rest) (Some x.posting)) L.stands.of_segment q.0,
      found_leap rest L.left (at_most most rest) g x.at (a - o) loads.0 before after end c.way at.0 L.shorter e short q.1 new.within loads.1 L.slices loads.2,
      found_short opened rest L.left (at_most most rest) g x.at (a - o) loads.0 before after end c.way at.0 L.shorter e q.1 new.within loads.1 way one L.walk loads.2,
    )

pub look_passed : (n k l : Moment) (s : ℕ) (t : Term) (c : Chain) (opened most : ℕ) (rest : List ℕ)
    (above before after end a o first : ℕ) (w : Way) (L : Leapt n s t c opened most rest above before after)
    → IsMoment n → IsMoment k → IsMoment l → IsNotBefore k n → IsNotBefore l k → LeadsTo k c.segment t (length L.left) (Some a) → IsOldest a o
    → first ≡ posting_in k c.segment t (slice_start (length L.left - 1)) → most < first → IsWayBefore o w → end ≡ after + lead_loads c.way + 1
    → Leapt l s t record { segment = c.segment; way = w } opened most rest first before end × (first < above)
look_passed n k l s t c opened most rest above before after end a o first w L is js ls nk kl lead old head high back loads =
    let v : ℕ = c.segment in
    let g : ℕ = length L.left - 1 in
    let at = lead_at k v t (length L.left) a lead in
    let r = row_of k v t g a o js at.1 old in
    let low = start_le g in
    let e : g ≡ slice_start g + (a - o) = omega (arith, r.1, low) in
    let st : Stands l v t c opened L.left = stands_later n l v t c opened L.left is (later_on n k l nk kl) (subst (λ z. Stands n z t c opened L.left) (sym L.stands.of_segment) L.stands) in
    let row = row_later k l v t (slice_start g) o (a - o) js kl r.0 in
    let f = front_of l v t c opened L.left g st at.0 in
    let one = lead_one n v t g c.way (subst (λ j. IsWay n v t j c.way) at.0 (own_way n s t c opened L.left L.stands)) in
    let way : way_loads c.way ≡ next_loads opened (suc g) = L.stands.loads ∙ ap (next_loads opened) at.0 in
    let now : first ≡ posting_in l v t (slice_start g) = head ∙ sym (row_head k l v t (slice_start g) o (a - o) kl r.0) in
    let p = passed_slice l v t opened most rest L.left g o (a - o) first c.way w before after ls f L.same e row now high back L.shorter way one L.slices L.walk in (
      subst (λ (z : ℕ × ℕ). Leapt l z.0 t record { segment = v; way = w } opened most rest first before z.1) (λ i. (L.stands.of_segment i, sym loads i)) p,
      falls_on l v t opened L.left g first above ls f now L.below,
    )

pub look_none : (n k : Moment) (s : ℕ) (t : Term) (c : Chain) (opened most : ℕ) (rest : List ℕ) (above before after end : ℕ) (L : Leapt n s t c opened most rest above before after)
    → IsMoment n → IsNotBefore k n → LeadsTo k c.segment t (length L.left) None → end ≡ after + lead_loads c.way
    → Given k s t c opened (at_most most rest) None × IsLeap rest (at_most most rest) before end × IsShort opened rest (at_most most rest) before end
look_none n k s t c opened most rest above before after end L is nk lead loads = go L.left refl
  where
    go : (left : List ℕ) → L.left ≡ left → Given k s t c opened (at_most most rest) None × IsLeap rest (at_most most rest) before end × IsShort opened rest (at_most most rest) before end
    go [] z =
        let all : [] ≡ at_most most rest = ap (at_most most) (sym z) ∙ L.same in
        let st = stands_later n k s t c opened L.left is nk L.stands in
        subst (λ y. Given k s t c opened y None × IsLeap rest y before end × IsShort opened rest y before end) all (
          (refl, subst (Stands k s t c opened) z st),
          end_leap rest before after end c.way (let q = L.slices in omega (arith, q, ap (λ y. slices_in_use (length y)) z)) loads,
          end_short opened rest before after end c.way (let q = L.walk in omega (arith, q, ap (λ (y : List ℕ). walk_loads opened (length rest) (length rest - length y)) z)) loads,
        )
    go (y ∷ ys) z = absurd (let q = lead_none k c.segment t (length L.left) lead in omega (arith, q, ap length z))
