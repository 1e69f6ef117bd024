-- What a walk needs: ways stay the same at later moments, and lead to the posting before.
use Rattle.std.proofs.Common.{◌≡◌, ℕ, zero, suc, ◌+◌, ◌-◌, ◌^◌, ◌<◌, ◌≤◌, inl, inr, true, false, Some, List, [], ◌∷◌, length, take, reverse, get_or, refl, ap, sym, ◌∙◌, subst, arith}
use Rattle.std.proofs.lemmas.Bool.{cases_Bool, cases_lt}
use Rattle.std.proofs.lemmas.Bool.Decides.{nat_tests}
use Rattle.std.proofs.lemmas.List.{length-reverse, length-take-le}
use Rattle.eb_base.specs.Term.{Term}
use Rattle.eb_place.specs.declared.moment.Moment.{Moment}
use Rattle.eb_place.specs.Address.{pool_at, begins}
use Rattle.eb_place.specs.Postings.{postings, terms_of}
use Rattle.eb_place.specs.Moments.{IsMoment}
use Rattle.eb_place.specs.Later.{IsNotBefore}
use Rattle.eb_place.specs.Seen.{segment, seen, seen_count}
use Rattle.eb_place.specs.Walk.{IsAddress, IsLink, address_in, tail_value}
use Rattle.eb_place.proofs.NextAddresses.{address_next}
use Rattle.eb_place.proofs.ReaderWords.{reached_few, seen_is, Parts, address_parts, address_small}
use Rattle.eb_place.proofs.ReachedLater.{later_reached, later_postings}
use Rattle.eb_place.proofs.ReachedWordsStay.{address_later, link_later}
use Rattle.eb_place.proofs.WayBackFromPosting.{told, first_at, within_at, second_at, linked_at, reverse_take}
use Rattle.eb_chain.specs.declared.chain.Way.{Way}
use Rattle.eb_chain.specs.declared.chain.Way.TheVariants.{End, At, Link}
use Rattle.eb_chain.specs.declared.chain.Chain.{Chain}
use Rattle.eb_chain.specs.Chains.{IsWay, way_loads, next_loads, IsWayBefore, IsPosting, IsWayOf, Stands, Given}

way_later : (m n : Moment) (s : ℕ) (t : Term) (f : ℕ) (w : Way) → IsMoment m → IsNotBefore n m → IsWay m s t f w → IsWay n s t f w
way_later m n s t zero w is l h = h
way_later m n s t (suc f) End is l h = h
way_later m n s t (suc f) (At a) is l h = address_later m n s t f a is l h
way_later m n s t (suc f) (Link a) is l h = link_later m n s t f a is l h

-- what a chain still has to give at one moment, it has to give at every later one
pub stands_later : (m n : Moment) (s : ℕ) (t : Term) (c : Chain) (opened : ℕ) (rest : List ℕ) → IsMoment m → IsNotBefore n m → Stands m s t c opened rest → Stands n s t c opened rest
stands_later m n s t c opened rest is l h = let few = h.seen in let left = h.left in let more = later_reached m n s t l in
    record {
      inside = subst (λ σ. s < σ.segments) l.setting h.inside;
      of_segment = h.of_segment;
      seen = omega arith;
      left = h.left;
      postings = h.postings ∙ ap reverse (sym (later_postings m n s t (length rest) l (omega arith)));
      way = way_later m n s t (length rest) c.way is l h.way;
      loads = h.loads;
    }

-- ---- the way back

link_loads : (opened f : ℕ) → suc f < opened → begins (suc f) ≡ true → 1 ≤ pool_at (suc f) → 2 ≡ next_loads opened (suc f)
unfolding next_loads
link_loads opened f l b p = grind (arith, nat_tests)

plain_loads : (opened f : ℕ) → begins (suc f) ≡ false → 1 ≡ next_loads opened (suc f)
unfolding next_loads
plain_loads opened f b = grind (arith, nat_tests)

newest_loads : (f : ℕ) → 1 ≡ next_loads (suc f) (suc f)
unfolding next_loads
newest_loads f = grind (arith, nat_tests)

no_loads : (opened : ℕ) → 0 ≡ next_loads opened 0
unfolding next_loads
no_loads opened = refl

-- from the address of a posting to the way to the one before it, and its loads
pub way_back : (m : Moment) (s : ℕ) (t : Term) (opened f a : ℕ) (w : Way) → IsMoment m → f < opened → IsAddress m s t f a → IsWayBefore a w → IsWay m s t f w × (way_loads w ≡ next_loads opened f)
way_back m s t opened zero a w is o h b =
    let p = subst (Parts 0) (sym h.is) (address_parts m s t 0 is h.inside h.reached) in
    let k = told 0 a p in
    let e = b.first (k.0 ∙ first_at.0) (k.1 ∙ first_at.1) in
    (e, ap way_loads e ∙ no_loads opened)
way_back m s t opened (suc f) a w is o h b =
    let p = subst (Parts (suc f)) (sym h.is) (address_parts m s t (suc f) is h.inside h.reached) in
    let k = told (suc f) a p in
    let r = h.reached in
    elim (cases_Bool (begins (suc f))) [
      | inl new ↦ let l = linked_at f new in
          let e : w ≡ Link (a - 1) = b.linked (omega (arith, k.0, l.0)) (k.1 ∙ l.1) in (
            subst (IsWay m s t (suc f)) (sym e) (record { inside = h.inside; reached = h.reached; begins = new; linked = l.0; is = ap (λ x. x - 1) h.is }),
            ap way_loads e ∙ link_loads opened f o new l.0,
          )
      | inr old ↦
          let n = address_next t f (terms_of (segment m s)) (ap begins (let q : f + 1 ≡ suc f = omega arith in q) ∙ old) in
          let g : address_in m s t (suc f) ≡ address_in m s t f + 1 = ap (address_in m s t) (let q : suc f ≡ f + 1 = omega arith in q) ∙ n in
          let here : IsAddress m s t f (a - 1) = record { inside = h.inside; reached = omega arith; is = omega (arith, h.is, g) } in
          let e : w ≡ At (a - 1) = elim (cases_lt 0 (pool_at (suc f))) [
            | inl high ↦ b.within (omega (arith, k.1, within_at f old high))
            | inr low ↦ b.second (omega (arith, k.0)) (omega (arith, k.1, second_at f old (omega arith)))
          ] in
          (subst (IsWay m s t (suc f)) (sym e) here, ap way_loads e ∙ plain_loads opened f old)
    ]

gives : (n l : Moment) (s c : ℕ) (t : Term) (v w : Way) (opened x : ℕ) (xs : List ℕ) (a value : ℕ)
    → IsMoment n → IsMoment l → IsNotBefore l n → Stands n s t record { segment = c; way = v } opened (x ∷ xs)
    → IsPosting l s t (length xs) a value → IsWayBefore a w → Given l s t record { segment = c; way = w } opened (x ∷ xs) (Some value)
gives n l s c t v w opened x xs a value is js later h p b =
    let k = stands_later n l s t record { segment = c; way = v } opened (x ∷ xs) is later h in
    let f : ℕ = length xs in
    let ps : List ℕ = postings t (segment l s) in
    let few = reached_few l s t in
    let r = k.seen in
    let left = k.left in
    let e : x ∷ xs ≡ get_or ps f 0 ∷ reverse (take f ps) = k.postings ∙ reverse_take f ps (omega arith) in
    let hd : x ≡ get_or ps f 0 = cc in
    let tl : xs ≡ reverse (take f ps) = cc in
    let back = way_back l s t opened f a w js (omega arith) p.address b in
    (ap (λ (z : ℕ). Some z) (p.is ∙ sym hd), record { inside = k.inside; of_segment = k.of_segment; seen = k.seen; left = omega arith; postings = tl; way = back.0; loads = back.1 })

-- ---- the start

-- a tail word is at most the greatest address plus 1
pub tail_low : (m : Moment) (s : ℕ) (t : Term) (tail : ℕ) → IsMoment m → s < m.setting.segments → tail ≡ tail_value m s t (seen_count m s t) → tail ≤ 2 ^ 32
tail_low m s t tail is h e = go (seen_count m s t) refl e
  where
    go : (k : ℕ) → seen_count m s t ≡ k → tail ≡ tail_value m s t k → tail ≤ 2 ^ 32
    go zero d e = omega arith
    go (suc f) d e = omega (arith, address_small m s t f is h (omega arith))

-- from the tail a chain has to give all that is seen
pub opens : (m : Moment) (s : ℕ) (t : Term) (tail : ℕ) (w : Way) → IsMoment m → s < m.setting.segments → tail ≡ tail_value m s t (seen_count m s t) → IsWayOf tail w
    → Stands m s t record { segment = s; way = w } (seen_count m s t) (reverse (seen m s t))
opens m s t tail w is h e b =
    let ps : List ℕ = postings t (segment m s) in
    let k = seen_count m s t in
    let few = reached_few m s t in
    let l : length (reverse (take k ps)) ≡ k = length-reverse (take k ps) ∙ length-take-le k ps few in
    let l' : length (reverse (seen m s t)) ≡ k = ap (λ z. length (reverse z)) (seen_is m s t) ∙ l in
    let g = go k refl e in
    record {
      inside = h;
      of_segment = refl;
      seen = omega arith;
      left = omega (arith, l');
      postings = ap reverse (seen_is m s t) ∙ ap (λ j. reverse (take j ps)) (sym l');
      way = subst (λ j. IsWay m s t j w) (sym l') g.0;
      loads = g.1 ∙ ap (next_loads k) (sym l');
    }
  where
    go : (k : ℕ) → seen_count m s t ≡ k → tail ≡ tail_value m s t k → IsWay m s t k w × (way_loads w ≡ next_loads k k)
    go zero d e = let a : w ≡ End = subst (λ z. IsWayOf z w) e b in (a, ap way_loads a ∙ no_loads 0)
    go (suc f) d e =
        let a : w ≡ At (address_in m s t f) = subst (λ z. IsWayOf z w) (e ∙ (let q : address_in m s t f + 1 ≡ suc (address_in m s t f) = omega arith in q)) b in
        (subst (IsWay m s t (suc f)) (sym a) (record { inside = h; reached = omega arith; is = refl }), ap way_loads a ∙ newest_loads f)

-- ---- a call of next

pub at_of : (m : Moment) (s : ℕ) (t : Term) (f : ℕ) (w : Way) (a : ℕ) → IsWay m s t f w → w ≡ At a → (k : ℕ) × (f ≡ suc k) × IsAddress m s t k a
at_of m s t zero w a h e = absurd (cc)
at_of m s t (suc f) w a h e = (f, refl, subst (IsWay m s t (suc f)) e h)

pub link_of : (m : Moment) (s : ℕ) (t : Term) (f : ℕ) (w : Way) (a : ℕ) → IsWay m s t f w → w ≡ Link a → (k : ℕ) × (f ≡ suc k) × IsLink m s t k a
link_of m s t zero w a h e = absurd (cc)
link_of m s t (suc f) w a h e = (f, refl, subst (IsWay m s t (suc f)) e h)

pub end_of : (m : Moment) (s : ℕ) (t : Term) (f : ℕ) (w : Way) → IsWay m s t f w → w ≡ End → f ≡ 0
end_of m s t zero w h e = refl
end_of m s t (suc f) w h e = absurd (subst (IsWay m s t (suc f)) e h)

-- what a call gives of what is left
pub gives_rest : (n l : Moment) (s c : ℕ) (t : Term) (v w : Way) (opened : ℕ) (rest : List ℕ) (k a value : ℕ)
    → IsMoment n → IsMoment l → IsNotBefore l n → Stands n s t record { segment = c; way = v } opened rest
    → length rest ≡ suc k → IsPosting l c t k a value → IsWayBefore a w → Given l s t record { segment = c; way = w } opened rest (Some value)
gives_rest n l s c t v w opened [] k a value is js later h e p b = absurd (omega arith)
gives_rest n l s c t v w opened (x ∷ xs) k a value is js later h e p b =
    gives n l s c t v w opened x xs a value is js later h (subst (λ (z : ℕ × ℕ). IsPosting l z.0 t z.1 a value) (λ i. (h.of_segment i, (let q : k ≡ length xs = omega arith in q) i)) p) b
