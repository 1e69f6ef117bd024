-- The walk from a tail word, by the closed forms of the words.
use Rattle.std.proofs.Common.{◌≡◌, ℕ, zero, suc, ◌+◌, ◌-◌, ◌<◌, ◌≤◌, ◌==◌, ◌&&◌, Bool, true, false, List, [], ◌∷◌, ◌++◌}
use Rattle.std.proofs.Common.{take, reverse, get_or, refl, ap, sym, ◌∙◌, subst, arith, inl, inr, nat_le, All, if◌then◌else◌}
use Rattle.std.proofs.lemmas.Bool.{cases_Bool, cases_lt, eq-eqb, ne_eqb, le-leb, and_from}
use Rattle.std.proofs.lemmas.List.Elements.{All-cons, All-nil, All-append}
use Rattle.eb_base.specs.Term.{Term}
use Rattle.eb_place.specs.declared.moment.Moment.{Moment}
use Rattle.eb_base.specs.Setting.{Setting}
use Rattle.eb_place.specs.Layout.{address_pool, address_offset, place, pool_slot}
use Rattle.eb_place.specs.Address.{pool_at, begins}
use Rattle.eb_place.specs.Postings.{postings, terms_of}
use Rattle.eb_place.specs.Moments.{IsMoment, word}
use Rattle.eb_place.specs.Later.{IsNotBefore}
use Rattle.eb_place.specs.Seen.{segment, seen_count}
use Rattle.eb_place.specs.Walk.{IsLink, address_in, tail_value}
use Rattle.eb_place.proofs.NextAddresses.{address_next}
use Rattle.eb_place.proofs.ReaderWords.{reached_few, seen_is, address_parts, word_posting, word_link, word_tail}
use Rattle.eb_place.proofs.ReachedWordsStay.{posting_stays, link_stays}
use Rattle.eb_place.specs.BackwardWalk.{pool_word, is_first_linked, goes_on, reads, IsWalk, ReachedWordsStay}
use Rattle.eb_place.specs.BackwardWalk.IsWalk.{ends, gives}
use Rattle.eb_place.proofs.WayBackFromPosting.{told, first_at, linked_at, within_at, second_at, reverse_take}

ending : (words : ℕ → ℕ) (at : ℕ) → address_pool at ≡ 0 → address_offset at ≡ 0 → goes_on words at ≡ 0
ending words at p o = ap (λ (b : Bool). if b then 0 else if is_first_linked at then (words (at - 1) + 1) else at) (and_from _ _ (eq-eqb _ _ p) (eq-eqb _ _ o))

linked : (at : ℕ) → 1 ≤ address_pool at → address_offset at ≡ 1 → is_first_linked at ≡ true
linked at p o = and_from _ _ (le-leb _ _ p) (eq-eqb _ _ o)

not_first : (at : ℕ) → 1 ≤ address_offset at → ((address_pool at == 0) && (address_offset at == 0)) ≡ false
not_first at o = ap (λ (b : Bool). (address_pool at == 0) && b) (ne_eqb _ _ (λ e. omega arith)) ∙ and_false (address_pool at == 0)
  where
    and_false : (b : Bool) → (b && false) ≡ false
    and_false true = refl
    and_false false = refl

following : (words : ℕ → ℕ) (at : ℕ) → 1 ≤ address_pool at → address_offset at ≡ 1 → goes_on words at ≡ words (at - 1) + 1
following words at p o =
    ap (λ (b : Bool). if b then 0 else if is_first_linked at then (words (at - 1) + 1) else at) (not_first at (omega arith))
    ∙ ap (λ (b : Bool). if b then (words (at - 1) + 1) else at) (linked at p o)

unlinked : (at : ℕ) → ((1 ≤ address_pool at) → 2 ≤ address_offset at) → is_first_linked at ≡ false
unlinked at h = elim (cases_lt 0 (address_pool at)) [
  | inl high ↦ ap (λ (b : Bool). nat_le 1 (address_pool at) && b) (ne_eqb (address_offset at) 1 (λ e. let k = h high in omega arith)) ∙ and_false (nat_le 1 (address_pool at))
  | inr low ↦ ap (λ (k : ℕ). nat_le 1 k && (address_offset at == 1)) (let z : address_pool at ≡ 0 = omega arith in z)
]
  where
    and_false : (b : Bool) → (b && false) ≡ false
    and_false true = refl
    and_false false = refl

back : (words : ℕ → ℕ) (at : ℕ) → 1 ≤ address_offset at → is_first_linked at ≡ false → goes_on words at ≡ at
back words at o l =
    ap (λ (b : Bool). if b then 0 else if is_first_linked at then (words (at - 1) + 1) else at) (not_first at o)
    ∙ ap (λ (b : Bool). if b then (words (at - 1) + 1) else at) l

-- a walk over the oldest f postings
record Back (m n : Moment) (s : ℕ) (t : Term) (f : ℕ) : Type 0 where
  addresses : List ℕ
  walk : IsWalk (pool_word m s) (tail_value m s t f) addresses (reverse (take f (postings t (segment m s))))
  stay : All (λ at. pool_word n s at ≡ pool_word m s at) addresses

-- one step of it
record Step (m n : Moment) (s : ℕ) (t : Term) (f : ℕ) : Type 0 where
  on : goes_on (pool_word m s) (address_in m s t f) ≡ tail_value m s t f
  stay : All (λ at. pool_word n s at ≡ pool_word m s at) (reads (address_in m s t f))

-- a seen posting's word stays
stays : (m n : Moment) (s : ℕ) (t : Term) (f : ℕ) → IsMoment m → IsMoment n → IsNotBefore n m → s < m.setting.segments
    → f < seen_count m s t → pool_word n s (address_in m s t f) ≡ pool_word m s (address_in m s t f)
stays m n s t f is js l h r =
    ap (λ (σ : Setting). word n (place σ (pool_slot s (address_in m s t f)))) (sym l.setting) ∙ posting_stays m n s t f (address_in m s t f) is js l (record { inside = h; reached = r; is = refl })

-- and so does that of a link
link_stays_too : (m n : Moment) (s : ℕ) (t : Term) (g at : ℕ) → IsMoment m → IsMoment n → IsNotBefore n m → IsLink m s t g at → pool_word n s at ≡ pool_word m s at
link_stays_too m n s t g at is js l h = ap (λ (σ : Setting). word n (place σ (pool_slot s at))) (sym l.setting) ∙ link_stays m n s t g at is js l h

one_read : (m n : Moment) (s a : ℕ) → is_first_linked a ≡ false → pool_word n s a ≡ pool_word m s a → All (λ at. pool_word n s at ≡ pool_word m s at) (reads a)
one_read m n s a e same = subst (λ (b : Bool). All (λ at. pool_word n s at ≡ pool_word m s at) (a ∷ (if b then ((a - 1) ∷ []) else []))) (sym e)
    (All-cons (λ at. pool_word n s at ≡ pool_word m s at) a [] same (All-nil (λ at. pool_word n s at ≡ pool_word m s at)))

two_read : (m n : Moment) (s a : ℕ) → is_first_linked a ≡ true → pool_word n s a ≡ pool_word m s a
    → pool_word n s (a - 1) ≡ pool_word m s (a - 1) → All (λ at. pool_word n s at ≡ pool_word m s at) (reads a)
two_read m n s a e same link = subst (λ (b : Bool). All (λ at. pool_word n s at ≡ pool_word m s at) (a ∷ (if b then ((a - 1) ∷ []) else []))) (sym e)
    (All-cons (λ at. pool_word n s at ≡ pool_word m s at) a ((a - 1) ∷ []) same
    (All-cons (λ at. pool_word n s at ≡ pool_word m s at) (a - 1) [] link (All-nil (λ at. pool_word n s at ≡ pool_word m s at))))

step : (m n : Moment) (s : ℕ) (t : Term) (f : ℕ) → IsMoment m → IsMoment n → IsNotBefore n m → s < m.setting.segments → f < seen_count m s t → Step m n s t f
step m n s t zero is js l h r =
    let a = address_in m s t 0 in
    let p = told 0 a (address_parts m s t 0 is h r) in
    let low : address_pool a ≡ 0 = p.0 ∙ first_at.0 in
    record {
      on = ending (pool_word m s) a low (p.1 ∙ first_at.1);
      stay = one_read m n s a (unlinked a (λ high. absurd (omega arith))) (stays m n s t 0 is js l h r);
    }
step m n s t (suc g) is js l h r =
    let a = address_in m s t (suc g) in
    let p = told (suc g) a (address_parts m s t (suc g) is h r) in
    elim (cases_Bool (begins (suc g))) [
      | inl new ↦
          let w = linked_at g new in
          let high : 1 ≤ address_pool a = omega (arith, p.0, w.0) in
          let first : address_offset a ≡ 1 = p.1 ∙ w.1 in
          let link : IsLink m s t g (a - 1) = record { inside = h; reached = r; begins = new; linked = w.0; is = refl } in
          record {
            on = following (pool_word m s) a high first ∙ ap (λ z. z + 1) (word_link m s t g (a - 1) is link);
            stay = two_read m n s a (linked a high first) (stays m n s t (suc g) is js l h r) (link_stays_too m n s t g (a - 1) is js l link);
          }
      | inr old ↦
          let next = address_next t g (terms_of (segment m s)) (ap begins (let q : g + 1 ≡ suc g = omega arith in q) ∙ old) in
          let e : a ≡ address_in m s t g + 1 = ap (address_in m s t) (let q : suc g ≡ g + 1 = omega arith in q) ∙ next in
          let plain = unlinked a (λ high. omega (arith, p.1, within_at g old (omega (arith, p.0, high)))) in
          let some : 1 ≤ address_offset a = elim (cases_lt 0 (pool_at (suc g))) [
            | inl high ↦ omega (arith, p.1, within_at g old high)
            | inr low ↦ omega (arith, p.1, second_at g old (omega arith))
          ] in
          record {
            on = back (pool_word m s) a some plain ∙ e;
            stay = one_read m n s a plain (stays m n s t (suc g) is js l h r);
          }
    ]

walk_back : (m n : Moment) (s : ℕ) (t : Term) (f : ℕ) → IsMoment m → IsMoment n → IsNotBefore n m → s < m.setting.segments → f ≤ seen_count m s t → Back m n s t f
walk_back m n s t zero is js l h r = record { addresses = []; walk = ends; stay = All-nil (λ at. pool_word n s at ≡ pool_word m s at) }
walk_back m n s t (suc f) is js l h r =
    let a = address_in m s t f in
    let ps : List ℕ = postings t (segment m s) in
    let ih = walk_back m n s t f is js l h (omega arith) in
    let st = step m n s t f is js l h r in
    let few = reached_few m s t in
    let value : pool_word m s a ≡ get_or ps f 0 = word_posting m s t f a is (record { inside = h; reached = r; is = refl }) in
    let given : pool_word m s a ∷ reverse (take f ps) ≡ reverse (take (suc f) ps) = ap (λ z. z ∷ reverse (take f ps)) value ∙ sym (reverse_take f ps (omega arith)) in
    let one : suc a ≡ a + 1 = omega arith in
    record {
      addresses = reads a ++ ih.addresses;
      walk = subst (λ (z : ℕ × List ℕ). IsWalk (pool_word m s) z.0 (reads a ++ ih.addresses) z.1) (λ i. (one i, given i))
          (gives {at = a} {addresses = ih.addresses} {postings = reverse (take f ps)} (subst (λ z. IsWalk (pool_word m s) z ih.addresses (reverse (take f ps))) (sym st.on) ih.walk));
      stay = All-append (λ at. pool_word n s at ≡ pool_word m s at) (reads a) ih.addresses st.stay ih.stay;
    }

pub reached_stay : ReachedWordsStay
reached_stay m n s t k is js l term =
    let w = walk_back m n s t (seen_count m s t) is js l term.inside (omega arith) in
    record {
      addresses = w.addresses;
      walk = subst (λ (z : ℕ × List ℕ). IsWalk (pool_word m s) z.0 w.addresses z.1) (λ i. (sym (word_tail m s t k is term) i, sym (ap reverse (seen_is m s t)) i)) w.walk;
      stay = w.stay;
    }
