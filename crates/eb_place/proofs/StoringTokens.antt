-- The words while tokens are stored, one after the other.
use Rattle.std.proofs.Common.{◌≡◌, ℕ, zero, suc, ◌+◌, ◌-◌, ◌<◌, ◌≤◌, ◌==◌, ◌&&◌, Bool, cond, List, [], ◌∷◌, ◌++◌, length, take}
use Rattle.std.proofs.Common.{refl, ap, sym, ◌∙◌, subst, arith, inl, inr, if◌then◌else◌, nat_le, append-nil, append_assoc}
use Rattle.std.proofs.lemmas.Bool.{cases_lt, and_from, le-leb}
use Rattle.std.proofs.lemmas.List.{length_push, take_all, take-append-le}
use Rattle.eb_base.specs.Term.{Term}
use Rattle.eb_base.specs.Setting.{Setting}
use Rattle.eb_place.specs.Layout.{pool_slot}
use Rattle.eb_place.specs.Postings.{count_of, distinct, posting_of}
use Rattle.eb_place.specs.Address.{pool_at, begins, address_of}
use Rattle.eb_place.specs.Placing.{Store, token_stores, tokens_stores, enter_stores}
use Rattle.eb_place.proofs.TermCounts.{one_if, same_term, count_of_push}
use Rattle.eb_place.proofs.PlacesOfSlots.{InTable}
use Rattle.eb_place.proofs.FreshPoolWords.{Each, address_here, link_fresh}
use Rattle.eb_place.proofs.FreshPoolWords.Each.{none, more}
use Rattle.eb_place.proofs.StoresWithinTable.{IsWithin, slices_fit, token_within, address_within, link_within}
use Rattle.eb_place.proofs.KeptPostings.{fits_front}
use Rattle.eb_place.proofs.WordsOfTokens.{Reached, Room, Fronted, val, val_stored, val_keeps, reached_keeps, front_stores, tail_store, token_split, front_apart, tailed, Each-take}

pub Each-front : {X : Type 0} {Q : X → Type 0} (xs ys : List X) → Each Q (xs ++ ys) → Each Q xs
Each-front [] ys h = none
Each-front (x ∷ xs) ys (more h t) = more h (Each-front xs ys t)

pub Each-back : {X : Type 0} {Q : X → Type 0} (xs ys : List X) → Each Q (xs ++ ys) → Each Q ys
Each-back [] ys h = h
Each-back (x ∷ xs) ys (more h t) = Each-back xs ys t

-- a prefix of tokens that find room finds room
pub room_before : (σ : Setting) (s : ℕ) (ts us : List Term) → Room σ s (ts ++ us) → Room σ s ts
room_before σ s ts us r = record { inside = r.inside; small = r.small; some = r.some; fits = fits_front σ ts us r.fits }

front_within : (σ : Setting) (s : ℕ) (ts : List Term) (u : Term) (p : ℕ) → Room σ s (ts ++ u ∷ []) → Each (IsWithin σ) (front_stores σ s ts u p)
front_within σ s ts u p r = Each-front (front_stores σ s ts u p) (tail_store s ts u ∷ []) (subst (Each (IsWithin σ)) (token_split σ s ts u p) (token_within σ s ts u p r.inside r.small r.some r.fits))

-- all stores but that of the tail
pub fronted : (σ : Setting) (s : ℕ) (ts : List Term) (P : Term → ℕ → ℕ) (u : Term) (L : List Store)
    → Room σ s (ts ++ u ∷ []) → Reached σ s ts P L → Fronted σ s ts P u (L ++ front_stores σ s ts u (P u (count_of u ts)))
fronted σ s ts P u L room h =
    let c = count_of u ts in
    let p = P u c in
    let a = address_of u c ts in
    let fit = slices_fit σ (ts ++ u ∷ []) room.small room.fits in
    let E : List Store = if c == 0 then enter_stores σ s (distinct ts) u else [] in
    let K : List Store = if begins c && nat_le 1 (pool_at c) then ((pool_slot s (a - 1), address_of u (c - 1) ts) ∷ []) else [] in
    let y : Store = (pool_slot s a, p) in
    let m = count_of_push u u ts in
    let m1 = ap one_if (same_term u) in
    let hc : c < count_of u (ts ++ u ∷ []) = omega arith in
    let here : address_of u c (ts ++ u ∷ []) ≡ a = address_here u ts [] in
    let in_y : InTable σ (pool_slot s a) = subst (λ z. InTable σ (pool_slot s z)) here (address_within σ s (ts ++ u ∷ []) u c room.inside room.small room.fits hc) in
    let split : L ++ front_stores σ s ts u p ≡ ((L ++ E) ++ K) ++ y ∷ [] = simp append_assoc in
    record {
      old = reached_keeps σ s ts P L (front_stores σ s ts u p) (room_before σ s ts (u ∷ []) room) (front_within σ s ts u p room) (front_apart σ s ts u p fit) h;
      post = ap (λ z. val σ z (pool_slot s a)) split ∙ val_stored σ ((L ++ E) ++ K) (pool_slot s a) p;
      link = λ b o.
          (let k : K ≡ (pool_slot s (a - 1), address_of u (c - 1) ts) ∷ [] = ap (λ (z : Bool). cond z ((pool_slot s (a - 1), address_of u (c - 1) ts) ∷ []) []) (and_from _ _ b (le-leb _ _ o)) in
          let w : InTable σ (pool_slot s (a - 1)) = subst (λ z. InTable σ (pool_slot s (z - 1))) here (link_within σ s (ts ++ u ∷ []) u c room.inside room.small room.fits hc b o) in
          ap (λ z. val σ z (pool_slot s (a - 1))) split
          ∙ val_keeps σ ((L ++ E) ++ K) (y ∷ []) (pool_slot s (a - 1)) w (more in_y none)
          (more (λ e. link_fresh s (ts ++ u ∷ []) u u c c fit hc hc b o (ap (λ z. pool_slot s (z - 1)) here ∙ sym e ∙ ap (pool_slot s) (sym here))) none)
          ∙ ap (λ z. val σ ((L ++ E) ++ z) (pool_slot s (a - 1))) k
          ∙ val_stored σ (L ++ E) (pool_slot s (a - 1)) (address_of u (c - 1) ts));
    }

-- all stores of a token
pub token_done : (σ : Setting) (s : ℕ) (ts : List Term) (P : Term → ℕ → ℕ) (u : Term) (p : ℕ) (L : List Store) → Room σ s (ts ++ u ∷ []) → P u (count_of u ts) ≡ p → Reached σ s ts P L
    → Reached σ s (ts ++ u ∷ []) P (L ++ token_stores σ s ts u p)
token_done σ s ts P u p L room e h =
    subst (λ z. Reached σ s (ts ++ u ∷ []) P (L ++ token_stores σ s ts u z)) e
    (subst (λ z. Reached σ s (ts ++ u ∷ []) P z)
    (append_assoc L (front_stores σ s ts u (P u (count_of u ts))) (tail_store s ts u ∷ []) ∙ ap (λ z. L ++ z) (sym (token_split σ s ts u (P u (count_of u ts)))))
    (tailed σ s ts P u (L ++ front_stores σ s ts u (P u (count_of u ts))) room (fronted σ s ts P u L room h)))

-- the first stores of a token
pub token_begun : (σ : Setting) (s : ℕ) (ts : List Term) (P : Term → ℕ → ℕ) (u : Term) (p r : ℕ) (L : List Store) → Room σ s (ts ++ u ∷ []) → r < length (token_stores σ s ts u p) → Reached σ s ts P L
    → Reached σ s ts P (L ++ take r (token_stores σ s ts u p))
token_begun σ s ts P u p r L room l h =
    let e = token_split σ s ts u p in
    let n : length (token_stores σ s ts u p) ≡ length (front_stores σ s ts u p) + 1 = ap length e ∙ length_push (front_stores σ s ts u p) (tail_store s ts u) in
    let k : take r (token_stores σ s ts u p) ≡ take r (front_stores σ s ts u p) = ap (take r) e ∙ take-append-le r (front_stores σ s ts u p) (tail_store s ts u ∷ []) (omega arith) in
    subst (λ z. Reached σ s ts P (L ++ z)) (sym k)
    (reached_keeps σ s ts P L (take r (front_stores σ s ts u p)) (room_before σ s ts (u ∷ []) room) (Each-take r (front_within σ s ts u p room))
    (Each-take r (front_apart σ s ts u p (slices_fit σ (ts ++ u ∷ []) room.small room.fits))) h)

-- the postings are those of document n from position p on
abbrev pub Agrees : (Term → ℕ → ℕ) → ℕ → ℕ → List Term → List Term → Type 0
Agrees P n p ts [] = Unit {0}
Agrees P n p ts (u ∷ us) = (P u (count_of u ts) ≡ posting_of n p) × Agrees P n (p + 1) (ts ++ u ∷ []) us

-- the closed form with all stores of further tokens
pub tokens_done : (σ : Setting) (s n p : ℕ) (ts us : List Term) (P : Term → ℕ → ℕ) (L : List Store) → Room σ s (ts ++ us)
    → Agrees P n p ts us → Reached σ s ts P L → Reached σ s (ts ++ us) P (L ++ tokens_stores σ s n p ts us)
unfolding tokens_stores
tokens_done σ s n p ts [] P L room a h = rw (append-nil, append-nil) h
tokens_done σ s n p ts (u ∷ us) P L room a h =
    let e = append_assoc ts (u ∷ []) us in
    let room' : Room σ s ((ts ++ u ∷ []) ++ us) = subst (Room σ s) (sym e) room in
    let first = token_done σ s ts P u (posting_of n p) L (room_before σ s (ts ++ u ∷ []) us room') a.0 h in
    let rest = tokens_done σ s n (p + 1) (ts ++ u ∷ []) us P (L ++ token_stores σ s ts u (posting_of n p)) room' a.1 first in
    subst (λ z. Reached σ s z P (L ++ (token_stores σ s ts u (posting_of n p) ++ tokens_stores σ s n (p + 1) (ts ++ u ∷ []) us))) e
    (subst (Reached σ s ((ts ++ u ∷ []) ++ us) P) (append_assoc L (token_stores σ s ts u (posting_of n p)) (tokens_stores σ s n (p + 1) (ts ++ u ∷ []) us)) rest)

-- a prefix that goes past a list
pub take_over : (r : ℕ) (xs ys : List Store) → length xs ≤ r → take r (xs ++ ys) ≡ xs ++ take (r - length xs) ys
take_over r [] ys l = ap (λ k. take k ys) (let e : r ≡ r - 0 = omega arith in e)
take_over zero (x ∷ xs) ys l = absurd (omega arith)
take_over (suc r) (x ∷ xs) ys l = ap (λ z. x ∷ z) (take_over r xs ys (omega arith) ∙ ap (λ k. xs ++ take k ys) (let e : r - length xs ≡ suc r - suc (length xs) = omega arith in e))

-- after the first r of these stores, some of the tokens are stored
pub record Some_stored (σ : Setting) (s : ℕ) (ts us : List Term) (P : Term → ℕ → ℕ) (L : List Store) : Type 0 where
  pub stored : List Term
  pub left : List Term
  pub all : us ≡ stored ++ left
  pub reached : Reached σ s (ts ++ stored) P L

-- the closed form with the first stores of further tokens
pub tokens_begun : (σ : Setting) (s n p r : ℕ) (ts us : List Term) (P : Term → ℕ → ℕ) (L : List Store) → Room σ s (ts ++ us)
    → Agrees P n p ts us → Reached σ s ts P L → Some_stored σ s ts us P (L ++ take r (tokens_stores σ s n p ts us))
unfolding tokens_stores
tokens_begun σ s n p r ts [] P L room a h = record {
  stored = [];
  left = [];
  all = refl;
  reached = subst (λ z. Reached σ s z P (L ++ take r [])) (sym (append-nil ts))
      (subst (λ z. Reached σ s ts P (L ++ z)) (sym (take_all r [] (omega arith))) (subst (Reached σ s ts P) (sym (append-nil L)) h));
}
tokens_begun σ s n p r ts (u ∷ us) P L room a h =
    let e = append_assoc ts (u ∷ []) us in
    let room' : Room σ s ((ts ++ u ∷ []) ++ us) = subst (Room σ s) (sym e) room in
    let room1 = room_before σ s (ts ++ u ∷ []) us room' in
    let now : List Store = token_stores σ s ts u (posting_of n p) in
    let rest : List Store = tokens_stores σ s n (p + 1) (ts ++ u ∷ []) us in
    elim (cases_lt r (length now)) [
      | inl l ↦ record {
        stored = [];
        left = u ∷ us;
        all = refl;
        reached = subst (λ z. Reached σ s z P (L ++ take r (now ++ rest))) (sym (append-nil ts))
            (subst (λ z. Reached σ s ts P (L ++ z)) (sym (take-append-le r now rest (omega arith))) (token_begun σ s ts P u (posting_of n p) r L room1 l h));
      }
      | inr l ↦
          let first = token_done σ s ts P u (posting_of n p) L room1 a.0 h in
          let k = tokens_begun σ s n (p + 1) (r - length now) (ts ++ u ∷ []) us P (L ++ now) room' a.1 first in
          record {
            stored = u ∷ k.stored;
            left = k.left;
            all = ap (λ z. u ∷ z) k.all;
            reached = subst (λ z. Reached σ s z P (L ++ take r (now ++ rest))) (append_assoc ts (u ∷ []) k.stored)
                (subst (λ z. Reached σ s ((ts ++ u ∷ []) ++ k.stored) P z) (append_assoc L now (take (r - length now) rest) ∙ ap (λ z. L ++ z) (sym (take_over r now rest l))) k.reached);
          }
    ]
