-- What the words of a segment are when these tokens are stored.
use Rattle.std.proofs.Common.{◌≡◌, ℕ, zero, suc, ◌+◌, ◌-◌, ◌^◌, ◌<◌, ◌≤◌, ◌==◌, ◌&&◌, ◌⊎◌, Bool, true, false, cond, List, [], ◌∷◌, ◌++◌, length}
use Rattle.std.proofs.Common.{take, refl, ap, sym, ◌∙◌, subst, arith, inl, inr, bytes_eq, if◌then◌else◌, nat_le, sum_by, count_by, append_assoc}
use Rattle.std.proofs.lemmas.Bool.{cases_Bool, cases_lt, and_parts, false≢true, ne_eqb, eq-eqb}
use Rattle.std.proofs.lemmas.Bool.Decides.{nat_tests}
use Rattle.std.proofs.lemmas.List.{map-append}
use Rattle.std.proofs.lemmas.List.Sums.{sum_by-append, sum_by-cons}
use Rattle.eb_base.specs.Term.{Term}
use Rattle.eb_base.specs.Setting.{Setting}
use Rattle.eb_place.specs.Layout.{Slot, size, pool_slot, place}
use Rattle.eb_place.specs.Layout.Slot.{published, slot}
use Rattle.eb_place.specs.Layout.Region.{first_region, converted_region, cell_region, text_place_region, tail_region}
use Rattle.eb_place.specs.Layout.Region.{text_region, id_region, pool_0, pool_1, pool_2, pool_3, directory_region, packed_region}
use Rattle.eb_place.specs.Postings.{count_of, distinct, number_of}
use Rattle.eb_place.specs.Room.{text_words}
use Rattle.eb_place.specs.Address.{pool_at, begins, address_of}
use Rattle.eb_place.specs.Placing.{Store, pairs_of, in_row, text_of, enter_stores, append_stores, token_stores}
use Rattle.eb_place.specs.Moments.{value_after}
use Rattle.eb_place.proofs.TermCounts.{one_if, same_term, same_from_test, count_of_push}
use Rattle.eb_place.proofs.AddressesDiffer.{SlicesFit, address_once, address_stays}
use Rattle.eb_place.proofs.NextAddresses.{value_after-append}
use Rattle.eb_place.proofs.PlacesOfSlots.{InTable, place_once, untouched}
use Rattle.eb_place.proofs.FreshPoolWords.{is_pool, pool_pool, not_pool, pool_slot_once, address_low, address_here, posting_fresh, link_fresh, Each, Each-append, Each-if, All-from_Each}
use Rattle.eb_place.proofs.FreshPoolWords.Each.{none, more}
use Rattle.eb_place.proofs.StoresWithinTable.{SegmentFits, IsWithin, address_within, link_within}
use Rattle.eb_place.proofs.TermNumbersStay.{number_keeps, number_here, number_low, number_once, number_absent, distinct_grows}

-- the word of a slot after the stores
abbrev pub val : Setting → List Store → Slot → ℕ
val σ L x = value_after (place σ x) 0 (pairs_of σ L)

-- how often it is stored
abbrev pub times : Setting → List Store → Slot → ℕ
times σ L x = count_by (λ y. y.0 == place σ x) (pairs_of σ L)

-- the words of the segment's pools and tails where exactly these tokens are stored
pub record Reached (σ : Setting) (s : ℕ) (ts : List Term) (P : Term → ℕ → ℕ) (L : List Store) : Type 0 where
  pub post : (t : Term) (f : ℕ) → f < count_of t ts → val σ L (pool_slot s (address_of t f ts)) ≡ P t f
  pub link : (t : Term) (f : ℕ) → f < count_of t ts → begins f ≡ true → 1 ≤ pool_at f → val σ L (pool_slot s (address_of t f ts - 1)) ≡ address_of t (f - 1) ts
  pub tail : (t : Term) → 1 ≤ count_of t ts → val σ L (slot s tail_region (number_of t ts)) ≡ address_of t (count_of t ts - 1) ts + 1
  pub bare : (k : ℕ) → length (distinct ts) ≤ k → k < σ.terms → val σ L (slot s tail_region k) ≡ 0
  pub done : (t : Term) → 1 ≤ count_of t ts → times σ L (slot s tail_region (number_of t ts)) ≡ count_of t ts
  pub idle : (k : ℕ) → length (distinct ts) ≤ k → k < σ.terms → times σ L (slot s tail_region k) ≡ 0

-- a store to none of these words
pub record Apart (s : ℕ) (ts : List Term) (y : Store) : Type 0 where
  pub post : (t : Term) (f : ℕ) → f < count_of t ts → y.0 ≡ pool_slot s (address_of t f ts) → ⊥
  pub link : (t : Term) (f : ℕ) → f < count_of t ts → begins f ≡ true → 1 ≤ pool_at f → y.0 ≡ pool_slot s (address_of t f ts - 1) → ⊥
  pub tail : (k : ℕ) → y.0 ≡ slot s tail_region k → ⊥

placed-append : (σ : Setting) (xs ys : List Store) → pairs_of σ (xs ++ ys) ≡ pairs_of σ xs ++ pairs_of σ ys
placed-append σ xs ys = map-append (λ (y : Store). (place σ y.0, y.1)) xs ys

-- the value after two lists of stores
pub val-append : (σ : Setting) (xs ys : List Store) (x : Slot) → val σ (xs ++ ys) x ≡ value_after (place σ x) (val σ xs x) (pairs_of σ ys)
val-append σ xs ys x = ap (value_after (place σ x) 0) (placed-append σ xs ys) ∙ value_after-append (place σ x) 0 (pairs_of σ xs) (pairs_of σ ys)

count_by-append : (p : ℕ × ℕ → Bool) (xs ys : List (ℕ × ℕ)) → count_by p (xs ++ ys) ≡ count_by p xs + count_by p ys
count_by-append p xs ys = sum_by-append (λ y. cond (p y) 1 0) xs ys

-- how often a word is stored in two lists
pub times-append : (σ : Setting) (xs ys : List Store) (x : Slot) → times σ (xs ++ ys) x ≡ times σ xs x + times σ ys x
times-append σ xs ys x = ap (count_by (λ y. y.0 == place σ x)) (placed-append σ xs ys) ∙ count_by-append (λ y. y.0 == place σ x) (pairs_of σ xs) (pairs_of σ ys)

-- stores to other words
pub val_keeps : (σ : Setting) (xs ys : List Store) (x : Slot) → InTable σ x → Each (IsWithin σ) ys → Each (λ y. y.0 ≡ x → ⊥) ys → val σ (xs ++ ys) x ≡ val σ xs x
val_keeps σ xs ys x h all other = val-append σ xs ys x ∙ untouched σ x (val σ xs x) ys h (All-from_Each all) (All-from_Each other)

times_none : (σ : Setting) (ys : List Store) (x : Slot) → InTable σ x → Each (IsWithin σ) ys → Each (λ y. y.0 ≡ x → ⊥) ys → times σ ys x ≡ 0
times_none σ [] x h all other = refl
times_none σ (y ∷ ys) x h (more a all) (more o other) =
    let away : (place σ y.0 == place σ x) ≡ false = ne_eqb _ _ (λ q. o (place_once σ y.0 x a h q)) in
    let one = ap one_if away in omega (arith, sum_by-cons (λ z. one_if (z.0 == place σ x)) (place σ y.0, y.1) (pairs_of σ ys), one, times_none σ ys x h all other)

-- stores to other words leave that number
pub times_keep : (σ : Setting) (xs ys : List Store) (x : Slot) → InTable σ x → Each (IsWithin σ) ys → Each (λ y. y.0 ≡ x → ⊥) ys → times σ (xs ++ ys) x ≡ times σ xs x
times_keep σ xs ys x h all other = times-append σ xs ys x ∙ omega (arith, times_none σ ys x h all other)

pub Each-map : {X : Type 0} {P Q : X → Type 0} → ((x : X) → P x → Q x) → {xs : List X} → Each P xs → Each Q xs
Each-map f none = none
Each-map f (more {x = x} h t) = more (f x h) (Each-map f t)

pub Each-take : {X : Type 0} {P : X → Type 0} (n : ℕ) {xs : List X} → Each P xs → Each P (take n xs)
Each-take zero h = none
Each-take (suc n) none = none
Each-take (suc n) (more h t) = more h (Each-take n t)

-- what is within
pub record Room (σ : Setting) (s : ℕ) (ts : List Term) : Type 0 where
  pub inside : s < σ.segments
  pub small : σ.terms ≤ 2 ^ 20
  pub some : 1 ≤ σ.terms
  pub fits : SegmentFits σ ts

-- a term's tail is a word of the index
pub tail_within : (σ : Setting) (s k : ℕ) → s < σ.segments → k < σ.terms → InTable σ (slot s tail_region k)
unfolding size
tail_within σ s k h l = (h, l)

-- stores apart from the words leave all as it is
pub reached_keeps : (σ : Setting) (s : ℕ) (ts : List Term) (P : Term → ℕ → ℕ) (L M : List Store)
    → Room σ s ts → Each (IsWithin σ) M → Each (Apart s ts) M → Reached σ s ts P L → Reached σ s ts P (L ++ M)
reached_keeps σ s ts P L M room all apart h =
    let fits = room.fits in
    let few = fits.few in
    record {
      post = λ t f l. val_keeps σ L M (pool_slot s (address_of t f ts)) (address_within σ s ts t f room.inside room.small fits l) all (Each-map (λ y a. a.post t f l) apart) ∙ h.post t f l;
      link = λ t f l b o. val_keeps σ L M (pool_slot s (address_of t f ts - 1)) (link_within σ s ts t f room.inside room.small fits l b o) all (Each-map (λ y a. a.link t f l b o) apart)
          ∙ h.link t f l b o;
      tail = λ t l. val_keeps σ L M (slot s tail_region (number_of t ts))
          (tail_within σ s (number_of t ts) room.inside (omega (arith, number_low t ts l))) all (Each-map (λ y a. a.tail (number_of t ts)) apart) ∙ h.tail t l;
      bare = λ k l o. val_keeps σ L M (slot s tail_region k) (tail_within σ s k room.inside o) all (Each-map (λ y a. a.tail k) apart) ∙ h.bare k l o;
      done = λ t l. times_keep σ L M (slot s tail_region (number_of t ts))
          (tail_within σ s (number_of t ts) room.inside (omega (arith, number_low t ts l))) all (Each-map (λ y a. a.tail (number_of t ts)) apart) ∙ h.done t l;
      idle = λ k l o. times_keep σ L M (slot s tail_region k) (tail_within σ s k room.inside o) all (Each-map (λ y a. a.tail k) apart) ∙ h.idle k l o;
    }

-- ---- one more token

-- all stores of a token but that of the tail
abbrev pub front_stores : Setting → ℕ → List Term → Term → ℕ → List Store
front_stores σ s ts u p = (if count_of u ts == 0 then enter_stores σ s (distinct ts) u else [])
    ++ ((if begins (count_of u ts) && nat_le 1 (pool_at (count_of u ts)) then ((pool_slot s (address_of u (count_of u ts) ts - 1), address_of u (count_of u ts - 1) ts) ∷ []) else [])
    ++ (pool_slot s (address_of u (count_of u ts) ts), p) ∷ [])

-- the store of the tail of a token
abbrev pub tail_store : ℕ → List Term → Term → Store
tail_store s ts u = (slot s tail_region (number_of u ts), address_of u (count_of u ts) ts + 1)

-- the tail is the last store of a token
pub token_split : (σ : Setting) (s : ℕ) (ts : List Term) (u : Term) (p : ℕ) → token_stores σ s ts u p ≡ front_stores σ s ts u p ++ tail_store s ts u ∷ []
unfolding token_stores append_stores
token_split σ s ts u p = simp append_assoc

not_tail : (s k : ℕ) (x : Slot) → (is_pool x ≡ true) → x ≡ slot s tail_region k → ⊥
unfolding is_pool
not_tail s k x h e = false≢true (sym (ap is_pool e) ∙ h)

-- a store to a word that is neither a pool word nor a tail
unfoldable pub is_tail : Slot → Bool
is_tail published = false
is_tail (slot s first_region i) = false
is_tail (slot s converted_region i) = false
is_tail (slot s cell_region i) = false
is_tail (slot s text_place_region i) = false
is_tail (slot s tail_region i) = true
is_tail (slot s text_region i) = false
is_tail (slot s id_region i) = false
is_tail (slot s pool_0 i) = false
is_tail (slot s pool_1 i) = false
is_tail (slot s pool_2 i) = false
is_tail (slot s pool_3 i) = false
is_tail (slot s directory_region i) = false
is_tail (slot s packed_region i) = false

-- stores to other regions are apart from postings and tails
pub plain_apart : (s : ℕ) (ts : List Term) (y : Store) → is_pool y.0 ≡ false → is_tail y.0 ≡ false → Apart s ts y
unfolding is_tail
plain_apart s ts y h k = record {
  post = λ t f l e. not_pool y.0 s (address_of t f ts) h e;
  link = λ t f l b o e. not_pool y.0 s (address_of t f ts - 1) h e;
  tail = λ n e. false≢true (sym k ∙ ap is_tail e);
}

text_apart : (s r i : ℕ) (ts : List Term) (vs : List ℕ) → Each (Apart s ts) (in_row r text_region i vs)
unfolding is_pool is_tail
text_apart s r i ts [] = none
text_apart s r i ts (v ∷ vs) = more (plain_apart s ts (slot r text_region i, v) refl refl) (text_apart s r (i + 1) ts vs)

pub le_from : (k : ℕ) → nat_le 1 k ≡ true → 1 ≤ k
le_from k z = grind (arith, nat_tests)

pub linked_positive : (t : Term) (f : ℕ) (ts : List Term) → 1 ≤ pool_at f → 1 ≤ address_of t f ts
unfolding address_of
linked_positive t f ts h = omega arith

-- two links
link_once : (s : ℕ) (ts : List Term) (t u : Term) (f g : ℕ) → SlicesFit ts → f < count_of t ts → g < count_of u ts → 1 ≤ pool_at f → 1 ≤ pool_at g → begins f ≡ true → begins g ≡ true
    → pool_slot s (address_of t f ts - 1) ≡ pool_slot s (address_of u g ts - 1) → (t ≡ u) × (f ≡ g)
link_once s ts t u f g fit hf hg pf pg bf bg e =
    let a = address_low t f ts hf fit in
    let b = address_low u g ts hg fit in
    let same = pool_slot_once s (address_of t f ts - 1) (address_of u g ts - 1) (omega arith) (omega arith) e in
    let p = linked_positive t f ts pf in
    let q = linked_positive u g ts pg in
    address_once ts t u f g hf hg fit (omega arith)

-- the stores of a token but that of the tail are apart from the words of the tokens before it
pub front_apart : (σ : Setting) (s : ℕ) (ts : List Term) (u : Term) (p : ℕ) → SlicesFit (ts ++ u ∷ []) → Each (Apart s ts) (front_stores σ s ts u p)
unfolding enter_stores is_pool is_tail
front_apart σ s ts u p fit =
    let c = count_of u ts in
    let n = count_of_push u u ts in
    let n1 = ap one_if (same_term u) in
    let hc : c < count_of u (ts ++ u ∷ []) = omega arith in
    let more_of : (t : Term) (f : ℕ) → f < count_of t ts → f < count_of t (ts ++ u ∷ []) = λ t f l. omega (arith, count_of_push t u ts) in
    let new : address_of u c (ts ++ u ∷ []) ≡ address_of u c ts = address_here u ts [] in
    Each-append
    (Each-if (c == 0) (λ z. Each-append (text_apart s s (sum_by text_words (distinct ts)) ts (text_of u))
    (more (plain_apart s ts (slot s text_place_region _, _) refl refl) (more (plain_apart s ts (slot s cell_region _, _) refl refl) none))))
    (Each-append
    (Each-if (begins c && nat_le 1 (pool_at c)) (λ z. let b = and_parts _ _ z in let o = le_from (pool_at c) b.1 in more (record {
      post = λ t f l e. link_fresh s (ts ++ u ∷ []) t u c f fit hc (more_of t f l) b.0 o (ap (λ k. pool_slot s (k - 1)) new ∙ e ∙ ap (pool_slot s) (sym (address_stays t f ts (u ∷ []) l)));
      link = λ t f l bf of e. let w =
          link_once s (ts ++ u ∷ []) u t c f fit hc (more_of t f l) o of b.0 bf (ap (λ k. pool_slot s (k - 1)) new ∙ e ∙ ap (λ k. pool_slot s (k - 1)) (sym (address_stays t f ts (u ∷ []) l))) in
          omega (arith, w.1, ap (λ z. count_of z ts) w.0);
      tail = λ k e. not_tail s k (pool_slot s (address_of u c ts - 1)) (pool_pool s (address_of u c ts - 1)) e;
    }) none))
    (more (record {
      post = λ t f l e. posting_fresh s ts t u f fit l e;
      link = λ t f l bf of e. link_fresh s (ts ++ u ∷ []) u t f c fit (more_of t f l) hc bf of (ap (λ k. pool_slot s (k - 1)) (address_stays t f ts (u ∷ []) l) ∙ sym e ∙ ap (pool_slot s) (sym new));
      tail = λ k e. not_tail s k (pool_slot s (address_of u c ts)) (pool_pool s (address_of u c ts)) e;
    }) none))

-- ---- the step

-- the last store gives the value
pub val_stored : (σ : Setting) (L : List Store) (x : Slot) (v : ℕ) → val σ (L ++ (x, v) ∷ []) x ≡ v
unfolding value_after
val_stored σ L x v = val-append σ L ((x, v) ∷ []) x ∙ ap (λ (b : Bool). cond b v (val σ L x)) (eq-eqb (place σ x) (place σ x) refl)

times_stored : (σ : Setting) (L : List Store) (x : Slot) (v : ℕ) → times σ (L ++ (x, v) ∷ []) x ≡ times σ L x + 1
times_stored σ L x v = times-append σ L ((x, v) ∷ []) x ∙ let e = ap one_if (eq-eqb (place σ x) (place σ x) refl) in
    omega (arith, e, sum_by-cons (λ (z : ℕ × ℕ). one_if (z.0 == place σ x)) (place σ x, v) [])

positive : (f : ℕ) → 1 ≤ pool_at f → f - 1 < f
unfolding pool_at
positive f h = grind (arith, nat_tests)

tail_index : (s i j : ℕ) → slot s tail_region i ≡ slot s tail_region j → i ≡ j
tail_index s i j e = cc

-- the term and number of a posting: an earlier one, or the new one
which : (t u : Term) (f : ℕ) (ts : List Term) → f < count_of t (ts ++ u ∷ []) → (f < count_of t ts) ⊎ ((u ≡ t) × (count_of u ts ≡ f))
which t u f ts h = let m = count_of_push t u ts in elim (cases_Bool (bytes_eq t u)) [
  | inl same ↦ let o = ap one_if same in let e = same_from_test t u same in let c = ap (λ z. count_of z ts) e in elim (cases_lt f (count_of t ts)) [
    | inl l ↦ inl l
    | inr l ↦ inr (sym e, omega arith)
  ]
  | inr other ↦ let o = ap one_if other in inl (omega arith)
]

-- what the words are after the stores of a token but that of the tail
pub record Fronted (σ : Setting) (s : ℕ) (ts : List Term) (P : Term → ℕ → ℕ) (u : Term) (L : List Store) : Type 0 where
  pub old : Reached σ s ts P L
  pub post : val σ L (pool_slot s (address_of u (count_of u ts) ts)) ≡ P u (count_of u ts)
  pub link : begins (count_of u ts) ≡ true → 1 ≤ pool_at (count_of u ts) → val σ L (pool_slot s (address_of u (count_of u ts) ts - 1)) ≡ address_of u (count_of u ts - 1) ts

-- and then that of the tail
pub tailed : (σ : Setting) (s : ℕ) (ts : List Term) (P : Term → ℕ → ℕ) (u : Term) (L : List Store)
    → Room σ s (ts ++ u ∷ []) → Fronted σ s ts P u L → Reached σ s (ts ++ u ∷ []) P (L ++ tail_store s ts u ∷ [])
tailed σ s ts P u L room h =
    let new = ts ++ u ∷ [] in
    let c = count_of u ts in
    let fits = room.fits in
    let few = fits.few in
    let m = count_of_push u u ts in
    let m1 = ap one_if (same_term u) in
    let hc : c < count_of u new = omega arith in
    let here : address_of u c new ≡ address_of u c ts = address_here u ts [] in
    let x : Store = tail_store s ts u in
    let low : number_of u ts < σ.terms = omega (arith, number_here u ts, number_low u new (omega arith)) in
    let in_x : InTable σ x.0 = tail_within σ s (number_of u ts) room.inside low in
    let stays : (t : Term) (f : ℕ) → f < count_of t ts → address_of t f new ≡ address_of t f ts = λ t f l. address_stays t f ts (u ∷ []) l in
    let pool_kept : (a : ℕ) → InTable σ (pool_slot s a) → val σ (L ++ x ∷ []) (pool_slot s a) ≡ val σ L (pool_slot s a) =
    λ a i. val_keeps σ L (x ∷ []) (pool_slot s a) i (more in_x none) (more (λ q. not_tail s (number_of u ts) (pool_slot s a) (pool_pool s a) (sym q)) none) in
    let tail_kept : (j : ℕ) → j < σ.terms → (number_of u ts ≡ j → ⊥)
    → (val σ (L ++ x ∷ []) (slot s tail_region j) ≡ val σ L (slot s tail_region j)) × (times σ (L ++ x ∷ []) (slot s tail_region j) ≡ times σ L (slot s tail_region j)) =
    λ j l o. (let i = tail_within σ s j room.inside l in (
      val_keeps σ L (x ∷ []) (slot s tail_region j) i (more in_x none) (more (λ q. o (tail_index s (number_of u ts) j q)) none),
      times_keep σ L (x ∷ []) (slot s tail_region j) i (more in_x none) (more (λ q. o (tail_index s (number_of u ts) j q)) none),
    )) in
    let grows = distinct_grows ts u in
    let number : number_of u new ≡ number_of u ts = number_here u ts in
    let number_in : number_of u ts < length (distinct new) = omega (arith, number_low u new (omega arith), number) in
    record {
      post = λ t f l. pool_kept (address_of t f new) (address_within σ s new t f room.inside room.small fits l) ∙ elim (which t u f ts l) [
        | inl o ↦ ap (λ a. val σ L (pool_slot s a)) (stays t f o) ∙ h.old.post t f o
        | inr w ↦ subst (λ (z : Term × ℕ). val σ L (pool_slot s (address_of z.0 z.1 new)) ≡ P z.0 z.1) (λ i. (w.0 i, w.1 i)) (ap (λ a. val σ L (pool_slot s a)) here ∙ h.post)
      ];
      link = λ t f l b o. pool_kept (address_of t f new - 1) (link_within σ s new t f room.inside room.small fits l b o) ∙ elim (which t u f ts l) [
        | inl q ↦ ap (λ a. val σ L (pool_slot s (a - 1))) (stays t f q) ∙ h.old.link t f q b o ∙ sym (stays t (f - 1) (omega arith))
        | inr w ↦ linked t f w b o
      ];
      tail = λ t l. elim (cases_Bool (bytes_eq t u)) [
        | inl same ↦ subst (λ z. val σ (L ++ x ∷ []) (slot s tail_region (number_of z new)) ≡ address_of z (count_of z new - 1) new + 1) (sym (same_from_test t u same)) (tail_here number here)
        | inr other ↦
            let n = count_of_push t u ts in
            let n0 = ap one_if other in
            let old : 1 ≤ count_of t ts = omega arith in
            let k = number_keeps t u ts old in
            let kl : number_of t ts < σ.terms = omega (arith, number_low t ts old) in
            ap (λ j. val σ (L ++ x ∷ []) (slot s tail_region j)) k
            ∙ (tail_kept (number_of t ts) kl (λ q. differ t old other (sym q))).0
            ∙ h.old.tail t old
            ∙ ap (λ a. a + 1) (sym (ap (λ j. address_of t (j - 1) new) (let e : count_of t new ≡ count_of t ts = omega arith in e) ∙ stays t (count_of t ts - 1) (omega arith)))
      ];
      bare = λ k l o. (tail_kept k o (λ q. omega arith)).0 ∙ h.old.bare k (omega arith) o;
      done = λ t l. elim (cases_Bool (bytes_eq t u)) [
        | inl same ↦ subst (λ z. times σ (L ++ x ∷ []) (slot s tail_region (number_of z new)) ≡ count_of z new) (sym (same_from_test t u same)) (done_here number)
        | inr other ↦
            let n = count_of_push t u ts in
            let n0 = ap one_if other in
            let old : 1 ≤ count_of t ts = omega arith in
            let k = number_keeps t u ts old in
            let kl : number_of t ts < σ.terms = omega (arith, number_low t ts old) in
            ap (λ j. times σ (L ++ x ∷ []) (slot s tail_region j)) k
            ∙ (tail_kept (number_of t ts) kl (λ q. differ t old other (sym q))).1
            ∙ h.old.done t old
            ∙ (let e : count_of t ts ≡ count_of t new = omega arith in e)
      ];
      idle = λ k l o. (tail_kept k o (λ q. omega arith)).1 ∙ h.old.idle k (omega arith) o;
    }
  where
    linked : (t : Term) (f : ℕ) → (u ≡ t) × (count_of u ts ≡ f) → begins f ≡ true → 1 ≤ pool_at f → val σ L (pool_slot s (address_of t f (ts ++ u ∷ []) - 1)) ≡ address_of t (f - 1) (ts ++ u ∷ [])
    linked t f w =
        subst (λ (z : Term × ℕ). begins z.1 ≡ true → 1 ≤ pool_at z.1 → val σ L (pool_slot s (address_of z.0 z.1 (ts ++ u ∷ []) - 1)) ≡ address_of z.0 (z.1 - 1) (ts ++ u ∷ [])) (λ i. (w.0 i, w.1 i))
        (λ b o. ap (λ a. val σ L (pool_slot s (a - 1))) (address_here u ts []) ∙ h.link b o ∙ sym (address_stays u (count_of u ts - 1) ts (u ∷ []) (positive (count_of u ts) o)))

    differ : (t : Term) → 1 ≤ count_of t ts → bytes_eq t u ≡ false → number_of t ts ≡ number_of u ts → ⊥
    differ t l other e = false≢true (sym other ∙ ap (bytes_eq t) (sym (number_once t u ts l e)) ∙ same_term t)

    tail_here : number_of u (ts ++ u ∷ []) ≡ number_of u ts → address_of u (count_of u ts) (ts ++ u ∷ []) ≡ address_of u (count_of u ts) ts
        → val σ (L ++ tail_store s ts u ∷ []) (slot s tail_region (number_of u (ts ++ u ∷ []))) ≡ address_of u (count_of u (ts ++ u ∷ []) - 1) (ts ++ u ∷ []) + 1
    tail_here number here =
        let m = count_of_push u u ts in
        let m1 = ap one_if (same_term u) in
        ap (λ j. val σ (L ++ tail_store s ts u ∷ []) (slot s tail_region j)) number
        ∙ val_stored σ L (slot s tail_region (number_of u ts)) (address_of u (count_of u ts) ts + 1)
        ∙ ap (λ a. a + 1) (sym (ap (λ j. address_of u j (ts ++ u ∷ [])) (let e : count_of u (ts ++ u ∷ []) - 1 ≡ count_of u ts = omega arith in e) ∙ here))

    done_here : number_of u (ts ++ u ∷ []) ≡ number_of u ts → times σ (L ++ tail_store s ts u ∷ []) (slot s tail_region (number_of u (ts ++ u ∷ []))) ≡ count_of u (ts ++ u ∷ [])
    done_here number =
        let m = count_of_push u u ts in
        let m1 = ap one_if (same_term u) in
        let low = number_low u (ts ++ u ∷ []) (omega arith) in
        ap (λ j. times σ (L ++ tail_store s ts u ∷ []) (slot s tail_region j)) number
        ∙ omega (arith, times_stored σ L (slot s tail_region (number_of u ts)) (address_of u (count_of u ts) ts + 1), before)
      where
        before : times σ L (slot s tail_region (number_of u ts)) ≡ count_of u ts
        before = elim (cases_lt 0 (count_of u ts)) [
          | inl some ↦ h.old.done u some
          | inr z ↦ h.old.idle (number_of u ts) (omega (arith, number_absent u ts (omega arith)))
              (omega (arith, number_here u ts, number_low u (ts ++ u ∷ []) (omega (arith, count_of_push u u ts, ap one_if (same_term u))), room.fits.few))
              ∙ (let e : 0 ≡ count_of u ts = omega arith in e)
        ]
