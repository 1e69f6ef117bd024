-- The stores of one more token go to no pool word that holds a posting.
use Rattle.std.proofs.Common.{◌≡◌, ℕ, zero, suc, ◌+◌, ◌-◌, ◌*◌, ◌/◌, ◌%◌, ◌^◌, ◌<◌, ◌≤◌, Bool, true, false, drop}
use Rattle.std.proofs.Common.{List, [], ◌∷◌, ◌++◌, All, refl, ap, sym, ◌∙◌, arith, if◌then◌else◌, lit<}
use Rattle.std.proofs.lemmas.Bool.{false≢true}
use Rattle.std.proofs.lemmas.Bool.Decides.{nat_tests}
use Rattle.std.proofs.lemmas.List.Elements.{All-cons, All-nil}
use Rattle.eb_base.specs.Term.{Term}
use Rattle.eb_place.specs.Layout.{Slot, pool_slot, pool_region, address_number, slice_bits}
use Rattle.eb_place.specs.Layout.Slot.{published, slot}
use Rattle.eb_place.specs.Layout.Region.{first_region, converted_region, cell_region, text_place_region, tail_region}
use Rattle.eb_place.specs.Layout.Region.{text_region, id_region, pool_0, pool_1, pool_2, pool_3, directory_region, packed_region}
use Rattle.eb_place.specs.Postings.{count_of}
use Rattle.eb_place.specs.Address.{pool_at, offset_at, slice_start, begins, slices_begun, front_of, address_of}
use Rattle.eb_place.specs.Placing.{Store, in_row}
use Rattle.eb_place.proofs.TermCounts.{one_if, same_term, count_of_push}
use Rattle.eb_place.proofs.AddressesDiffer.{SlicesFit, address_once, address_stays, address_fields, offset_in, slice_in, pool_low, start_le}
use Rattle.eb_place.proofs.NextAddresses.{front_here}

-- the word is one of a pool
unfoldable pub is_pool : Slot → Bool
is_pool published = false
is_pool (slot s first_region i) = false
is_pool (slot s converted_region i) = false
is_pool (slot s cell_region i) = false
is_pool (slot s text_place_region i) = false
is_pool (slot s tail_region i) = false
is_pool (slot s text_region i) = false
is_pool (slot s id_region i) = false
is_pool (slot s pool_0 i) = true
is_pool (slot s pool_1 i) = true
is_pool (slot s pool_2 i) = true
is_pool (slot s pool_3 i) = true
is_pool (slot s directory_region i) = false
is_pool (slot s packed_region i) = false

region_pool : (s p i : ℕ) → is_pool (slot s (pool_region p) i) ≡ true
unfolding is_pool
region_pool s zero i = refl
region_pool s (suc zero) i = refl
region_pool s (suc (suc zero)) i = refl
region_pool s (suc (suc (suc p))) i = refl

-- an address names such a word
pub pool_pool : (s a : ℕ) → is_pool (pool_slot s a) ≡ true
unfolding pool_slot
pool_pool s a = region_pool s (a / 2 ^ 30) (a % 2 ^ 30)

-- other words have no address
pub not_pool : (x : Slot) (s a : ℕ) → is_pool x ≡ false → x ≡ pool_slot s a → ⊥
not_pool x s a h e = false≢true (sym h ∙ ap is_pool e ∙ pool_pool s a)

region_index : Slot → ℕ
region_index published = 0
region_index (slot s first_region i) = 0
region_index (slot s converted_region i) = 0
region_index (slot s cell_region i) = 0
region_index (slot s text_place_region i) = 0
region_index (slot s tail_region i) = 0
region_index (slot s text_region i) = 0
region_index (slot s id_region i) = 0
region_index (slot s pool_0 i) = i
region_index (slot s pool_1 i) = 2 ^ 30 + i
region_index (slot s pool_2 i) = 2 * 2 ^ 30 + i
region_index (slot s pool_3 i) = 3 * 2 ^ 30 + i
region_index (slot s directory_region i) = 0
region_index (slot s packed_region i) = 0

region_index_is : (s p i : ℕ) → p < 4 → region_index (slot s (pool_region p) i) ≡ p * 2 ^ 30 + i
unfolding region_index
region_index_is s zero i h = omega arith
region_index_is s (suc zero) i h = omega arith
region_index_is s (suc (suc zero)) i h = omega arith
region_index_is s (suc (suc (suc zero))) i h = omega arith
region_index_is s (suc (suc (suc (suc p)))) i h = absurd (omega arith)

address_back : (s a : ℕ) → a < 2 ^ 32 → region_index (pool_slot s a) ≡ a
unfolding pool_slot
address_back s a h = region_index_is s (a / 2 ^ 30) (a % 2 ^ 30) (omega arith) ∙ omega arith

-- two addresses name two words
pub pool_slot_once : (s a b : ℕ) → a < 2 ^ 32 → b < 2 ^ 32 → pool_slot s a ≡ pool_slot s b → a ≡ b
pool_slot_once s a b ha hb e = sym (address_back s a ha) ∙ ap region_index e ∙ address_back s b hb

-- an address has 32 bits
pub address_low : (t : Term) (f : ℕ) (ts : List Term) → f < count_of t ts → SlicesFit ts → address_of t f ts < 2 ^ 32
unfolding address_of
address_low t f ts h fit = omega (arith, slice_in t f ts h fit, pool_low f)

-- the address of the next posting of a term is known before it is stored
pub address_here : (t : Term) (xs ys : List Term) → address_of t (count_of t xs) (xs ++ t ∷ ys) ≡ address_of t (count_of t xs) xs
unfolding address_of
address_here t xs ys = ap (λ (z : List Term). address_number (pool_at (count_of t xs)) (slices_begun (pool_at (count_of t xs)) z) (offset_at (count_of t xs)))
    (front_here t (slice_start (count_of t xs)) xs ys (start_le (count_of t xs)))

-- the word of a posting is not one that an earlier posting has
pub posting_fresh : (s : ℕ) (ts : List Term) (t u : Term) (f : ℕ) → SlicesFit (ts ++ u ∷ []) → f < count_of t ts → pool_slot s (address_of u (count_of u ts) ts) ≡ pool_slot s (address_of t f ts) → ⊥
posting_fresh s ts t u f fit h e =
    let c = count_of u ts in
    let new : address_of u c (ts ++ u ∷ []) ≡ address_of u c ts = address_here u ts [] in
    let old : address_of t f (ts ++ u ∷ []) ≡ address_of t f ts = address_stays t f ts (u ∷ []) h in
    let n = count_of_push u u ts in
    let n1 = ap one_if (same_term u) in
    let hc : c < count_of u (ts ++ u ∷ []) = omega arith in
    let m = count_of_push t u ts in
    let hf : f < count_of t (ts ++ u ∷ []) = omega arith in
    let l1 = address_low u c (ts ++ u ∷ []) hc fit in
    let l2 = address_low t f (ts ++ u ∷ []) hf fit in
    let same = pool_slot_once s (address_of u c ts) (address_of t f ts) (omega arith) (omega arith) e in
    let w = address_once (ts ++ u ∷ []) u t c f hc hf fit (new ∙ same ∙ sym old) in
    let cu : count_of u ts ≡ count_of t ts = ap (λ (z : Term). count_of z ts) w.0 in
    let cf : count_of u ts ≡ f = w.1 in
    omega arith

-- the first posting of a slice with a link has offset 1
pub begin_offset : (f : ℕ) → begins f ≡ true → 1 ≤ pool_at f → offset_at f ≡ 1
unfolding pool_at offset_at slice_start
begin_offset f h l = grind (arith, nat_tests)

-- postings of linked slices come after the link
pub offset_linked : (f : ℕ) → 1 ≤ pool_at f → 1 ≤ offset_at f
unfolding pool_at offset_at
offset_linked f h = grind (arith, nat_tests)

-- a slice has a place
pub one_place : (p : ℕ) → 0 < 2 ^ slice_bits p
one_place zero = lit< tt
one_place (suc zero) = lit< tt
one_place (suc (suc zero)) = lit< tt
one_place (suc (suc (suc p))) = lit< tt

-- the word of a link is not one that holds a posting
pub link_fresh : (s : ℕ) (ts : List Term) (t u : Term) (c f : ℕ) → SlicesFit ts → c < count_of u ts → f < count_of t ts → begins c ≡ true → 1 ≤ pool_at c →
    pool_slot s (address_of u c ts - 1) ≡ pool_slot s (address_of t f ts) → ⊥
unfolding address_of
link_fresh s ts t u c f fit hc hf b l e =
    let one = begin_offset c b l in
    let a = slices_begun (pool_at c) (front_of u (slice_start c) ts) in
    let z : address_of u c ts ≡ address_number (pool_at c) a 1 = ap (address_number (pool_at c) a) one in
    let l1 = address_low u c ts hc fit in
    let l2 = address_low t f ts hf fit in
    let in_c = slice_in u c ts hc fit in
    let y : address_of u c ts - 1 ≡ address_number (pool_at c) a 0 = omega (arith, z) in
    let same : address_number (pool_at c) a 0 ≡ address_of t f ts = sym y ∙ pool_slot_once s (address_of u c ts - 1) (address_of t f ts) (omega arith) l2 e in
    let w = address_fields (pool_at c) (pool_at f) a _ 0 (offset_at f) (one_place (pool_at c)) (offset_in f) (omega (arith, in_c)) (slice_in t f ts hf fit) same in
    let k = offset_linked f (omega (arith, w.0, l)) in
    omega (arith, w.2)

-- P holds of each element, as a data type: its lists are determined where it is used, unlike those
-- of `All`
pub data Each {X : Type 0} (P : X → Type 0) : List X → Type 0 where
  none : Each P []
  more : {x : X} {xs : List X} → P x → Each P xs → Each P (x ∷ xs)

-- what holds of each holds of the first
pub each_head : {X : Type 0} {Q : X → Type 0} (x : X) (xs : List X) → Each Q (x ∷ xs) → Q x
each_head x xs (more h t) = h

pub Each-append : {X : Type 0} {P : X → Type 0} {xs ys : List X} → Each P xs → Each P ys → Each P (xs ++ ys)
Each-append none k = k
Each-append (more h t) k = more h (Each-append t k)

-- and of those that are left
pub Each-drop : {X : Type 0} {Q : X → Type 0} (n : ℕ) {xs : List X} → Each Q xs → Each Q (drop n xs)
Each-drop zero h = h
Each-drop (suc n) none = none
Each-drop (suc n) (more h t) = Each-drop n t

pub Each-if : {X : Type 0} {P : X → Type 0} (b : Bool) {xs : List X} → (b ≡ true → Each P xs) → Each P (if b then xs else [])
Each-if true h = h refl
Each-if false h = none

pub All-from_Each : {X : Type 0} {P : X → Type 0} {xs : List X} → Each P xs → All P xs
All-from_Each {X} {P} none = All-nil P
All-from_Each {X} {P} (more {x = x} {xs = xs} h t) = All-cons P x xs h (All-from_Each t)

-- the store goes to another word than that of this address
abbrev pub NotAt : ℕ → ℕ → Store → Type 0
NotAt s a y = y.0 ≡ pool_slot s a → ⊥

text_apart : (s i : ℕ) (vs : List ℕ) (r a : ℕ) → Each (NotAt r a) (in_row s text_region i vs)
unfolding is_pool
text_apart s i [] r a = none
text_apart s i (v ∷ vs) r a = more (not_pool (slot s text_region i) r a refl) (text_apart s (i + 1) vs r a)
