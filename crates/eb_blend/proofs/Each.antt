-- Lists of tokens, place by place.
use Rattle.std.proofs.Common.{◌≡◌, ℕ, zero, suc, ◌+◌, ◌<◌, ◌≤◌, inl, inr, List, [], ◌∷◌, ◌++◌, length, get_or, set, map, take}
use Rattle.std.proofs.Common.{◌≢◌, min, Option, Some, None, append-nil, append_assoc, ◌*◌, ◌%◌, replicate, ◌-◌, ◌^◌, refl, ap, sym, ◌∙◌, subst, arith, length-append}
use Rattle.std.proofs.lemmas.Bool.{cases_eq, cases_lt}
use Rattle.std.proofs.lemmas.List.{get_or-map, map-set, get_or-set_same, get_or-set_other}
use Rattle.std.proofs.Math.Seq.{map-set_same, get_or-append_seam}
use Rattle.std.specs.List.{sum}
use Rattle.std.proofs.lemmas.List.Sums.{sum_by_push, sum_by-cons}
use Rattle.std.proofs.Math.Nat.{mod-lt}
use Rattle.eb_base.specs.Query.{Tree}
use Rattle.eb_base.specs.Match.{answer}
use Rattle.eb_cursor.specs.declared.frame.Frame.{Frame}
use Rattle.eb_cursor.specs.Frames.{ids_of}
use mathlib.Core.List.{IsPrefix}
use Rattle.eb_base.specs.Document.{Doc}
use Rattle.eb_place.proofs.Prefixes.{prefix_self, prefix_trans}
use Rattle.eb_place.specs.Room.{cut}
use Rattle.eb_table.specs.Known.{Words}
use Rattle.eb_engine.specs.Tokens.{HistoryToken, ConverterToken}
use Rattle.eb_blend.specs.Parts.{indexes_of, histories_of, converter_indexes_of, converter_histories_of, history, lengths_of, counted}
use Rattle.eb_blend.specs.Parts.{joined, part_of, with_document, AreFronts, converted_of, few_counted, segments_of}

-- the token of a part was made with the index of the part
pub made_at : (ts : List HistoryToken) (ws : List Words) (n : ℕ) (t : HistoryToken) (w : Words) → indexes_of ts ≡ ws → n < length ts → t ≡ get_or ts n t → w ≡ get_or ws n w → t.index ≡ w
made_at ts ws n t w e lt a b = ap (λ (x : HistoryToken). x.index) a ∙ sym (get_or-map (λ (x : HistoryToken). x.index) ts n t w lt) ∙ ap (λ (z : List Words). get_or z n w) e ∙ sym b

pub converter_made_at : (ts : List ConverterToken) (ws : List Words) (n : ℕ) (t : ConverterToken) (w : Words) → converter_indexes_of ts ≡ ws → n < length ts → t ≡ get_or ts n t
    → w ≡ get_or ws n w → t.index ≡ w
converter_made_at ts ws n t w e lt a b = ap (λ (x : ConverterToken). x.index) a ∙ sym (get_or-map (λ (x : ConverterToken). x.index) ts n t w lt) ∙ ap (λ (z : List Words). get_or z n w) e ∙ sym b

-- there are as many indexes as tokens
pub as_many : (ts : List HistoryToken) (ws : List Words) → indexes_of ts ≡ ws → length ts ≡ length ws
as_many ts ws e = sym (length_map ts) ∙ ap length e
  where
    length_map : (ts : List HistoryToken) → length (indexes_of ts) ≡ length ts
    length_map [] = refl
    length_map (t ∷ ts) = ap suc (length_map ts)

pub length_histories : (ts : List HistoryToken) → length (histories_of ts) ≡ length ts
length_histories [] = refl
length_histories (t ∷ ts) = ap suc (length_histories ts)

pub as_many_converters : (ts : List ConverterToken) (ws : List Words) → converter_indexes_of ts ≡ ws → length ts ≡ length ws
as_many_converters ts ws e = sym (length_map ts) ∙ ap length e
  where
    length_map : (ts : List ConverterToken) → length (converter_indexes_of ts) ≡ length ts
    length_map [] = refl
    length_map (t ∷ ts) = ap suc (length_map ts)

pub length_converter_histories : (ts : List ConverterToken) → length (converter_histories_of ts) ≡ length ts
length_converter_histories [] = refl
length_converter_histories (t ∷ ts) = ap suc (length_converter_histories ts)

-- a part's token is changed for one of the same index
pub indexes_set : (ts : List HistoryToken) (n : ℕ) (t new : HistoryToken) → t ≡ get_or ts n t → new.index ≡ t.index → indexes_of (set ts n new) ≡ indexes_of ts
indexes_set ts n t new a e = map-set_same (λ (x : HistoryToken). x.index) ts n new t (e ∙ ap (λ (x : HistoryToken). x.index) a)

-- or for one of the same history
pub histories_set : (ts : List HistoryToken) (n : ℕ) (t new : HistoryToken) → t ≡ get_or ts n t → new.docs ≡ t.docs → histories_of (set ts n new) ≡ histories_of ts
histories_set ts n t new a e = map-set_same (λ (x : HistoryToken). x.docs) ts n new t (e ∙ ap (λ (x : HistoryToken). x.docs) a)

pub converter_indexes_set : (ts : List ConverterToken) (n : ℕ) (t new : ConverterToken) → t ≡ get_or ts n t → new.index ≡ t.index → converter_indexes_of (set ts n new) ≡ converter_indexes_of ts
converter_indexes_set ts n t new a e = map-set_same (λ (x : ConverterToken). x.index) ts n new t (e ∙ ap (λ (x : ConverterToken). x.index) a)

-- ---- prefixes

pub fronts_self : (hs : List (List Doc)) → AreFronts hs hs
fronts_self hs = record { parts = refl; each = λ p. prefix_self (history hs p) }

pub fronts_trans : (a b c : List (List Doc)) → AreFronts a b → AreFronts b c → AreFronts a c
fronts_trans a b c f g = record { parts = f.parts ∙ g.parts; each = λ p. prefix_trans (history a p) (history b p) (history c p) (f.each p) (g.each p) }

length_set : {A : Type 0} (xs : List A) (n : ℕ) (x : A) → length (set xs n x) ≡ length xs
length_set [] n x = refl
length_set (y ∷ xs) zero x = refl
length_set (y ∷ xs) (suc n) x = ap suc (length_set xs n x)

grown : (hs : List (List Doc)) (n : ℕ) (h : List Doc) → n < length hs → IsPrefix (history hs n) h → AreFronts hs (set hs n h)
grown hs n h lt pre = record {
  parts = sym (length_set hs n h);
  each = λ p. elim (cases_eq p n) [
    | inl e ↦ subst (λ m. IsPrefix (history hs m) (history (set hs n h) m)) (sym e) (subst (λ (z : List Doc). IsPrefix (history hs n) z) (sym (get_or-set_same hs n h [] lt)) pre)
    | inr ne ↦ subst (λ (z : List Doc). IsPrefix (history hs p) z) (sym (get_or-set_other hs n p h [] ne)) (prefix_self (history hs p))
  ];
}

pub history_at : (ts : List HistoryToken) (n : ℕ) (t : HistoryToken) → n < length ts → t ≡ get_or ts n t → history (histories_of ts) n ≡ t.docs
history_at ts n t lt a = get_or-map (λ (x : HistoryToken). x.docs) ts n t [] lt ∙ ap (λ (x : HistoryToken). x.docs) (sym a)

pub converter_history_at : (ts : List ConverterToken) (n : ℕ) (t : ConverterToken) → n < length ts → t ≡ get_or ts n t → history (converter_histories_of ts) n ≡ t.docs
converter_history_at ts n t lt a = get_or-map (λ (x : ConverterToken). x.docs) ts n t [] lt ∙ ap (λ (x : ConverterToken). x.docs) (sym a)

-- a part's token learns more
pub fronts_set : (ts : List HistoryToken) (n : ℕ) (t new : HistoryToken) → n < length ts → t ≡ get_or ts n t → IsPrefix t.docs new.docs → AreFronts (histories_of ts) (histories_of (set ts n new))
fronts_set ts n t new lt a pre =
    let long : n < length (histories_of ts) = omega (arith, lt, length_histories ts) in
    let g = grown (histories_of ts) n new.docs long (subst (λ (z : List Doc). IsPrefix z new.docs) (sym (history_at ts n t lt a)) pre) in
    subst (λ (z : List (List Doc)). AreFronts (histories_of ts) z) (sym (map-set (λ (x : HistoryToken). x.docs) ts n new)) g

pub converter_fronts_set : (ts : List ConverterToken) (n : ℕ) (t new : ConverterToken) → n < length ts → t ≡ get_or ts n t → IsPrefix t.docs new.docs
    → AreFronts (converter_histories_of ts) (converter_histories_of (set ts n new))
converter_fronts_set ts n t new lt a pre =
    let long : n < length (converter_histories_of ts) = omega (arith, lt, length_converter_histories ts) in
    let g = grown (converter_histories_of ts) n new.docs long (subst (λ (z : List Doc). IsPrefix z new.docs) (sym (converter_history_at ts n t lt a)) pre) in
    subst (λ (z : List (List Doc)). AreFronts (converter_histories_of ts) z) (sym (map-set (λ (x : ConverterToken). x.docs) ts n new)) g

-- ---- what a loop has done

pub take_set : {A : Type 0} (xs : List A) (n : ℕ) (x : A) → n < length xs → take (n + 1) (set xs n x) ≡ take n xs ++ x ∷ []
take_set [] n x lt = absurd (omega (arith, lt))
take_set (y ∷ xs) zero x lt = refl
take_set (y ∷ xs) (suc n) x lt = let e : suc n + 1 ≡ suc (n + 1) = omega arith in rw e (ap (λ z. y ∷ z) (take_set xs n x (omega (arith, lt))))

pub length_map : {A B : Type 0} (f : A → B) (xs : List A) → length (map f xs) ≡ length xs
length_map f [] = refl
length_map f (x ∷ xs) = ap suc (length_map f xs)

-- one more part is searched
pub found_more : (fs : List Frame) (ts : List HistoryToken) (n : ℕ) (f : Frame) (t : HistoryToken) (q : Tree) (k : ℕ) → n < length fs → n < length ts
    → take n (map ids_of fs) ≡ take n (map (answer q k) (histories_of ts)) → ids_of f ≡ answer q k t.docs
    → take (n + 1) (map ids_of (set fs n f)) ≡ take (n + 1) (map (answer q k) (histories_of (set ts n t)))
found_more fs ts n f t q k l m h e =
    let left = ap (take (n + 1)) (map-set ids_of fs n f) ∙ take_set (map ids_of fs) n (ids_of f) (omega (arith, l, length_map ids_of fs)) in
    let docs = map-set (λ (x : HistoryToken). x.docs) ts n t in
    let right = ap (λ (z : List (List Doc)). take (n + 1) (map (answer q k) z)) docs ∙ ap (take (n + 1)) (map-set (answer q k) (histories_of ts) n t.docs)
    ∙ take_set (map (answer q k) (histories_of ts)) n (answer q k t.docs) (omega (arith, m, length_map (answer q k) (histories_of ts), length_histories ts)) in
    left ∙ (λ i. h i ++ e i ∷ []) ∙ sym right

-- one more number
take_next : (xs : List ℕ) (n y : ℕ) → n < length xs → get_or xs n y ≡ y → take (n + 1) xs ≡ take n xs ++ y ∷ []
take_next [] n y lt e = absurd (omega (arith, lt))
take_next (x ∷ xs) zero y lt e = ap (λ z. z ∷ []) e
take_next (x ∷ xs) (suc n) y lt e = let s : suc n + 1 ≡ suc (n + 1) = omega arith in rw s (ap (λ z. x ∷ z) (take_next xs n y (omega (arith, lt)) e))

-- one more part is looked at
pub lengths_more : (ns : List ℕ) (ts : List HistoryToken) (n : ℕ) (x : ℕ) (t : HistoryToken) → n < length ns → n < length ts → t ≡ get_or ts n t
    → take n ns ≡ take n (lengths_of (histories_of ts)) → x ≡ length t.docs
    → take (n + 1) (set ns n x) ≡ take (n + 1) (lengths_of (histories_of ts))
lengths_more ns ts n x t l m a h e =
    let inside : n < length (lengths_of (histories_of ts)) = omega (arith, m, length_map length (histories_of ts), length_histories ts) in
    take_set ns n x l ∙ (λ i. h i ++ e i ∷ []) ∙ sym (take_next (lengths_of (histories_of ts)) n (length t.docs) inside (own ts n t m a))
  where
    own : (ts : List HistoryToken) (n : ℕ) (t : HistoryToken) → n < length ts → t ≡ get_or ts n t → get_or (lengths_of (histories_of ts)) n (length t.docs) ≡ length t.docs
    own [] n t lt a = absurd (omega (arith, lt))
    own (u ∷ ts) zero t lt a = ap (λ (z : HistoryToken). length z.docs) (sym a)
    own (u ∷ ts) (suc n) t lt a = own ts n t (omega (arith, lt)) a

pub sum_push : (ns : List ℕ) (n x : ℕ) (count : ℕ) → n < length ns → count ≡ counted (take n ns) → min (count + x) (2 ^ 64 - 1) ≡ counted (take (n + 1) (set ns n x))
sum_push ns n x count l e =
    let s : sum (take (n + 1) (set ns n x)) ≡ sum (take n ns) + x = ap sum (take_set ns n x l) ∙ sum_by_push (λ (z : ℕ). z) (take n ns) x in
    omega (arith, e, s)

-- one history more is counted
pub counted_push : (xs : List ℕ) (n x count : ℕ) → n < length xs → get_or xs n x ≡ x → count ≡ counted (take n xs) → min (count + x) (2 ^ 64 - 1) ≡ counted (take (n + 1) xs)
counted_push xs n x count lt e c =
    let s : sum (take (n + 1) xs) ≡ sum (take n xs) + x = ap sum (take_next xs n x lt e) ∙ sum_by_push (λ (z : ℕ). z) (take n xs) x in
    omega (arith, c, s)

pub lengths_got : (ts : List HistoryToken) (n : ℕ) (t : HistoryToken) (x : ℕ) → n < length ts → t ≡ get_or ts n t → x ≡ length t.docs → get_or (lengths_of (histories_of ts)) n x ≡ x
lengths_got ts n t x lt a e =
    get_or-map length (histories_of ts) n t.docs x (omega (arith, lt, length_histories ts))
    ∙ ap length (get_or-map (λ (z : HistoryToken). z.docs) ts n t t.docs lt ∙ ap (λ (z : HistoryToken). z.docs) (sym a)) ∙ sym e

-- ---- nothing changed at a part

pub set_same : {A : Type 0} (xs : List A) (n : ℕ) (x y : A) → n < length xs → y ≡ get_or xs n y → x ≡ y → set xs n x ≡ xs
set_same [] n x y lt a e = refl
set_same (z ∷ xs) zero x y lt a e = ap (λ w. w ∷ xs) (e ∙ a)
set_same (z ∷ xs) (suc n) x y lt a e = ap (λ w. z ∷ w) (set_same xs n x y (omega (arith, lt)) a e)

beyond : (hs : List (List Doc)) (p : ℕ) → length hs ≤ p → history hs p ≡ []
beyond [] zero le = refl
beyond [] (suc p) le = refl
beyond (h ∷ hs) zero le = absurd (omega (arith, le))
beyond (h ∷ hs) (suc p) le = beyond hs p (omega (arith, le))

-- prefixes at all parts
pub fronts_all : (hs all : List (List Doc)) (n : ℕ) → length hs ≡ length all → length hs ≤ n → ((p : ℕ) → p < n → IsPrefix (history hs p) (history all p)) → AreFronts hs all
fronts_all hs all n e le f = record {
  parts = e;
  each = λ p. elim (cases_lt p n) [ inl lt ↦ f p lt | inr high ↦ subst (λ (z : List Doc). IsPrefix z (history all p)) (sym (beyond hs p (omega (arith, le, high)))) (history all p, refl) ];
}

-- one more part is heard
pub heard_more : (hs : List (List Doc)) (cs : List ConverterToken) (n : ℕ) (docs : List Doc) (c : ConverterToken) → n < length cs
    → history hs n ≡ docs → c ≡ get_or cs n c
    → IsPrefix c.docs docs → ((p : ℕ) → p < n → IsPrefix (history (converter_histories_of cs) p) (history hs p))
    → (p : ℕ) → p < n + 1 → IsPrefix (history (converter_histories_of cs) p) (history hs p)
heard_more hs cs n docs c m a b pre f p lt =
    let here = sym (converter_history_at cs n c m b) in
    elim (cases_eq p n) [
      | inl s ↦ subst (λ r. IsPrefix (history (converter_histories_of cs) r) (history hs r)) (sym s)
          (subst (λ (z : List Doc × List Doc). IsPrefix z.0 z.1) (λ i. (here i, sym a i)) pre)
      | inr ne ↦ f p (omega (arith, lt, ne))
    ]

pub room_left : (i n k : ℕ) → i < n → i * k + k ≤ n * k
room_left i n k lt = grind arith

pub joined-append : (xs ys : List (List ℕ)) → joined (xs ++ ys) ≡ joined xs ++ joined ys
joined-append [] ys = refl
joined-append (x ∷ xs) ys = ap (λ (z : List ℕ). x ++ z) (joined-append xs ys) ∙ sym (append_assoc x (joined xs) (joined ys))

-- one list more
pub joined_more : (fs : List Frame) (n : ℕ) (f : Frame) → n < length fs → f ≡ get_or fs n f → joined (map ids_of (take (n + 1) fs)) ≡ joined (map ids_of (take n fs)) ++ ids_of f
joined_more [] n f lt a = absurd (omega (arith, lt))
joined_more (g ∷ fs) zero f lt a = append-nil (ids_of g) ∙ ap ids_of (sym a)
joined_more (g ∷ fs) (suc n) f lt a =
    let e : suc n + 1 ≡ suc (n + 1) = omega arith in
    rw e (ap (λ (z : List ℕ). ids_of g ++ z) (joined_more fs n f (omega (arith, lt)) a) ∙ sym (append_assoc (ids_of g) (joined (map ids_of (take n fs))) (ids_of f)))

pub few_more : (n k a b c : ℕ) → a ≤ n * k → b ≤ k → c ≡ a + b → c ≤ (n + 1) * k
few_more n k a b c h l e = let m : (n + 1) * k ≡ n * k + k = grind arith in omega (arith, h, l, e, m)

-- ---- a document is added

-- no history has a document
pub no_lengths : (n : ℕ) → 0 ≡ counted (lengths_of (replicate n []))
no_lengths zero = refl
no_lengths (suc n) = let z = no_lengths n in let s = sum_by-cons (λ (z : ℕ). z) 0 (lengths_of (replicate n [])) in omega (arith, z, s)

sum_set : (hs : List (List Doc)) (n : ℕ) (d : Doc) → n < length hs → sum (lengths_of (set hs n (history hs n ++ d ∷ []))) ≡ sum (lengths_of hs) + 1
sum_set [] n d lt = absurd (omega (arith, lt))
sum_set (h ∷ hs) zero d lt =
    omega (arith, sum_by-cons (λ (z : ℕ). z) (length (h ++ d ∷ [])) (lengths_of hs), sum_by-cons (λ (z : ℕ). z) (length h) (lengths_of hs), length-append h (d ∷ []))
sum_set (h ∷ hs) (suc n) d lt =
    let r = sum_set hs n d (omega (arith, lt)) in
    omega (arith, r, sum_by-cons (λ (z : ℕ). z) (length h) (lengths_of (set hs n (history hs n ++ d ∷ []))), sum_by-cons (λ (z : ℕ). z) (length h) (lengths_of hs))

-- the histories after an add
pub added_is : (ts : List HistoryToken) (n : ℕ) (t new : HistoryToken) (d : Doc) → n < length ts → t ≡ get_or ts n t
    → new ≡ record { index = t.index; docs = t.docs ++ d ∷ []; converted = t.converted } → n ≡ d.id % length ts
    → histories_of (set ts n new) ≡ with_document (histories_of ts) d
added_is ts n t new d lt a e at =
    let here : n ≡ part_of (histories_of ts) d = at ∙ ap (λ m. d.id % m) (sym (length_histories ts)) in
    let docs : new.docs ≡ history (histories_of ts) n ++ d ∷ [] = ap (λ (x : HistoryToken). x.docs) e ∙ ap (λ (z : List Doc). z ++ d ∷ []) (sym (history_at ts n t lt a)) in
    map-set (λ (x : HistoryToken). x.docs) ts n new ∙ ap (set (histories_of ts) n) docs ∙ ap (λ m. set (histories_of ts) m (history (histories_of ts) m ++ d ∷ [])) here

pub counted_more : (hs : List (List Doc)) (d : Doc) (count : ℕ) → 1 ≤ length hs → count ≡ counted (lengths_of hs) → min (count + 1) (2 ^ 64 - 1) ≡ counted (lengths_of (with_document hs d))
counted_more hs d count some e =
    let s = sum_set hs (part_of hs d) d (mod-lt d.id (omega (arith, some))) in
    omega (arith, s, e)

pub none_is : (o : Option ℕ) → ((x : ℕ) → o ≡ Some x → ⊥) → o ≡ None
none_is None h = refl
none_is (Some x) h = absurd (h x refl)

-- ---- readers are taken in from the last to the first

-- a prefix without its last element
whole_is : {A : Type 0} (new l all : List A) (r : A) → l ≡ new ++ r ∷ [] → (p : IsPrefix l all) → new ++ r ∷ p.0 ≡ all
whole_is new l all r e p = sym (append_assoc new (r ∷ []) p.0) ∙ ap (λ z. z ++ p.0) (sym e) ∙ p.1

pub front_less : {A : Type 0} (new l all : List A) (r : A) → l ≡ new ++ r ∷ [] → IsPrefix l all → IsPrefix new all
front_less new l all r e p = (r ∷ p.0, whole_is new l all r e p)

pub last_of_front : {A : Type 0} (new l all : List A) (r : A) → l ≡ new ++ r ∷ [] → IsPrefix l all → r ≡ get_or all (length new) r
last_of_front new l all r e p = sym (get_or-append_seam new r p.0 r) ∙ ap (λ z. get_or z (length new) r) (whole_is new l all r e p)

pub inside_front : {A : Type 0} (new l all : List A) (r : A) → l ≡ new ++ r ∷ [] → IsPrefix l all → length new < length all
inside_front new l all r e p = omega (arith, ap length (whole_is new l all r e p), length-append new (r ∷ p.0))

-- one more part has taken in its reader
pub met_more : (ts rs : List HistoryToken) (n : ℕ) (t new r : HistoryToken) → n < length ts → n < length rs → t ≡ get_or ts n t → r ≡ get_or rs n r → new ≡ t → IsPrefix r.docs new.docs
    → ((p : ℕ) → n + 1 ≤ p → IsPrefix (history (histories_of rs) p) (history (histories_of ts) p)) → (p : ℕ) → n ≤ p → IsPrefix (history (histories_of rs) p) (history (histories_of ts) p)
met_more ts rs n t new r l m a b e pre f p le =
    let here = sym (history_at rs n r m b) in
    let there = sym (history_at ts n t l a ∙ ap (λ (x : HistoryToken). x.docs) (sym e)) in
    elim (cases_eq p n) [
      | inl s ↦ subst (λ k. IsPrefix (history (histories_of rs) k) (history (histories_of ts) k)) (sym s) (subst (λ (z : List Doc × List Doc). IsPrefix z.0 z.1) (λ i. (here i, there i)) pre)
      | inr ne ↦ f p (omega (arith, le, ne))
    ]

-- where there is none left, all are taken in
pub none_before : (hs : List (List Doc)) (p : ℕ) (h : List Doc) → length hs ≤ p → IsPrefix (history hs p) h
none_before hs p h le = subst (λ (z : List Doc). IsPrefix z h) (sym (beyond hs p le)) (h, refl)

pub no_token : (o : Option HistoryToken) → ((x : HistoryToken) → o ≡ Some x → ⊥) → o ≡ None
no_token None h = refl
no_token (Some x) h = absurd (h x refl)

-- ---- a converter's token is changed

pub converted_set : (cs : List ConverterToken) (n : ℕ) (v new : ConverterToken) → v ≡ get_or cs n v → new.converted ≡ v.converted → converted_of (set cs n new) ≡ converted_of cs
converted_set cs n v new a e = map-set_same (λ (x : ConverterToken). x.converted) cs n new v (e ∙ ap (λ (x : ConverterToken). x.converted) a)

pub new_history : (cs : List ConverterToken) (n : ℕ) (new : ConverterToken) → n < length cs → history (converter_histories_of (set cs n new)) n ≡ new.docs
new_history cs n new lt = ap (λ (z : List (List Doc)). history z n) (map-set (λ (x : ConverterToken). x.docs) cs n new)
    ∙ get_or-set_same (converter_histories_of cs) n new.docs [] (omega (arith, lt, length_converter_histories cs))

pub other_history : (cs : List ConverterToken) (n : ℕ) (new : ConverterToken) (p : ℕ) → p ≢ n → history (converter_histories_of (set cs n new)) p ≡ history (converter_histories_of cs) p
other_history cs n new p ne = ap (λ (z : List (List Doc)). history z p) (map-set (λ (x : ConverterToken). x.docs) cs n new) ∙ get_or-set_other (converter_histories_of cs) n p new.docs [] ne

pub new_converted : (cs : List ConverterToken) (n : ℕ) (new : ConverterToken) → n < length cs → get_or (converted_of (set cs n new)) n 0 ≡ new.converted
new_converted cs n new lt = ap (λ (z : List ℕ). get_or z n 0) (map-set (λ (x : ConverterToken). x.converted) cs n new)
    ∙ get_or-set_same (converted_of cs) n new.converted 0 (omega (arith, lt, length_map (λ (x : ConverterToken). x.converted) cs))

pub other_converted : (cs : List ConverterToken) (n : ℕ) (new : ConverterToken) (p : ℕ) → p ≢ n → get_or (converted_of (set cs n new)) p 0 ≡ get_or (converted_of cs) p 0
other_converted cs n new p ne = ap (λ (z : List ℕ). get_or z p 0) (map-set (λ (x : ConverterToken). x.converted) cs n new) ∙ get_or-set_other (converted_of cs) n p new.converted 0 ne

-- one converter more has taken in its reader
pub converter_met_more : (cs : List ConverterToken) (rs : List HistoryToken) (n : ℕ) (new : ConverterToken) (r : HistoryToken) → n < length cs → n < length rs
    → r ≡ get_or rs n r → IsPrefix r.docs new.docs
    → ((p : ℕ) → n + 1 ≤ p → IsPrefix (history (histories_of rs) p) (history (converter_histories_of cs) p))
    → (p : ℕ) → n ≤ p → IsPrefix (history (histories_of rs) p) (history (converter_histories_of (set cs n new)) p)
converter_met_more cs rs n new r l m b pre f p le =
    let here = sym (history_at rs n r m b) in
    let there = sym (new_history cs n new l) in
    elim (cases_eq p n) [
      | inl s ↦ subst (λ k. IsPrefix (history (histories_of rs) k) (history (converter_histories_of (set cs n new)) k)) (sym s)
          (subst (λ (z : List Doc × List Doc). IsPrefix z.0 z.1) (λ i. (here i, there i)) pre)
      | inr ne ↦ subst (λ (z : List Doc). IsPrefix (history (histories_of rs) p) z) (sym (other_history cs n new p ne)) (f p (omega (arith, le, ne)))
    ]

-- one more converter knows the history
pub told_more : (ts : List HistoryToken) (cs : List ConverterToken) (n : ℕ) (t : HistoryToken) (new : ConverterToken) → n < length ts → n < length cs
    → t ≡ get_or ts n t → IsPrefix t.docs new.docs
    → ((p : ℕ) → p < n → IsPrefix (history (histories_of ts) p) (history (converter_histories_of cs) p))
    → (p : ℕ) → p < n + 1 → IsPrefix (history (histories_of ts) p) (history (converter_histories_of (set cs n new)) p)
told_more ts cs n t new l m a pre f p lt =
    let here = sym (history_at ts n t l a) in
    let there = sym (new_history cs n new m) in
    elim (cases_eq p n) [
      | inl s ↦ subst (λ k. IsPrefix (history (histories_of ts) k) (history (converter_histories_of (set cs n new)) k)) (sym s)
          (subst (λ (z : List Doc × List Doc). IsPrefix z.0 z.1) (λ i. (here i, there i)) pre)
      | inr ne ↦ subst (λ (z : List Doc). IsPrefix (history (histories_of ts) p) z) (sym (other_history cs n new p ne)) (f p (omega (arith, lt, ne)))
    ]

-- ---- a sum over the parts

pub few_push : (xs : List ℕ) (n x count : ℕ) → n < length xs → get_or xs n x ≡ x → count ≡ few_counted (take n xs) → min (count + x) (2 ^ 32 - 1) ≡ few_counted (take (n + 1) xs)
few_push xs n x count lt e c =
    let s : sum (take (n + 1) xs) ≡ sum (take n xs) + x = ap sum (take_next xs n x lt e) ∙ sum_by_push (λ (z : ℕ). z) (take n xs) x in
    omega (arith, c, s)

pub few_whole : (xs : List ℕ) (n count : ℕ) → length xs ≤ n → count ≡ few_counted (take n xs) → count ≡ few_counted xs
few_whole xs n count le e = e ∙ ap few_counted (take_all xs n le)
  where
    take_all : (xs : List ℕ) (n : ℕ) → length xs ≤ n → take n xs ≡ xs
    take_all [] zero le = refl
    take_all [] (suc n) le = refl
    take_all (x ∷ xs) zero le = absurd (omega (arith, le))
    take_all (x ∷ xs) (suc n) le = ap (λ z. x ∷ z) (take_all xs n (omega (arith, le)))

pub converted_got : (cs : List ConverterToken) (n : ℕ) (c : ConverterToken) (x : ℕ) → n < length cs → c ≡ get_or cs n c → x ≡ c.converted → get_or (converted_of cs) n x ≡ x
converted_got cs n c x lt a e = get_or-map (λ (z : ConverterToken). z.converted) cs n c x lt ∙ ap (λ (z : ConverterToken). z.converted) (sym a) ∙ sym e

pub length_converted : (cs : List ConverterToken) → length (converted_of cs) ≡ length cs
length_converted cs = length_map (λ (z : ConverterToken). z.converted) cs

-- the number of segments of a part
abbrev pub segments_in : HistoryToken → ℕ
segments_in t = length (cut t.index.setting t.docs)

pub segments_are : (ts : List HistoryToken) → segments_of (indexes_of ts) (histories_of ts) ≡ map segments_in ts
segments_are [] = refl
segments_are (t ∷ ts) = ap (λ z. segments_in t ∷ z) (segments_are ts)

pub segments_got : (ts : List HistoryToken) (n : ℕ) (t : HistoryToken) (x : ℕ) → n < length ts → t ≡ get_or ts n t → x ≡ segments_in t → get_or (map segments_in ts) n x ≡ x
segments_got ts n t x lt a e = get_or-map segments_in ts n t x lt ∙ ap segments_in (sym a) ∙ sym e

pub length_segments : (ts : List HistoryToken) → length (map segments_in ts) ≡ length ts
length_segments ts = length_map segments_in ts
