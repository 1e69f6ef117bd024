-- The converter's words at a moment: which segments are converted, and what their directory and
-- packed words are.
use Rattle.std.proofs.Common.{◌≡◌, ℕ, zero, suc, ◌+◌, ◌*◌, ◌^◌, ◌<◌, ◌≤◌, true, List, [], ◌∷◌, ◌++◌, length, take, get_or, sum_by, refl, ap, sym, ◌∙◌, subst, arith, append_assoc, inl, inr}
use Rattle.std.proofs.lemmas.Bool.{cases_lt, cases_eq, false≢true}
use Rattle.std.proofs.lemmas.List.{append-nil, take-append-le, length-append}
use Rattle.std.proofs.lemmas.List.Sums.{sum_by-cons}
use Rattle.eb_base.specs.Term.{Term}
use Rattle.eb_base.specs.Document.{Doc}
use Rattle.eb_base.specs.Setting.{Setting, IsSetting}
use Rattle.eb_place.specs.declared.moment.Moment.{Moment}
use Rattle.eb_place.specs.Layout.{Slot, place, size}
use Rattle.eb_place.specs.Layout.Slot.{published, slot}
use Rattle.eb_place.specs.Layout.Region.{converted_region, directory_region, packed_region}
use Rattle.eb_place.specs.Postings.{terms_of, distinct, frequency}
use Rattle.eb_place.specs.Packed.{packed}
use Rattle.eb_place.specs.Room.{cut, IsLawful}
use Rattle.eb_place.specs.Placing.{Store}
use Rattle.eb_place.specs.Conversion.{pack_stores, convert_stores, segment_stores}
use Rattle.eb_place.specs.Moments.{with_current, document_stores, conversions, conversion_stores, placings_after, value_after, word, IsMoment, IsClosed}
use Rattle.eb_place.specs.Later.{IsNotBefore, ReachesPacked}
use Rattle.eb_place.specs.Seen.{segment}
use Rattle.eb_place.specs.Walk.{IsTerm}
use Rattle.eb_place.proofs.PlacesOfSlots.{InTable}
use Rattle.eb_place.proofs.StoresWithinTable.{IsWithin}
use Rattle.eb_place.proofs.TermNumbers.{term_of_number}
use Rattle.eb_place.proofs.FreshPoolWords.{Each, Each-append}
use Rattle.eb_place.proofs.FreshPoolWords.Each.{none, more}
use Rattle.eb_place.proofs.WordsOfTokens.{Room, val, val_keeps, val_stored, Each-map, Each-take}
use Rattle.eb_place.proofs.WordsAtMoment.{placed_all, joins, lawful_front, lawful_last}
use Rattle.eb_place.proofs.StoringTokens.{Each-front}
use Rattle.eb_place.proofs.RegionStores.{started_stores}
use Rattle.eb_place.proofs.NextStore.{IsWriters, doc_writers}
use Rattle.eb_place.proofs.StoresLie.{packs_fit}
use Rattle.eb_place.proofs.PackedStores.{is_packed, segment_packs}
use Rattle.eb_place.proofs.ReachedLater.{later_started}
use Rattle.eb_place.proofs.CutSegments.{closed_stays}
use Rattle.eb_place.specs.PackedLists.{IsConverted, list_start}
use Rattle.eb_place.proofs.ConvertedRows.{IsOf, convert_of, pack_no_converted, lists_long, pack_value, pack_directory}

-- ---- all stores of the writer are none of the converter's

writers_after : (σ : Setting) (ys zs : List Doc) → IsSetting σ → IsLawful σ (ys ++ zs) → Each (λ (y : Store). IsWriters σ y.0) (placings_after σ ys zs)
unfolding placings_after
writers_after σ ys [] k h = none
writers_after σ ys (z ∷ zs) k h =
    let e : (ys ++ z ∷ []) ++ zs ≡ ys ++ (z ∷ zs) = append_assoc ys (z ∷ []) zs in
    let h' : IsLawful σ ((ys ++ z ∷ []) ++ zs) = subst (IsLawful σ) (sym e) h in
    let one = lawful_front σ (ys ++ z ∷ []) zs h' in
    let j = joins σ ys z k (placed_all σ ys k (lawful_front σ ys (z ∷ []) one)).short (lawful_last σ ys z one) in
    Each-append (doc_writers σ ys z _ _ j) (writers_after σ (ys ++ z ∷ []) zs k h')

pub moment_writers : (m : Moment) → IsMoment m → Each (λ (y : Store). IsWriters m.setting y.0) (document_stores m.setting m.documents)
unfolding document_stores
moment_writers m is =
    let p = started_stores m.setting m.documents.accepted m.documents.current in
    Each-front (document_stores m.setting m.documents) p.0 (subst (Each (λ (y : Store). IsWriters m.setting y.0)) (sym p.1)
    (writers_after m.setting [] (with_current m.documents) is.setting is.lawful))

-- ---- which segments have room, and which are elsewhere

-- a closed segment is one of the index
pub closed_room : (m : Moment) (s : ℕ) → IsMoment m → IsClosed m s → Room m.setting s (terms_of (segment m s))
closed_room m s is c =
    let p = placed_all m.setting (with_current m.documents) is.setting is.lawful in
    let short = p.short in
    p.room s (omega arith)

-- the stores of its conversion are within the index
closed_within : (m : Moment) (s : ℕ) → IsMoment m → IsClosed m s → Each (IsWithin m.setting) (segment_stores m.setting (with_current m.documents) s)
closed_within m s is c = Each-map (λ y q. q.within) (segment_packs m.setting (with_current m.documents) s (closed_room m s is c))

segment_of : (σ : Setting) (docs : List Doc) (v : ℕ) → Each (λ (y : Store). IsOf v y.0) (segment_stores σ docs v)
unfolding segment_stores
segment_of σ docs v = convert_of v (get_or (cut σ docs) v [])

of_one : (v s : ℕ) (x y : Slot) → IsOf v x → IsOf s y → x ≡ y → v ≡ s
of_one v s published y a b e = absurd a
of_one v s (slot w r i) published a b e = absurd b
of_one v s (slot w r i) (slot u q j) a b e = let k : w ≡ u = cc in sym a ∙ k ∙ b

other_segment : (σ : Setting) (docs : List Doc) (v s : ℕ) (x : Slot) → IsOf s x → (v ≡ s → ⊥) → Each (λ (y : Store). y.0 ≡ x → ⊥) (segment_stores σ docs v)
other_segment σ docs v s x h o = Each-map (λ y q e. o (of_one v s y.0 x q h e)) (segment_of σ docs v)

-- ---- a word of a converted segment is what its conversion stored

converted_in : (m : Moment) (is : IsMoment m) (D : List Store) (n s : ℕ) (x : Slot) → InTable m.setting x → IsOf s x → n ≤ m.conversions.converted → s < n
    → val m.setting (D ++ conversions m.setting (with_current m.documents) n) x ≡ val m.setting ((D ++ conversions m.setting (with_current m.documents) s) ++ segment_stores m.setting
    (with_current m.documents) s) x
unfolding conversions
converted_in m is D zero s x h o l k = absurd (omega arith)
converted_in m is D (suc n) s x h o l k =
    let σ = m.setting in
    let docs = with_current m.documents in
    let e : D ++ (conversions σ docs n ++ segment_stores σ docs n) ≡ (D ++ conversions σ docs n) ++ segment_stores σ docs n = sym (append_assoc D (conversions σ docs n) (segment_stores σ docs n)) in
    elim (cases_lt s n) [
      | inl low ↦
          ap (λ z. val σ z x) e
          ∙ val_keeps σ (D ++ conversions σ docs n) (segment_stores σ docs n) x h (closed_within m n is (is.closed n (omega arith))) (other_segment σ docs n s x o (λ q. absurd (omega arith)))
          ∙ converted_in m is D n s x h o (omega arith) low
      | inr high ↦ let q : n ≡ s = omega arith in ap (λ z. val σ z x) e ∙ ap (λ v. val σ ((D ++ conversions σ docs v) ++ segment_stores σ docs v) x) q
    ]

-- what is before the conversion of a segment
abbrev pub before_it : Moment → ℕ → List Store
before_it m s = document_stores m.setting m.documents ++ conversions m.setting (with_current m.documents) s

take_within : (m : Moment) (is : IsMoment m) (i : ℕ) → (1 ≤ i → IsClosed m m.conversions.converted)
    → Each (IsWithin m.setting) (take i (segment_stores m.setting (with_current m.documents) m.conversions.converted))
take_within m is zero h = none
take_within m is (suc i) h = Each-take (suc i) (closed_within m m.conversions.converted is (h (omega arith)))

pub converted_word : (m : Moment) (s : ℕ) (x : Slot) → IsMoment m → IsConverted m s → InTable m.setting x → IsOf s x
    → word m (place m.setting x) ≡ val m.setting (before_it m s ++ segment_stores m.setting (with_current m.documents) s) x
unfolding word conversion_stores
converted_word m s x is c h o =
    let σ = m.setting in
    let docs = with_current m.documents in
    let D = document_stores σ m.documents in
    let n = m.conversions.converted in
    let C = conversions σ docs n in
    let T = take m.conversions.packed (segment_stores σ docs n) in
    let e : D ++ (C ++ T) ≡ (D ++ C) ++ T = sym (append_assoc D C T) in
    ap (λ z. val σ z x) e
    ∙ val_keeps σ (D ++ C) T x h (take_within m is m.conversions.packed (λ l. (is.packs l).0)) (Each-take m.conversions.packed (other_segment σ docs n s x o (λ q. absurd (omega arith))))
    ∙ converted_in m is D n s x h o (omega arith) c

-- ---- the converted word

pub segment_inside : (m : Moment) (s : ℕ) → IsMoment m → IsConverted m s → s < m.setting.segments
segment_inside m s is c = (closed_room m s is (is.closed s c)).inside

-- it is 1 where the segment is converted
pub word_converted : (m : Moment) (s : ℕ) → IsMoment m → IsConverted m s → word m (place m.setting (slot s converted_region 0)) ≡ 1
unfolding segment_stores convert_stores size
word_converted m s is c =
    let σ = m.setting in
    let docs = with_current m.documents in
    let seg = segment m s in
    let P = pack_stores s seg 0 0 (distinct (terms_of seg)) in
    let x = slot s converted_region 0 in
    let B = before_it m s in
    let e : B ++ (P ++ (x, 1) ∷ []) ≡ (B ++ P) ++ (x, 1) ∷ [] = sym (append_assoc B P ((x, 1) ∷ [])) in
    converted_word m s x is c (segment_inside m s is c, omega arith) refl ∙ ap (λ z. val σ z x) e ∙ val_stored σ (B ++ P) x 1

writers_away : (σ : Setting) (L : List Store) (x : Slot) → is_packed x ≡ true → Each (λ (y : Store). IsWriters σ y.0) L → Each (λ (y : Store). y.0 ≡ x → ⊥) L
writers_away σ L x p h = Each-map (λ y w e. false≢true (sym w.plain ∙ ap is_packed e ∙ p)) h

not_yet : (m : Moment) (is : IsMoment m) (L : List Store) (n s : ℕ) (x : Slot) → InTable m.setting x → IsOf s x → n ≤ m.conversions.converted → n ≤ s
    → val m.setting (L ++ conversions m.setting (with_current m.documents) n) x ≡ val m.setting L x
unfolding conversions
not_yet m is L zero s x h o l k = ap (λ z. val m.setting z x) (append-nil L)
not_yet m is L (suc n) s x h o l k =
    let σ = m.setting in
    let docs = with_current m.documents in
    ap (λ z. val σ z x) (sym (append_assoc L (conversions σ docs n) (segment_stores σ docs n)))
    ∙ val_keeps σ (L ++ conversions σ docs n) (segment_stores σ docs n) x h (closed_within m n is (is.closed n (omega arith))) (other_segment σ docs n s x o (λ q. absurd (omega arith)))
    ∙ not_yet m is L n s x h o (omega arith) (omega arith)

unfinished : (s : ℕ) (P : List Store) (y : Store) (i : ℕ) → i < length (P ++ y ∷ []) → Each (λ (z : Store). z.0 ≡ slot s converted_region 0 → ⊥) P
    → Each (λ (z : Store). z.0 ≡ slot s converted_region 0 → ⊥) (take i (P ++ y ∷ []))
unfinished s P y i h e = subst (Each (λ (z : Store). z.0 ≡ slot s converted_region 0 → ⊥)) (sym (take-append-le i P (y ∷ []) (omega (arith, length-append P (y ∷ []))))) (Each-take i e)

-- the stores of a conversion that isn't finished leave the converted word
unfinished_here : (σ : Setting) (docs : List Doc) (n s j : ℕ) → j < length (segment_stores σ docs n) → n ≡ s
    → Each (λ (y : Store). y.0 ≡ slot s converted_region 0 → ⊥) (take j (segment_stores σ docs n))
unfolding segment_stores convert_stores
unfinished_here σ docs n s j l q =
    let seg = get_or (cut σ docs) n [] in
    let P = pack_stores n seg 0 0 (distinct (terms_of seg)) in
    unfinished s P (slot n converted_region 0, 1) j l (subst (λ v. Each (λ (y : Store). y.0 ≡ slot v converted_region 0 → ⊥) P) q (pack_no_converted n seg 0 0 (distinct (terms_of seg))))

unfinished_left : (σ : Setting) (docs : List Doc) (n s i : ℕ) → (1 ≤ i → i < length (segment_stores σ docs n))
    → Each (λ (y : Store). y.0 ≡ slot s converted_region 0 → ⊥) (take i (segment_stores σ docs n))
unfinished_left σ docs n s zero l = none
unfinished_left σ docs n s (suc i) l = elim (cases_eq n s) [
  | inl same ↦ unfinished_here σ docs n s (suc i) (l (omega arith)) same
  | inr other ↦ Each-take (suc i) (other_segment σ docs n s (slot s converted_region 0) refl other)
]

-- and 0 where it isn't
pub word_not_converted : (m : Moment) (s : ℕ) → IsMoment m → s < m.setting.segments → m.conversions.converted ≤ s → word m (place m.setting (slot s converted_region 0)) ≡ 0
unfolding word conversion_stores size is_packed value_after
word_not_converted m s is ins c =
    let σ = m.setting in
    let docs = with_current m.documents in
    let D = document_stores σ m.documents in
    let n = m.conversions.converted in
    let C = conversions σ docs n in
    let i = m.conversions.packed in
    let T = take i (segment_stores σ docs n) in
    let x = slot s converted_region 0 in
    let h : InTable σ x = (ins, omega arith) in
    let w = moment_writers m is in
    ap (λ z. val σ z x) (sym (append_assoc D C T))
    ∙ val_keeps σ (D ++ C) T x h (take_within m is i (λ l. (is.packs l).0)) (unfinished_left σ docs n s i (λ l. (is.packs l).1))
    ∙ not_yet m is D n s x h refl (omega arith) c
    ∙ val_keeps σ [] D x h (Each-map (λ y q. q.within) w) (writers_away σ D x refl w)

-- what a reader that loads 1 may conclude
pub is_converted : (m : Moment) (s : ℕ) → IsMoment m → s < m.setting.segments → word m (place m.setting (slot s converted_region 0)) ≡ 1 → IsConverted m s
is_converted m s is ins e = elim (cases_lt s m.conversions.converted) [
  | inl low ↦ low
  | inr high ↦ let z = word_not_converted m s is ins high in absurd (omega arith)
]

-- ---- the directory word and the packed words of a term

-- a list of terms up to one, and after it
sum_front : (f : Term → ℕ) (ts : List Term) (k : ℕ) → k < length ts → sum_by f (take k ts) + f (get_or ts k []) ≤ sum_by f ts
sum_front f [] k h = absurd (omega arith)
sum_front f (t ∷ ts) zero h = omega (arith, sum_by-cons f t ts)
sum_front f (t ∷ ts) (suc k) h = omega (arith, sum_by-cons f t ts, sum_by-cons f t (take k ts), sum_front f ts k (omega arith))

-- the packed words of a term find room
pub list_fits : (m : Moment) (s : ℕ) (t : Term) (k : ℕ) → IsMoment m → IsConverted m s → IsTerm m s t k → list_start (segment m s) k + length (packed t (segment m s)) ≤ 34 * m.setting.terms
unfolding list_start
list_fits m s t k is c h =
    let seg = segment m s in
    let ts = distinct (terms_of seg) in
    let f = λ (u : Term). length (packed u seg) in
    let a = term_of_number m s t k h in
    let b = sum_front f ts k a.0 in
    let e = ap f a.1 in
    let cl = is.closed s c in
    let p = packs_fit m.setting (with_current m.documents) s is.setting is.lawful (omega arith) in
    omega (arith, p)

converted_packs : (m : Moment) (s : ℕ) → IsMoment m → IsConverted m s → Each (IsWithin m.setting) (pack_stores s (segment m s) 0 0 (distinct (terms_of (segment m s))))
unfolding segment_stores convert_stores
converted_packs m s is c = Each-front (pack_stores s (segment m s) 0 0 (distinct (terms_of (segment m s)))) ((slot s converted_region 0, 1) ∷ []) (closed_within m s is (is.closed s c))

-- the stores of a conversion, without the last
without_last : (m : Moment) (s : ℕ) (x : Slot) → IsMoment m → IsConverted m s → InTable m.setting x → IsOf s x → (x ≡ slot s converted_region 0 → ⊥)
    → word m (place m.setting x) ≡ val m.setting (before_it m s ++ pack_stores s (segment m s) 0 0 (distinct (terms_of (segment m s)))) x
unfolding segment_stores convert_stores size
without_last m s x is c h o away =
    let σ = m.setting in
    let seg = segment m s in
    let P = pack_stores s seg 0 0 (distinct (terms_of seg)) in
    let l : Store = (slot s converted_region 0, 1) in
    let B = before_it m s in
    converted_word m s x is c h o ∙ ap (λ z. val σ z x) (sym (append_assoc B P (l ∷ [])))
    ∙ val_keeps σ (B ++ P) (l ∷ []) x h (more (segment_inside m s is c, omega arith) none) (more (λ e. away (sym e)) none)

-- the directory word: where the packed list begins, and how many postings it has
pub word_directory : (m : Moment) (s : ℕ) (t : Term) (k : ℕ) → IsMoment m → IsConverted m s → IsTerm m s t k
    → word m (place m.setting (slot s directory_region k)) ≡ list_start (segment m s) k * 2 ^ 32 + frequency t (segment m s)
unfolding list_start size
word_directory m s t k is c h =
    let σ = m.setting in
    let seg = segment m s in
    let ts = distinct (terms_of seg) in
    let a = term_of_number m s t k h in
    let room = closed_room m s is (is.closed s c) in
    let few = room.fits.few in
    let l : 0 + k < σ.terms = omega (arith, a.0) in
    let z : 0 + k ≡ k = omega arith in
    without_last m s (slot s directory_region k) is c (room.inside, omega arith) refl (λ e. absurd cc)
    ∙ ap (λ n. val σ (before_it m s ++ pack_stores s seg 0 0 ts) (slot s directory_region n)) (sym z)
    ∙ pack_directory σ (before_it m s) s seg 0 0 ts k room.inside (converted_packs m s is c) a.0 l
    ∙ ap (λ u. (0 + lists_long seg (take k ts)) * 2 ^ 32 + frequency u seg) a.1 ∙ ap (λ n. n * 2 ^ 32 + frequency t seg) (omega arith)

-- the packed words from there on: the packed list
pub word_packed_list : (m : Moment) (s : ℕ) (t : Term) (k i : ℕ) → IsMoment m → IsConverted m s → IsTerm m s t k → i < length (packed t (segment m s))
    → word m (place m.setting (slot s packed_region (list_start (segment m s) k + i))) ≡ get_or (packed t (segment m s)) i 0
unfolding list_start size
word_packed_list m s t k i is c h l =
    let σ = m.setting in
    let seg = segment m s in
    let ts = distinct (terms_of seg) in
    let a = term_of_number m s t k h in
    let S = lists_long seg (take k ts) in
    let room = closed_room m s is (is.closed s c) in
    let fits : S + length (packed t seg) ≤ 34 * σ.terms = list_fits m s t k is c h in
    let z : 0 + S + i ≡ S + i = omega arith in
    let b : i < length (packed (get_or ts k []) seg) = subst (λ (u : Term). i < length (packed u seg)) (sym a.1) l in
    without_last m s (slot s packed_region (S + i)) is c (room.inside, omega arith) refl (λ e. absurd cc)
    ∙ ap (λ n. val σ (before_it m s ++ pack_stores s seg 0 0 ts) (slot s packed_region n)) (sym z)
    ∙ pack_value σ (before_it m s) s seg 0 0 ts k i room.inside (converted_packs m s is c) a.0 b (omega arith)
    ∙ ap (λ (u : Term). get_or (packed u seg) i 0) a.1

-- ---- at every later moment

pub later_converted : (m n : Moment) (s : ℕ) → IsNotBefore n m → IsConverted m s → IsConverted n s
later_converted m n s l c = at l.conversions
  where
    at : ReachesPacked m.conversions n.conversions → IsConverted n s
    at (inl p) = omega arith
    at (inr p) = let e = p.0 in omega arith

-- a closed segment is the same
pub closed_segment : (m n : Moment) (s : ℕ) → IsNotBefore n m → IsClosed m s → segment n s ≡ segment m s
closed_segment m n s l c =
    let p = later_started m n l in
    let r = closed_stays m.setting (with_current m.documents) p.0 s c in
    ap (λ (σ : Setting). get_or (cut σ (with_current n.documents)) s []) (sym l.setting) ∙ ap (λ (z : List Doc). get_or (cut m.setting z) s []) (sym p.1) ∙ r.1

-- and stays closed
pub closed_later : (m n : Moment) (s : ℕ) → IsNotBefore n m → IsClosed m s → IsClosed n s
closed_later m n s l c =
    let p = later_started m n l in
    let r = closed_stays m.setting (with_current m.documents) p.0 s c in
    let lens : length (cut n.setting (with_current n.documents)) ≡ length (cut m.setting (with_current m.documents ++ p.0)) =
    ap (λ (σ : Setting). length (cut σ (with_current n.documents))) (sym l.setting) ∙ ap (λ (z : List Doc). length (cut m.setting z)) (sym p.1) in
    omega (arith, r.0, lens)

pub converted_segment : (m n : Moment) (s : ℕ) → IsMoment m → IsNotBefore n m → IsConverted m s → segment n s ≡ segment m s
converted_segment m n s is l c = closed_segment m n s l (is.closed s c)
