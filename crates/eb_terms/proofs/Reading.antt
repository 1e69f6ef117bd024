-- What the words of the dictionary say to a reader, also at later moments.
use Rattle.std.proofs.Common.{◌≡◌, ℕ, zero, suc, ◌+◌, ◌-◌, ◌*◌, ◌/◌, ◌^◌, ◌<◌, ◌≤◌, ◌==◌, List, [], ◌∷◌, length, get_or, sum_by, refl, ap, sym, ◌∙◌, subst, arith, inl, inr, nat_lt, None}
use Rattle.std.specs.List.{common_prefix_len}
use Rattle.std.proofs.lemmas.Bool.{cases_Bool, cases_lt, eq-eqb, ne_eqb}
use Rattle.eb_base.specs.Term.{Term, AreBytes}
use Rattle.eb_base.specs.Setting.{Setting, words_of}
use Rattle.eb_place.specs.declared.moment.Moment.{Moment}
use Rattle.eb_place.specs.Layout.{place}
use Rattle.eb_place.specs.Layout.Slot.{slot}
use Rattle.eb_place.specs.Layout.Region.{cell_region, text_region, text_place_region}
use Rattle.eb_place.specs.Room.{text_words}
use Rattle.eb_place.specs.Placing.{cells_of, text_of}
use Rattle.eb_place.specs.Moments.{word, IsMoment}
use Rattle.eb_place.specs.Later.{IsNotBefore}
use Rattle.eb_place.specs.Seen.{entered}
use Rattle.eb_place.proofs.PlacesOfSlots.{place_in}
use Rattle.eb_place.proofs.FreeCells.{is_taken}
use Rattle.eb_place.proofs.CellsOfTerms.{taken_where, length-cells_of}
use Rattle.eb_place.proofs.WordsAtMoment.{setting_terms}
use Rattle.eb_place.proofs.DictionaryOfTerms.{text_ends}
use Rattle.eb_place.proofs.DictionaryAtMoment.{dictionary, entered_room, text_in_table}
use Rattle.eb_place.proofs.EnteredTerms.{term_later, front_later, text_same}
use Rattle.eb_place.proofs.StoresWithinTable.{length-text_of}
use Rattle.eb_place.proofs.LaterMoments.{inside_later}
use Rattle.eb_terms.specs.Finding.{cells_in}
use Rattle.eb_terms.specs.Comparing.{term_at, cell_of, IsNumber, CellHolds, IsText, words_compared}

-- a cell is one of those of a later moment
pub cell_later : (m n : Moment) (c : ℕ) → IsNotBefore n m → c < cells_in m → c < cells_in n
cell_later m n c l h = subst (λ (σ : Setting). c < 2 * σ.terms) l.setting h

-- ---- what a word says

-- a cell without a number
pub holds_none : (m : Moment) (s c w : ℕ) → w ≡ word m (place m.setting (slot s cell_region c)) → w ≡ 0 → CellHolds m s c None
holds_none m s c w e z = ap (nat_lt 0) (sym e ∙ z)

-- a cell with a number
pub holds_number : (m : Moment) (s c w : ℕ) → IsMoment m → s < m.setting.segments → c < cells_in m
    → w ≡ word m (place m.setting (slot s cell_region c)) → 1 ≤ w → IsNumber m s (w - 1) × (cell_of m s (w - 1) ≡ c)
holds_number m s c w is h l e some =
    let d = dictionary m s is h in
    let E = entered m s in
    let C = cells_in m in
    elim (cases_Bool (is_taken (cells_of C E) c)) [
      | inr free ↦ absurd (omega (arith, e, d.free c l free))
      | inl full ↦
          let k = taken_where (cells_of C E) c full in
          let low : k.0 < length E = omega (arith, k.1, length-cells_of C E) in
          let v = e ∙ ap (λ z. word m (place m.setting (slot s cell_region z))) (sym k.2) ∙ d.cell k.0 low in
          let same : w - 1 ≡ k.0 = omega arith in
          (omega arith, ap (cell_of m s) same ∙ k.2)
    ]

-- a number is below that of the terms that a segment has room for
pub number_small : (m : Moment) (s k : ℕ) → IsMoment m → s < m.setting.segments → IsNumber m s k → (k < m.setting.terms) × (m.setting.terms ≤ 2 ^ 20)
number_small m s k is h l = let r = entered_room m s is h in let few = r.few in (omega arith, (setting_terms m.setting is.setting).1)

-- at the text place of a term: where its text begins
pub start_is : (m : Moment) (s k w : ℕ) → IsMoment m → s < m.setting.segments → IsNumber m s k → w ≡ word m (place m.setting (slot s text_place_region k)) → IsText m s k w
start_is m s k w is h l e = record { inside = h; number = l; start = e ∙ (dictionary m s is h).at k l }

-- a text word of a term is one of the segment's text words
pub text_low : (m : Moment) (s k at i : ℕ) → IsMoment m → IsText m s k at → i < text_words (term_at m s k) → at + i < 4 * m.setting.terms
text_low m s k at i is h l = let r = entered_room m s is h.inside in let most = r.texts in omega (arith, h.start, text_ends k (entered m s) h.number)

pub text_place : (m : Moment) (s k at i : ℕ) → IsMoment m → IsText m s k at → i < text_words (term_at m s k) → place m.setting (slot s text_region (at + i)) < words_of m.setting
text_place m s k at i is h l = place_in m.setting (slot s text_region (at + i)) (text_in_table m.setting s (at + i) h.inside (text_low m s k at i is h l))

-- its value
pub text_is : (m : Moment) (s k at i w : ℕ) → IsMoment m → IsText m s k at → i < text_words (term_at m s k)
    → w ≡ word m (place m.setting (slot s text_region (at + i))) → w ≡ get_or (text_of (term_at m s k)) i 0
text_is m s k at i w is h l e = e ∙ ap (λ z. word m (place m.setting (slot s text_region (z + i)))) h.start ∙ (dictionary m s is h.inside).text k i h.number l

-- ---- at later moments

pub number_later : (m n : Moment) (s k : ℕ) → IsNotBefore n m → IsNumber m s k → IsNumber n s k
number_later m n s k l h = (term_later m n s k l h).0

pub same_term_later : (m n : Moment) (s k : ℕ) → IsNotBefore n m → IsNumber m s k → term_at n s k ≡ term_at m s k
same_term_later m n s k l h = (term_later m n s k l h).1

pub text_later : (m n : Moment) (s k at : ℕ) → IsNotBefore n m → IsText m s k at → IsText n s k at
text_later m n s k at l h =
    let low : IsNumber m s k = h.number in
    record { inside = inside_later m n s l h.inside; number = number_later m n s k l h.number; start = h.start ∙ ap (sum_by text_words) (sym (front_later m n s k l (omega arith))) }

-- ---- comparing

-- the words before this place are the same
abbrev pub AreSame : List ℕ → List ℕ → ℕ → Type 0
AreSame xs ys n = (i : ℕ) → i < n → get_or xs i 0 ≡ get_or ys i 0

common_is : (xs ys : List ℕ) (n : ℕ) → n < length xs → n < length ys → AreSame xs ys n → (get_or xs n 0 ≡ get_or ys n 0 → ⊥) → common_prefix_len (λ x y. x == y) xs ys ≡ n
common_is [] ys n h l same differ = absurd (omega arith)
common_is (x ∷ xs) [] n h l same differ = absurd (omega arith)
common_is (x ∷ xs) (y ∷ ys) zero h l same differ = rw (ne_eqb x y differ) refl
common_is (x ∷ xs) (y ∷ ys) (suc n) h l same differ = rw (eq-eqb x y (same 0 (omega arith))) (omega (arith, common_is xs ys n (omega arith) (omega arith) (λ i k. same (suc i) (omega arith)) differ))

common_all : (xs ys : List ℕ) → length ys ≤ length xs → AreSame xs ys (length ys) → common_prefix_len (λ x y. x == y) xs ys ≡ length ys
common_all [] [] h same = refl
common_all [] (y ∷ ys) h same = absurd (omega arith)
common_all (x ∷ xs) [] h same = refl
common_all (x ∷ xs) (y ∷ ys) h same = rw (eq-eqb x y (same 0 (omega arith))) (omega (arith, common_all xs ys (omega arith) (λ i k. same (suc i) (omega arith))))

-- up to the first word that differs
pub compared_to : (xs ys : List ℕ) (n : ℕ) → n < length xs → n < length ys → AreSame xs ys n → (get_or xs n 0 ≡ get_or ys n 0 → ⊥) → words_compared xs ys ≡ n + 1
compared_to xs ys n h l same differ = omega (arith, common_is xs ys n h l same differ)

-- all of them
pub compared_all : (xs ys : List ℕ) → length ys ≤ length xs → AreSame xs ys (length ys) → words_compared xs ys ≡ length ys
compared_all xs ys h same = omega (arith, common_all xs ys h same)

-- where the lengths are the same, so are the numbers of words
pub words_same : (t u : Term) (n : ℕ) → 1 ≤ n → AreSame (text_of t) (text_of u) n → (length t ≡ length u) × (text_words t ≡ text_words u)
words_same t u n h same = let e : length t ≡ length u = same 0 (omega arith) in (e, ap (λ z. 1 + (z + 7) / 8) e)

-- a text begins at one of the segment's text words
pub start_small : (m : Moment) (s k at : ℕ) → IsMoment m → IsText m s k at → at < 2 ^ 32
start_small m s k at is h = let l = text_low m s k at 0 is h (omega arith) in let t = number_small m s k is h.inside h.number in omega (arith, l, t.1)

-- where all words before a text word are the same, both terms have this word
pub at_low : (t u : Term) (i : ℕ) → i < text_words u → AreSame (text_of t) (text_of u) i → i < text_words t
at_low t u zero l same = omega arith
at_low t u (suc i) l same = let w = words_same t u (suc i) (omega arith) same in omega (arith, w.1)

-- a word that differs is the last that is compared
pub compare_stops : (t u : Term) (i : ℕ) → i < text_words u → AreSame (text_of t) (text_of u) i
    → (get_or (text_of t) i 0 ≡ get_or (text_of u) i 0 → ⊥) → (t ≡ u → ⊥) × (words_compared (text_of t) (text_of u) ≡ i + 1)
compare_stops t u i l same differ =
    (λ e. differ (ap (λ z. get_or (text_of z) i 0) e), compared_to (text_of t) (text_of u) i (omega (arith, length-text_of t, at_low t u i l same)) (omega (arith, length-text_of u)) same differ)

-- where none differs, all are compared
pub compare_ends : (t u : Term) → AreBytes t → AreBytes u → AreSame (text_of t) (text_of u) (text_words u) → (t ≡ u) × (words_compared (text_of t) (text_of u) ≡ text_words u)
compare_ends t u h k same =
    let w = words_same t u (text_words u) (omega arith) same in
    let n = length-text_of u in
    let same' : AreSame (text_of t) (text_of u) (length (text_of u)) = λ i l. same i (omega arith) in
    (text_same t u h k w.0 same, compared_all (text_of t) (text_of u) (omega (arith, length-text_of t, w.1)) same' ∙ n)

-- one more word that is the same
pub same_more : (xs ys : List ℕ) (n : ℕ) → AreSame xs ys n → get_or xs n 0 ≡ get_or ys n 0 → AreSame xs ys (n + 1)
same_more xs ys n h e i l = elim (cases_lt i n) [
  | inl low ↦ h i low
  | inr high ↦ let q : i ≡ n = omega arith in ap (λ k. get_or xs k 0) q ∙ e ∙ ap (λ k. get_or ys k 0) (sym q)
]
