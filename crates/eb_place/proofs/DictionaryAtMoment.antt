-- What the words of a segment's dictionary are at a moment.
use Rattle.std.proofs.Common.{◌≡◌, ℕ, ◌+◌, ◌-◌, ◌*◌, ◌<◌, ◌==◌, ◌||◌, Bool, true, false, cond, List, [], ◌∷◌, ◌++◌, length, take}
use Rattle.std.proofs.Common.{filter, get_or, count_by, sum_by, refl, ap, sym, ◌∙◌, subst, arith, inl, inr, append-nil, append_assoc}
use Rattle.std.proofs.lemmas.Bool.{cases_Bool, cases_lt, false≢true, ne_eqb}
use Rattle.std.proofs.lemmas.List.{length_push, length-append, take-append-le, take_all, take_at}
use Rattle.std.proofs.lemmas.List.Sums.{sum_by_push, sum_by-append, sum_by-cons}
use mathlib.Core.List.{IsPrefix}
use Rattle.eb_base.specs.Term.{Term}
use Rattle.eb_base.specs.Setting.{Setting}
use Rattle.eb_place.specs.declared.moment.Moment.{Moment}
use Rattle.eb_place.specs.Layout.{Slot, size, place}
use Rattle.eb_place.specs.Layout.Slot.{slot}
use Rattle.eb_place.specs.Layout.Region.{cell_region, text_region, text_place_region}
use Rattle.eb_place.specs.Postings.{terms_of, distinct}
use Rattle.eb_place.specs.Room.{text_words}
use Rattle.eb_place.specs.Placing.{Store, pairs_of, text_of, enter_stores, cells_of, cell_of_next}
use Rattle.eb_place.specs.Moments.{value_after, word, document_stores, IsMoment}
use Rattle.eb_place.specs.Seen.{segment, is_in, stores_in_region, entered}
use Rattle.eb_place.proofs.TermCounts.{by_push}
use Rattle.eb_place.proofs.PlacesOfSlots.{InTable, place_once}
use Rattle.eb_place.proofs.FreshPoolWords.{Each}
use Rattle.eb_place.proofs.FreshPoolWords.Each.{none, more}
use Rattle.eb_place.proofs.StoresWithinTable.{IsWithin}
use Rattle.eb_place.proofs.FreeCells.{is_taken}
use Rattle.eb_place.proofs.WordsOfTokens.{val, Each-map, Each-take}
use Rattle.eb_place.proofs.PackedStores.{is_packed}
use Rattle.eb_place.proofs.ReaderWords.{word_of_writer, moment_words}
use Rattle.eb_place.proofs.EnteredTermCells.{Entered, entered_done}
use Rattle.eb_place.proofs.CellsOfTerms.{cell_low}
use Rattle.eb_place.proofs.StoringTokens.{take_over, Each-back}
use Rattle.eb_place.proofs.RegionStores.{picks_done, moment_within, count_by-append, count_none}
use Rattle.eb_place.proofs.EntryStores.{is_entry, entries, entries_push, entries_picked, in_region, text_entry, text_place_entry, cell_entry}
use Rattle.eb_place.proofs.DictionaryOfTerms.{text_ends, HasTerms, Texts, Behind, text_stores, enter_split, text_stores_behind, enter_within, texts_done, texts_keep, entered_keep}

-- ---- a prefix of the entries

-- of the first j of these stores: some terms are entered, and the stores after theirs are of the
-- next one's text
pub record Cut (σ : Setting) (s : ℕ) (before terms : List Term) (j : ℕ) : Type 0 where
  pub done : List Term
  pub left : List Term
  pub all : terms ≡ done ++ left
  pub part : List Store
  pub is : take j (entries σ s before terms) ≡ entries σ s before done ++ part
  pub behind : Each (Behind s (before ++ done)) part

-- a prefix of the stores that enter terms
pub entries_cut : (σ : Setting) (s : ℕ) (before terms : List Term) (j : ℕ) → Cut σ s before terms j
unfolding entries
entries_cut σ s before [] j = record { done = []; left = []; all = refl; part = []; is = take_all j [] (omega arith); behind = none }
entries_cut σ s before (t ∷ ts) j =
    let E : List Store = enter_stores σ s before t in
    let rest : List Store = entries σ s (before ++ t ∷ []) ts in
    let y : Store = (slot s cell_region (cell_of_next (2 * σ.terms) before t), length before + 1) in
    let e = enter_split σ s before t in
    let n : length E ≡ length (text_stores s before t) + 1 = ap length e ∙ length_push (text_stores s before t) y in
    elim (cases_lt j (length E)) [
      | inl l ↦ record {
        done = [];
        left = t ∷ ts;
        all = refl;
        part = take j (text_stores s before t);
        is = take-append-le j E rest (omega arith) ∙ ap (take j) e ∙ take-append-le j (text_stores s before t) (y ∷ []) (omega arith);
        behind = subst (λ z. Each (Behind s z) (take j (text_stores s before t))) (sym (append-nil before)) (Each-take j (text_stores_behind s before t));
      }
      | inr l ↦
          let k = entries_cut σ s (before ++ t ∷ []) ts (j - length E) in
          record {
            done = t ∷ k.done;
            left = k.left;
            all = ap (λ z. t ∷ z) k.all;
            part = k.part;
            is = take_over j E rest l ∙ ap (λ z. E ++ z) k.is ∙ sym (append_assoc E (entries σ s (before ++ t ∷ []) k.done) k.part);
            behind = subst (λ z. Each (Behind s z) k.part) (append_assoc before (t ∷ []) k.done) k.behind;
          }
    ]

-- ---- how many cells are stored

-- one cell a term
pub cells_counted : (σ : Setting) (s : ℕ) (terms : List Term) → count_by (is_in s cell_region) (entries σ s [] terms) ≡ length terms
unfolding entries
cells_counted σ s = by_push (λ ts. count_by (is_in s cell_region) (entries σ s [] ts) ≡ length ts) refl step
  where
    step : (ts : List Term) (t : Term) → count_by (is_in s cell_region) (entries σ s [] ts) ≡ length ts → count_by (is_in s cell_region) (entries σ s [] (ts ++ t ∷ [])) ≡ length (ts ++ t ∷ [])
    step ts t ih =
        let p = is_in s cell_region in
        let c = cell_of_next (2 * σ.terms) ts t in
        let y : Store = (slot s cell_region c, length ts + 1) in
        let a = ap (count_by p) (entries_push σ s [] ts t) ∙ count_by-append p (entries σ s [] ts) (enter_stores σ s ts t) in
        let b = ap (count_by p) (enter_split σ s ts t) ∙ count_by-append p (text_stores s ts t) (y ∷ []) in
        let z = count_none p (text_stores s ts t) (Each-map (λ w k. k.test) (text_stores_behind s ts t)) in
        let one : count_by p (y ∷ []) ≡ 1 = rw (in_region s cell_region c (length ts + 1)) refl in
        omega (arith, a, b, z, one, ih, length_push ts t)

cell_is_entry : (s : ℕ) (y : Store) → is_entry s y ≡ false → is_in s cell_region y ≡ false
cell_is_entry s y h = last (is_in s text_region y) (is_in s text_place_region y) (is_in s cell_region y) h
  where
    last : (a b c : Bool) → (a || b || c) ≡ false → c ≡ false
    last true b c h = absurd (false≢true (sym h))
    last false true c h = absurd (false≢true (sym h))
    last false false c h = h

-- the kept stores have all cells
count_kept : (s : ℕ) (xs : List Store) → count_by (is_in s cell_region) (filter (is_entry s) xs) ≡ count_by (is_in s cell_region) xs
count_kept s [] = refl
count_kept s (x ∷ xs) =
    let one : Store → ℕ = λ y. cond (is_in s cell_region y) 1 0 in
    elim (cases_Bool (is_entry s x)) [
      | inl kept ↦ rw kept (sum_by-cons one x (filter (is_entry s) xs) ∙ ap (λ n. one x + n) (count_kept s xs) ∙ sym (sum_by-cons one x xs))
      | inr left ↦ rw left (count_kept s xs ∙ (let z : one x ≡ 0 = rw (cell_is_entry s x left) refl in omega (arith, z, sum_by-cons one x xs)))
    ]

-- ---- values

-- the words that entries go to have their values by these stores alone
pub val_kept : (σ : Setting) (s : ℕ) (x : Slot) (w : ℕ) (L : List Store) → InTable σ x → ((y : Store) → y.0 ≡ x → is_entry s y ≡ true)
    → Each (IsWithin σ) L → value_after (place σ x) w (pairs_of σ (filter (is_entry s) L)) ≡ value_after (place σ x) w (pairs_of σ L)
unfolding value_after
val_kept σ s x w [] h of none = refl
val_kept σ s x w (y ∷ L) h of (more i all) = elim (cases_Bool (is_entry s y)) [
  | inl kept ↦ rw kept (val_kept σ s x (cond (place σ y.0 == place σ x) y.1 w) L h of all)
  | inr left ↦
      let away : (place σ y.0 == place σ x) ≡ false = ne_eqb (place σ y.0) (place σ x) (λ q. false≢true (sym left ∙ of y (place_once σ y.0 x i h q))) in
      rw left (val_kept σ s x w L h of all ∙ ap (λ (b : Bool). value_after (place σ x) (cond b y.1 w) (pairs_of σ L)) (sym away))
]

-- the words where these terms are entered, one after the other
pub record Whole (σ : Setting) (s : ℕ) (terms : List Term) (L : List Store) : Type 0 where
  pub cells : Entered σ s terms L
  pub texts : Texts σ s terms L

has_before : (σ : Setting) (s : ℕ) (terms : List Term) (t : Term) → HasTerms σ s (terms ++ t ∷ []) → HasTerms σ s terms
has_before σ s terms t h = let few = h.few in let texts = h.texts in record { inside = h.inside; few = omega (arith, length_push terms t); texts = omega (arith, sum_by_push text_words terms t) }

pub entries_whole : (σ : Setting) (s : ℕ) (terms : List Term) → HasTerms σ s terms → Whole σ s terms (entries σ s [] terms)
unfolding entries value_after
entries_whole σ s = by_push (λ ts. HasTerms σ s ts → Whole σ s ts (entries σ s [] ts)) start step
  where
    start : HasTerms σ s [] → Whole σ s [] []
    start h = record {
      cells = record { cell = λ k l. absurd (omega arith); free = λ c l o. refl };
      texts = record { at = λ k l. absurd (omega arith); text = λ k i l j. absurd (omega arith) };
    }

    step : (ts : List Term) (t : Term) → (HasTerms σ s ts → Whole σ s ts (entries σ s [] ts)) → HasTerms σ s (ts ++ t ∷ []) → Whole σ s (ts ++ t ∷ []) (entries σ s [] (ts ++ t ∷ []))
    step ts t ih h =
        let old = ih (has_before σ s ts t h) in
        let few = h.few in
        subst (Whole σ s (ts ++ t ∷ [])) (sym (entries_push σ s [] ts t)) (record {
          cells = entered_done σ s ts t (entries σ s [] ts) h.inside (omega (arith, length_push ts t)) (enter_within σ s ts t h) old.cells;
          texts = texts_done σ s ts t (entries σ s [] ts) h old.texts;
        })

-- ---- at a moment

terms_room : (m : Moment) (s : ℕ) → IsMoment m → s < m.setting.segments → HasTerms m.setting s (distinct (terms_of (segment m s)))
terms_room m s is h = let w = moment_words m s is h in let fits = w.room.fits in record { inside = h; few = fits.few; texts = fits.texts }

has_front : (σ : Setting) (s : ℕ) (xs ys : List Term) → HasTerms σ s (xs ++ ys) → HasTerms σ s xs
has_front σ s xs ys h = let few = h.few in let texts = h.texts in record { inside = h.inside; few = omega (arith, length-append xs ys); texts = omega (arith, sum_by-append text_words xs ys) }

front_take : {X : Type 0} (xs ys : List X) → IsPrefix xs ys → xs ≡ take (length xs) ys
front_take xs ys p = sym (ap (take (length xs)) (sym p.1) ∙ take_at xs p.0 (length xs) refl)

-- which stores of the dictionary are done: those of the entered terms, and some of the text of the
-- next term
pub record Done (m : Moment) (s : ℕ) : Type 0 where
  pub left : List Term
  pub all : distinct (terms_of (segment m s)) ≡ entered m s ++ left
  pub cells : stores_in_region m s cell_region ≡ length (entered m s)
  pub part : List Store
  pub is : filter (is_entry s) (document_stores m.setting m.documents) ≡ entries m.setting s [] (entered m s) ++ part
  pub behind : Each (Behind s (entered m s)) part

pub entered_done_is : (m : Moment) (s : ℕ) → Done m s
unfolding entered stores_in_region
entered_done_is m s =
    let σ = m.setting in
    let D = distinct (terms_of (segment m s)) in
    let L = document_stores σ m.documents in
    let F = filter (is_entry s) L in
    let p = picks_done m s (is_entry s) (λ ts. entries σ s [] (distinct ts)) (entries_picked σ s) in
    let k = entries_cut σ s [] D (length F) in
    let f : F ≡ entries σ s [] k.done ++ k.part = front_take F (entries σ s [] D) p ∙ k.is in
    let n : count_by (is_in s cell_region) L ≡ length k.done =
    sym (count_kept s L) ∙ ap (count_by (is_in s cell_region)) f ∙ count_by-append (is_in s cell_region) (entries σ s [] k.done) k.part
    ∙ omega (arith, cells_counted σ s k.done, count_none (is_in s cell_region) k.part (Each-map (λ w b. b.test) k.behind)) in
    let e : take (count_by (is_in s cell_region) L) D ≡ k.done = ap (λ z. take z D) n ∙ ap (take (length k.done)) k.all ∙ take_at k.done k.left (length k.done) refl in
    record {
      left = k.left;
      all = k.all ∙ ap (λ z. z ++ k.left) (sym e);
      cells = n ∙ ap length (sym e);
      part = k.part;
      is = f ∙ ap (λ z. entries σ s [] z ++ k.part) (sym e);
      behind = subst (λ z. Each (Behind s z) k.part) (sym e) k.behind;
    }

-- the words of a segment's dictionary
pub record Dictionary (m : Moment) (s : ℕ) : Type 0 where
  pub room : HasTerms m.setting s (entered m s)
  pub cell : (k : ℕ) → k < length (entered m s) → word m (place m.setting (slot s cell_region (get_or (cells_of (2 * m.setting.terms) (entered m s)) k 0))) ≡ k + 1
  pub free : (c : ℕ) → c < 2 * m.setting.terms → is_taken (cells_of (2 * m.setting.terms) (entered m s)) c ≡ false → word m (place m.setting (slot s cell_region c)) ≡ 0
  pub at : (k : ℕ) → k < length (entered m s) → word m (place m.setting (slot s text_place_region k)) ≡ sum_by text_words (take k (entered m s))
  pub text : (k i : ℕ) → k < length (entered m s) → i < text_words (get_or (entered m s) k [])
      → word m (place m.setting (slot s text_region (sum_by text_words (take k (entered m s)) + i))) ≡ get_or (text_of (get_or (entered m s) k [])) i 0

dictionary_val : (m : Moment) (s : ℕ) (x : Slot) → IsMoment m → InTable m.setting x → (is_packed x ≡ true → ⊥) → ((y : Store) → y.0 ≡ x → is_entry s y ≡ true)
    → word m (place m.setting x) ≡ val m.setting (filter (is_entry s) (document_stores m.setting m.documents)) x
dictionary_val m s x is h away of = word_of_writer m x is h away ∙ sym (val_kept m.setting s x 0 (document_stores m.setting m.documents) h of (moment_within m is))

pub entered_room : (m : Moment) (s : ℕ) → IsMoment m → s < m.setting.segments → HasTerms m.setting s (entered m s)
entered_room m s is h = let d = entered_done_is m s in has_front m.setting s (entered m s) d.left (subst (HasTerms m.setting s) d.all (terms_room m s is h))

each_kept : {X : Type 0} {P : X → Type 0} (p : X → Bool) (xs : List X) → Each P xs → Each P (filter p xs)
each_kept p [] none = none
each_kept p (x ∷ xs) (more h t) = elim (cases_Bool (p x)) [
  | inl kept ↦ rw kept (more h (each_kept p xs t))
  | inr left ↦ rw left (each_kept p xs t)
]

pub entered_whole : (m : Moment) (s : ℕ) → IsMoment m → s < m.setting.segments → Whole m.setting s (entered m s) (filter (is_entry s) (document_stores m.setting m.documents))
entered_whole m s is h =
    let σ = m.setting in
    let d = entered_done_is m s in
    let E = entered m s in
    let room = entered_room m s is h in
    let few = room.few in
    let L = document_stores σ m.documents in
    let inside : Each (IsWithin σ) d.part = Each-back (entries σ s [] E) d.part (subst (Each (IsWithin σ)) d.is (each_kept (is_entry s) L (moment_within m is))) in
    let w = entries_whole σ s E room in
    subst (Whole σ s E) (sym d.is) (record {
      cells = entered_keep σ s E (entries σ s [] E) d.part h (λ k l. cell_low (2 * σ.terms) E (omega arith) k l) inside d.behind w.cells;
      texts = texts_keep σ s E (entries σ s [] E) d.part room inside d.behind w.texts;
    })

pub cell_not_packed : (s c : ℕ) → is_packed (slot s cell_region c) ≡ true → ⊥
unfolding is_packed
cell_not_packed s c h = false≢true h

text_not_packed : (s i : ℕ) → is_packed (slot s text_region i) ≡ true → ⊥
unfolding is_packed
text_not_packed s i h = false≢true h

text_place_not_packed : (s k : ℕ) → is_packed (slot s text_place_region k) ≡ true → ⊥
unfolding is_packed
text_place_not_packed s k h = false≢true h

-- a cell of a segment is a word of the index
pub cell_in_table : (σ : Setting) (s c : ℕ) → s < σ.segments → c < 2 * σ.terms → InTable σ (slot s cell_region c)
unfolding size
cell_in_table σ s c h l = (h, l)

pub text_place_in_table : (σ : Setting) (s k : ℕ) → s < σ.segments → k < σ.terms → InTable σ (slot s text_place_region k)
unfolding size
text_place_in_table σ s k h l = (h, l)

pub text_in_table : (σ : Setting) (s i : ℕ) → s < σ.segments → i < 4 * σ.terms → InTable σ (slot s text_region i)
unfolding size
text_in_table σ s i h l = (h, l)

-- the words of a segment's dictionary at a moment
pub dictionary : (m : Moment) (s : ℕ) → IsMoment m → s < m.setting.segments → Dictionary m s
dictionary m s is h =
    let σ = m.setting in
    let E = entered m s in
    let room = entered_room m s is h in
    let few = room.few in
    let texts = room.texts in
    let w = entered_whole m s is h in
    record {
      room = room;
      cell = λ k l.
          (let c = get_or (cells_of (2 * σ.terms) E) k 0 in
          dictionary_val m s (slot s cell_region c) is (cell_in_table σ s c h (cell_low (2 * σ.terms) E (omega arith) k l))
          (cell_not_packed s c) (λ y e. entry_at s y (slot s cell_region c) e (cell_entry s c)) ∙ w.cells.cell k l);
      free = λ c l o. dictionary_val m s (slot s cell_region c) is (cell_in_table σ s c h l) (cell_not_packed s c) (λ y e. entry_at s y (slot s cell_region c) e (cell_entry s c)) ∙ w.cells.free c l o;
      at = λ k l. dictionary_val m s (slot s text_place_region k) is (text_place_in_table σ s k h (omega arith))
          (text_place_not_packed s k) (λ y e. entry_at s y (slot s text_place_region k) e (text_place_entry s k)) ∙ w.texts.at k l;
      text = λ k i l j.
          (let a = sum_by text_words (take k E) + i in
          let b = text_ends k E l in
          dictionary_val m s (slot s text_region a) is (text_in_table σ s a h (omega arith)) (text_not_packed s a) (λ y e. entry_at s y (slot s text_region a) e (text_entry s a))
          ∙ w.texts.text k i l j);
    }
  where
    entry_at : (s : ℕ) (y : Store) (x : Slot) → y.0 ≡ x → ((v : ℕ) → is_entry s (x, v) ≡ true) → is_entry s y ≡ true
    entry_at s y x e h = ap (λ z. is_entry s (z, y.1)) e ∙ h y.1
