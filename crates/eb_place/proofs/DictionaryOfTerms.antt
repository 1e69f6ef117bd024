-- What the words of a segment's dictionary are where exactly these terms are entered.
use Rattle.std.proofs.Common.{◌≡◌, ℕ, zero, suc, ◌+◌, ◌*◌, ◌<◌, ◌≤◌, false, List, [], ◌∷◌, ◌++◌, length, take, get_or, sum_by, refl, ap, sym, ◌∙◌, subst, arith, inl, inr, append_assoc}
use Rattle.std.proofs.lemmas.Bool.{cases_lt}
use Rattle.std.proofs.lemmas.List.{length_push, take-append-le, take_at, get_or_append_left}
use Rattle.std.proofs.lemmas.List.Sums.{sum_by_push, sum_by-cons}
use Rattle.std.proofs.Math.Seq.{get_or-append_seam}
use Rattle.eb_base.specs.Term.{Term}
use Rattle.eb_base.specs.Setting.{Setting}
use Rattle.eb_place.specs.Layout.{size}
use Rattle.eb_place.specs.Layout.Slot.{slot}
use Rattle.eb_place.specs.Layout.Region.{cell_region, text_region, text_place_region}
use Rattle.eb_place.specs.Room.{text_words}
use Rattle.eb_place.specs.Placing.{Store, in_row, text_of, enter_stores, cells_of, cell_of_next}
use Rattle.eb_place.specs.Seen.{is_in}
use Rattle.eb_place.proofs.FreshPoolWords.{Each, Each-append}
use Rattle.eb_place.proofs.FreshPoolWords.Each.{none, more}
use Rattle.eb_place.proofs.StoresWithinTable.{IsWithin, cell_within, row_within, length-text_of}
use Rattle.eb_place.proofs.WordsOfTokens.{val, val_stored, val_keeps, Each-map}
use Rattle.eb_place.proofs.EnteredTermCells.{Entered}
use Rattle.eb_place.proofs.EntryStores.{not_in}

-- there is room for these terms
pub record HasTerms (σ : Setting) (s : ℕ) (terms : List Term) : Type 0 where
  pub inside : s < σ.segments
  pub few : length terms ≤ σ.terms
  pub texts : sum_by text_words terms ≤ 4 * σ.terms

-- so the stores that enter one more of them are within the table
pub enter_within : (σ : Setting) (s : ℕ) (terms : List Term) (t : Term) → HasTerms σ s (terms ++ t ∷ []) → Each (IsWithin σ) (enter_stores σ s terms t)
unfolding enter_stores size
enter_within σ s terms t h =
    let n = length_push terms t in
    let m = sum_by_push text_words terms t in
    let few = h.few in
    let texts = h.texts in
    Each-append (row_within σ s (sum_by text_words terms) (text_of t) h.inside (omega (arith, length-text_of t)))
    (more (h.inside, omega arith) (more (h.inside, cell_within terms t (2 * σ.terms) (omega arith)) none))

-- ---- a row of words

text_index : (s i j : ℕ) → slot s text_region i ≡ slot s text_region j → i ≡ j
text_index s i j e = cc

text_place_index : (s i j : ℕ) → slot s text_place_region i ≡ slot s text_place_region j → i ≡ j
text_place_index s i j e = cc

-- stores of a row go to its words
pub row_from : (s i : ℕ) (vs : List ℕ) (j : ℕ) → j < i → Each (λ (y : Store). y.0 ≡ slot s text_region j → ⊥) (in_row s text_region i vs)
row_from s i [] j h = none
row_from s i (v ∷ vs) j h = more (λ e. let k = text_index s i j e in omega arith) (row_from s (i + 1) vs j (omega arith))

-- the words of a row are its values
pub row_stored : (σ : Setting) (s i : ℕ) (vs : List ℕ) (L : List Store) (j : ℕ) → s < σ.segments → i + length vs ≤ 4 * σ.terms
    → j < length vs → val σ (L ++ in_row s text_region i vs) (slot s text_region (i + j)) ≡ get_or vs j 0
unfolding size
row_stored σ s i [] L j h l k = absurd (omega arith)
row_stored σ s i (v ∷ vs) L zero h l k =
    let e : L ++ (slot s text_region i, v) ∷ in_row s text_region (i + 1) vs ≡ (L ++ (slot s text_region i, v) ∷ []) ++ in_row s text_region (i + 1) vs =
    sym (append_assoc L ((slot s text_region i, v) ∷ []) (in_row s text_region (i + 1) vs)) in
    ap (λ z. val σ (L ++ (slot s text_region i, v) ∷ in_row s text_region (i + 1) vs) (slot s text_region z)) (let q : i + 0 ≡ i = omega arith in q)
    ∙ ap (λ z. val σ z (slot s text_region i)) e
    ∙ val_keeps σ (L ++ (slot s text_region i, v) ∷ []) (in_row s text_region (i + 1) vs) (slot s text_region i)
    (h, omega arith) (row_within σ s (i + 1) vs h (omega arith)) (row_from s (i + 1) vs i (omega arith))
    ∙ val_stored σ L (slot s text_region i) v
row_stored σ s i (v ∷ vs) L (suc j) h l k =
    let e : L ++ (slot s text_region i, v) ∷ in_row s text_region (i + 1) vs ≡ (L ++ (slot s text_region i, v) ∷ []) ++ in_row s text_region (i + 1) vs =
    sym (append_assoc L ((slot s text_region i, v) ∷ []) (in_row s text_region (i + 1) vs)) in
    ap (λ z. val σ (L ++ (slot s text_region i, v) ∷ in_row s text_region (i + 1) vs) (slot s text_region z)) (let q : i + suc j ≡ i + 1 + j = omega arith in q)
    ∙ ap (λ z. val σ z (slot s text_region (i + 1 + j))) e
    ∙ row_stored σ s (i + 1) vs (L ++ (slot s text_region i, v) ∷ []) j h (omega arith) (omega arith)

-- ---- the texts

-- the text places and text words of these terms
pub record Texts (σ : Setting) (s : ℕ) (terms : List Term) (L : List Store) : Type 0 where
  pub at : (k : ℕ) → k < length terms → val σ L (slot s text_place_region k) ≡ sum_by text_words (take k terms)
  pub text : (k i : ℕ) → k < length terms → i < text_words (get_or terms k []) → val σ L (slot s text_region (sum_by text_words (take k terms) + i)) ≡ get_or (text_of (get_or terms k [])) i 0

-- a store to no cell, to no text place of these terms and to none of their text words
pub record Behind (s : ℕ) (terms : List Term) (y : Store) : Type 0 where
  pub cell : (c : ℕ) → y.0 ≡ slot s cell_region c → ⊥
  pub at : (k : ℕ) → k < length terms → y.0 ≡ slot s text_place_region k → ⊥
  pub text : (i : ℕ) → i < sum_by text_words terms → y.0 ≡ slot s text_region i → ⊥
  pub test : is_in s cell_region y ≡ false

-- the words of a term end where those of the next begin
pub text_ends : (k : ℕ) (terms : List Term) → k < length terms → sum_by text_words (take k terms) + text_words (get_or terms k []) ≤ sum_by text_words terms
text_ends zero [] h = absurd (omega arith)
text_ends zero (t ∷ ts) h = omega (arith, sum_by-cons text_words t ts)
text_ends (suc k) [] h = absurd (omega arith)
text_ends (suc k) (t ∷ ts) h = omega (arith, sum_by-cons text_words t ts, sum_by-cons text_words t (take k ts), text_ends k ts (omega arith))

texts_kept : (σ : Setting) (s : ℕ) (terms : List Term) (L M : List Store) → HasTerms σ s terms → Each (IsWithin σ) M
    → ((k : ℕ) → k < length terms → Each (λ (y : Store). y.0 ≡ slot s text_place_region k → ⊥) M) → ((i : ℕ) → i < sum_by text_words terms → Each (λ (y : Store). y.0 ≡ slot s text_region i → ⊥) M)
    → Texts σ s terms L → Texts σ s terms (L ++ M)
unfolding size
texts_kept σ s terms L M room all places texts h = record {
  at = λ k l. (let few = room.few in val_keeps σ L M (slot s text_place_region k) (room.inside, omega arith) all (places k l) ∙ h.at k l);
  text = λ k i l j.
      (let w = text_ends k terms l in
      let most = room.texts in
      val_keeps σ L M (slot s text_region (sum_by text_words (take k terms) + i)) (room.inside, omega arith) all (texts (sum_by text_words (take k terms) + i) (omega arith)) ∙ h.text k i l j);
}

-- such stores leave the texts
pub texts_keep : (σ : Setting) (s : ℕ) (terms : List Term) (L M : List Store) → HasTerms σ s terms → Each (IsWithin σ) M → Each (Behind s terms) M → Texts σ s terms L → Texts σ s terms (L ++ M)
texts_keep σ s terms L M room all behind h = texts_kept σ s terms L M room all (λ k l. Each-map (λ y b. b.at k l) behind) (λ i l. Each-map (λ y b. b.text i l) behind) h

-- and the cells
pub entered_keep : (σ : Setting) (s : ℕ) (terms : List Term) (L M : List Store) → s < σ.segments → ((k : ℕ) → k < length terms → get_or (cells_of (2 * σ.terms) terms) k 0 < 2 * σ.terms)
    → Each (IsWithin σ) M → Each (Behind s terms) M → Entered σ s terms L → Entered σ s terms (L ++ M)
unfolding size
entered_keep σ s terms L M inside low all behind h = record {
  cell = λ k l. val_keeps σ L M (slot s cell_region (get_or (cells_of (2 * σ.terms) terms) k 0)) (inside, low k l) all (Each-map (λ y b. b.cell (get_or (cells_of (2 * σ.terms) terms) k 0)) behind)
      ∙ h.cell k l;
  free = λ c l o. val_keeps σ L M (slot s cell_region c) (inside, l) all (Each-map (λ y b. b.cell c) behind) ∙ h.free c l o;
}

-- a store of the text of the next term
text_behind : (s i : ℕ) (terms : List Term) (vs : List ℕ) → sum_by text_words terms ≤ i → Each (Behind s terms) (in_row s text_region i vs)
text_behind s i terms [] h = none
text_behind s i terms (v ∷ vs) h = more (record {
  cell = λ c e. absurd cc;
  at = λ k l e. absurd cc;
  text = λ j l e. (let k = text_index s i j e in omega arith);
  test = not_in s s cell_region text_region i v refl;
}) (text_behind s (i + 1) terms vs (omega arith))

-- the stores of the next term but that of its cell
pub text_stores : ℕ → List Term → Term → List Store
text_stores s terms t = in_row s text_region (sum_by text_words terms) (text_of t) ++ (slot s text_place_region (length terms), sum_by text_words terms) ∷ []

pub enter_split : (σ : Setting) (s : ℕ) (terms : List Term) (t : Term)
    → enter_stores σ s terms t ≡ text_stores s terms t ++ (slot s cell_region (cell_of_next (2 * σ.terms) terms t), length terms + 1) ∷ []
unfolding enter_stores text_stores
enter_split σ s terms t = sym (append_assoc (in_row s text_region (sum_by text_words terms) (text_of t))
    ((slot s text_place_region (length terms), sum_by text_words terms) ∷ []) ((slot s cell_region (cell_of_next (2 * σ.terms) terms t), length terms + 1) ∷ []))

pub text_stores_behind : (s : ℕ) (terms : List Term) (t : Term) → Each (Behind s terms) (text_stores s terms t)
unfolding text_stores
text_stores_behind s terms t = Each-append (text_behind s (sum_by text_words terms) terms (text_of t) (omega arith)) (more (record {
  cell = λ c e. absurd cc;
  at = λ k l e. (let q = text_place_index s (length terms) k e in omega arith);
  text = λ i l e. absurd cc;
  test = not_in s s cell_region text_place_region (length terms) (sum_by text_words terms) refl;
}) none)

-- one more term
pub texts_done : (σ : Setting) (s : ℕ) (terms : List Term) (t : Term) (L : List Store)
    → HasTerms σ s (terms ++ t ∷ []) → Texts σ s terms L → Texts σ s (terms ++ t ∷ []) (L ++ enter_stores σ s terms t)
unfolding size text_stores
texts_done σ s terms t L room h =
    let n = length_push terms t in
    let q = sum_by_push text_words terms t in
    let few = room.few in
    let most = room.texts in
    let inside = room.inside in
    let w = length-text_of t in
    let a = sum_by text_words terms in
    let old : HasTerms σ s terms = record { inside = inside; few = omega arith; texts = omega arith } in
    let all = enter_within σ s terms t room in
    let R : List Store = in_row s text_region a (text_of t) in
    let x : Store = (slot s text_place_region (length terms), a) in
    let y : Store = (slot s cell_region (cell_of_next (2 * σ.terms) terms t), length terms + 1) in
    let e : L ++ enter_stores σ s terms t ≡ ((L ++ R) ++ x ∷ []) ++ y ∷ [] = ap (λ z. L ++ z) (enter_split σ s terms t)
    ∙ sym (append_assoc L (R ++ x ∷ []) (y ∷ [])) ∙ ap (λ z. z ++ y ∷ []) (sym (append_assoc L R (x ∷ []))) in
    let c = cell_within terms t (2 * σ.terms) (omega arith) in
    let cell_in : Each (IsWithin σ) (y ∷ []) = more (inside, c) none in
    let kept : Texts σ s terms (L ++ enter_stores σ s terms t) =
    texts_kept σ s terms L (enter_stores σ s terms t) old all
    (λ k l. subst (Each (λ (z : Store). z.0 ≡ slot s text_place_region k → ⊥)) (sym (enter_split σ s terms t))
    (Each-append (Each-map (λ z b. b.at k l) (text_stores_behind s terms t)) (more (λ e. absurd cc) none)))
    (λ i l. subst (Each (λ (z : Store). z.0 ≡ slot s text_region i → ⊥)) (sym (enter_split σ s terms t))
    (Each-append (Each-map (λ z b. b.text i l) (text_stores_behind s terms t)) (more (λ e. absurd cc) none)))
    h in
    record {
      at = λ k l. elim (cases_lt k (length terms)) [
        | inl low ↦ kept.at k low ∙ ap (sum_by text_words) (sym (take-append-le k terms (t ∷ []) (omega arith)))
        | inr high ↦
            let j : k ≡ length terms = omega arith in
            ap (λ z. val σ (L ++ enter_stores σ s terms t) (slot s text_place_region z)) j
            ∙ ap (λ z. val σ z (slot s text_place_region (length terms))) e
            ∙ val_keeps σ ((L ++ R) ++ x ∷ []) (y ∷ []) (slot s text_place_region (length terms)) (inside, omega arith) cell_in (more (λ e. absurd cc) none)
            ∙ val_stored σ (L ++ R) (slot s text_place_region (length terms)) a
            ∙ ap (sum_by text_words) (sym (take_at terms (t ∷ []) k (sym j)))
      ];
      text = λ k i l v. elim (cases_lt k (length terms)) [
        | inl low ↦
            let g : get_or (terms ++ t ∷ []) k [] ≡ get_or terms k [] = get_or_append_left terms (t ∷ []) [] k low in
            let g' = ap text_words g in
            ap (λ z. val σ (L ++ enter_stores σ s terms t) (slot s text_region (sum_by text_words z + i))) (take-append-le k terms (t ∷ []) (omega arith))
            ∙ kept.text k i low (omega arith)
            ∙ ap (λ z. get_or (text_of z) i 0) (sym g)
        | inr high ↦
            let j : k ≡ length terms = omega arith in
            let g : get_or (terms ++ t ∷ []) k [] ≡ t = ap (λ z. get_or (terms ++ t ∷ []) z []) j ∙ get_or-append_seam terms t [] [] in
            let g' = ap text_words g in
            ap (λ z. val σ (L ++ enter_stores σ s terms t) (slot s text_region (sum_by text_words z + i))) (take_at terms (t ∷ []) k (sym j))
            ∙ ap (λ z. val σ z (slot s text_region (a + i))) (e ∙ append_assoc (L ++ R) (x ∷ []) (y ∷ []))
            ∙ val_keeps σ (L ++ R) (x ∷ y ∷ []) (slot s text_region (a + i)) (inside, omega arith) (more (inside, omega arith) cell_in) (more (λ e. absurd cc) (more (λ e. absurd cc) none))
            ∙ row_stored σ s a (text_of t) L i inside (omega arith) (omega arith)
            ∙ ap (λ z. get_or (text_of z) i 0) (sym g)
      ];
    }
