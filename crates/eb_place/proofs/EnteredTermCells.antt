-- The cells of the terms that are entered.
use Rattle.std.proofs.Common.{◌≡◌, ℕ, ◌+◌, ◌*◌, ◌<◌, ◌==◌, ◌||◌, Bool, true, false, List, [], ◌∷◌, ◌++◌, length, get_or, refl, ap, sym, ◌∙◌, arith, inl, inr, sum_by, append_assoc}
use Rattle.std.proofs.lemmas.Bool.{cases_lt, false≢true, eq-eqb}
use Rattle.std.proofs.lemmas.List.{length_push, get_or_append_left}
use Rattle.std.proofs.Math.Seq.{get_or-append_seam}
use Rattle.eb_base.specs.Term.{Term}
use Rattle.eb_base.specs.Setting.{Setting}
use Rattle.eb_place.specs.Layout.{size}
use Rattle.eb_place.specs.Layout.Slot.{slot}
use Rattle.eb_place.specs.Layout.Region.{cell_region, text_region, text_place_region}
use Rattle.eb_place.specs.Room.{text_words}
use Rattle.eb_place.specs.Placing.{Store, in_row, text_of, enter_stores, cells_of, cell_of_next}
use Rattle.eb_place.proofs.FreeCells.{is_taken}
use Rattle.eb_place.proofs.FreshPoolWords.{Each, Each-append}
use Rattle.eb_place.proofs.FreshPoolWords.Each.{none, more}
use Rattle.eb_place.proofs.StoresWithinTable.{IsWithin}
use Rattle.eb_place.proofs.WordsOfTokens.{val, val_stored, val_keeps}
use Rattle.eb_place.proofs.CellsOfTerms.{length-cells_of, cells_of_push, next_is_free, taken_here, cell_low, taken_push}

-- the cells where exactly these terms are entered
pub record Entered (σ : Setting) (s : ℕ) (terms : List Term) (L : List Store) : Type 0 where
  pub cell : (k : ℕ) → k < length terms → val σ L (slot s cell_region (get_or (cells_of (2 * σ.terms) terms) k 0)) ≡ k + 1
  pub free : (c : ℕ) → c < 2 * σ.terms → is_taken (cells_of (2 * σ.terms) terms) c ≡ false → val σ L (slot s cell_region c) ≡ 0

text_not_cell : (s c i : ℕ) (vs : List ℕ) → Each (λ (y : Store). y.0 ≡ slot s cell_region c → ⊥) (in_row s text_region i vs)
text_not_cell s c i [] = none
text_not_cell s c i (v ∷ vs) = more (λ e. absurd cc) (text_not_cell s c (i + 1) vs)

cell_index : (s i j : ℕ) → slot s cell_region i ≡ slot s cell_region j → i ≡ j
cell_index s i j e = cc

-- one more term
pub entered_done : (σ : Setting) (s : ℕ) (terms : List Term) (t : Term) (L : List Store) → s < σ.segments → length terms < σ.terms → Each (IsWithin σ) (enter_stores σ s terms t) → Entered σ s terms L
    → Entered σ s (terms ++ t ∷ []) (L ++ enter_stores σ s terms t)
unfolding enter_stores size
entered_done σ s terms t L hs few all h =
    let C = 2 * σ.terms in
    let c = cell_of_next C terms t in
    let X : List Store = in_row s text_region (sum_by text_words terms) (text_of t) in
    let x : Store = (slot s text_place_region (length terms), sum_by text_words terms) in
    let y : Store = (slot s cell_region c, length terms + 1) in
    let push = cells_of_push C terms t in
    let n = length-cells_of C terms in
    let fresh = next_is_free C terms t (omega arith) in
    let keep : (j : ℕ) → j < C → (c ≡ j → ⊥) → val σ (L ++ (X ++ x ∷ y ∷ [])) (slot s cell_region j) ≡ val σ L (slot s cell_region j) =
    λ j l o. val_keeps σ L (X ++ x ∷ y ∷ []) (slot s cell_region j) (hs, l) all
    (Each-append (text_not_cell s j (sum_by text_words terms) (text_of t)) (more (λ e. absurd cc) (more (λ e. o (cell_index s c j e)) none))) in
    record {
      cell = λ k l. elim (cases_lt k (length terms)) [
        | inl low ↦
            let e : get_or (cells_of C (terms ++ t ∷ [])) k 0 ≡ get_or (cells_of C terms) k 0 = ap (λ z. get_or z k 0) push ∙ get_or_append_left (cells_of C terms) (c ∷ []) 0 k (omega arith) in
            ap (λ z. val σ (L ++ (X ++ x ∷ y ∷ [])) (slot s cell_region z)) e
            ∙ keep (get_or (cells_of C terms) k 0) (cell_low C terms (omega arith) k low)
            (λ q. false≢true (sym fresh ∙ ap (is_taken (cells_of C terms)) q ∙ taken_here (cells_of C terms) k (omega arith)))
            ∙ h.cell k low
        | inr high ↦
            let at : k ≡ length terms = omega (arith, l, length_push terms t) in
            let e : get_or (cells_of C (terms ++ t ∷ [])) k 0 ≡ c = ap (λ z. get_or z k 0) push
            ∙ ap (λ j. get_or (cells_of C terms ++ c ∷ []) j 0) (let q : k ≡ length (cells_of C terms) = omega arith in q) ∙ get_or-append_seam (cells_of C terms) c [] 0 in
            let split : L ++ (X ++ x ∷ y ∷ []) ≡ ((L ++ X) ++ x ∷ []) ++ y ∷ [] = simp append_assoc in
            ap (λ z. val σ (L ++ (X ++ x ∷ y ∷ [])) (slot s cell_region z)) e ∙ ap (λ z. val σ z (slot s cell_region c)) split
            ∙ val_stored σ ((L ++ X) ++ x ∷ []) (slot s cell_region c) (length terms + 1) ∙ omega arith
      ];
      free = λ j l o.
          (let p : (is_taken (cells_of C terms) j || (j == c)) ≡ false = sym (taken_push (cells_of C terms) c j) ∙ ap (λ z. is_taken z j) (sym push) ∙ o in
          keep j l (λ q. false≢true (sym (right_false (is_taken (cells_of C terms) j) (j == c) p) ∙ eq-eqb j c (sym q))) ∙ h.free j l (left_false (is_taken (cells_of C terms) j) (j == c) p));
    }
  where
    left_false : (a b : Bool) → (a || b) ≡ false → a ≡ false
    left_false true b e = absurd (false≢true (sym e))
    left_false false b e = refl

    right_false : (a b : Bool) → (a || b) ≡ false → b ≡ false
    right_false true b e = absurd (false≢true (sym e))
    right_false false b e = e
