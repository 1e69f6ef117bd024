-- A window over the numbers of a document's terms.
use Rattle.std.proofs.Common.{◌≡◌, ℕ, suc, ◌+◌, ◌<◌, ◌≤◌, Bool, false, List, [], ◌∷◌, ◌++◌, length, drop, get_or, None, refl, sym, ap, ◌∙◌, arith, subst, drop-cons, length-append}
use Rattle.std.specs.Bool.{Decides}
use Rattle.std.specs.HashMap.{HashMap}
use Rattle.std.specs.declared.vec.Vec.{Vec}
use Rattle.std.proofs.lemmas.List.{get_or_append_left, get_or_default}
use Rattle.std.proofs.Math.Seq.{get_or-append_seam, drop-append_seam}
use Rattle.eb_base.specs.Match.{has_window}
use Rattle.eb_watch.specs.Ends.{AreEnds, IsNear, none, stepped, first_end}
use Rattle.eb_watch.specs.Message.{number_of, AreNumberedTo}
use Rattle.eb_watch.proofs.Numbered.{nowhere}
use Rattle.eb_watch.proofs.Phrases.{window_by}
use Rattle.eb_watch.proofs.Standing.{ArePlaces, StandNear, first_ends, next_ends, near_stands, stands_near, stand_has, stand_long, stand_last}

-- where they can't occur this near, the window isn't there
pub none_near : (window terms : List (List ℕ)) (reach : ℕ) → (StandNear terms window reach → ⊥) → false ≡ has_window window reach terms
none_near window terms reach never = window_by false window terms reach (λ h. absurd (let f : ⊥ = cc in f), λ s. absurd (never s))

pub no_terms : (terms : List (List ℕ)) (reach : ℕ) → false ≡ has_window [] reach terms
no_terms terms reach = refl

module _ (window before : List (List ℕ)) (last : List ℕ) (parts : window ≡ before ++ last ∷ []) where
  long : length window ≡ length before + 1
  long = ap length parts ∙ length-append before (last ∷ [])

  pub last_is : get_or window (length before) [] ≡ last
  last_is = ap (λ (xs : List (List ℕ)). get_or xs (length before) []) parts ∙ get_or-append_seam before last [] []

  pub before_is : (j : ℕ) (t : List ℕ) → j < length before → t ≡ get_or before j t → get_or window j [] ≡ t
  before_is j t l e = ap (λ (xs : List (List ℕ)). get_or xs j []) parts ∙ get_or_append_left before (last ∷ []) [] j l ∙ get_or_default before j [] t l ∙ sym e

  pub too_short : (terms : List (List ℕ)) (reach : ℕ) → reach < length before → false ≡ has_window window reach terms
  too_short terms reach l = none_near window terms reach (λ s. let h = stand_long terms window s.0 s.1 s.2 in absurd (omega (arith, h, s.3, long, l)))

  pub too_long : (terms : List (List ℕ)) (reach : ℕ) → length terms < length window → false ≡ has_window window reach terms
  too_long terms reach l = none_near window terms reach
      (λ s. let h = stand_long terms window s.0 s.1 s.2 in let k = stand_last terms window s.0 s.1 s.2 in absurd (omega (arith, h, k, l)))

  module _ {Z S : Type 0} (m : HashMap (Vec ℕ Z) ℕ S) (numbers : List ℕ) (terms : List (List ℕ)) (told : AreNumberedTo m numbers terms (length terms)) where
    pub absent : (j : ℕ) (t : List ℕ) (reach : ℕ) → j ≤ length before → get_or window j [] ≡ t → number_of m t ≡ None → false ≡ has_window window reach terms
    absent j t reach l e gone = none_near window terms reach
        (λ s. let k = stand_has terms window s.0 s.1 s.2 j (omega (arith, l, long)) in absurd (nowhere m numbers terms told (get_or window j []) (ap (number_of m) e ∙ gone) k.0 k.1))

  pub one_left : (terms : List (List ℕ)) (places ends : List ℕ) (number : ℕ) → ArePlaces places terms number last
      → ((k : ℕ) → k < length terms → get_or ends k 0 ≡ first_end number (get_or places k 0) k) → AreEnds terms (drop (length before) window) ends
  one_left terms places ends number at is =
      subst (λ (ts : List (List ℕ)). AreEnds terms ts ends) (sym (ap (drop (length before)) parts ∙ drop-append_seam before (last ∷ []))) (first_ends terms last places ends number at is)

  pub more_left : (terms : List (List ℕ)) (places old ends : List ℕ) (number p : ℕ) (t : List ℕ) →
      p < length before → get_or window p [] ≡ t → length old ≡ length terms → ArePlaces places terms number t
      → AreEnds terms (drop (suc p) window) old → ((k : ℕ) → k < length terms → get_or ends k 0 ≡ stepped number places old k) → AreEnds terms (drop p window) ends
  more_left terms places old ends number p t l e same at had is =
      let here : drop p window ≡ t ∷ drop (suc p) window = drop-cons window p [] (omega (arith, l, long)) ∙ ap (λ (x : List ℕ). x ∷ drop (suc p) window) e in
      let next : drop (suc p) window ≡ get_or window (suc p) [] ∷ drop (suc (suc p)) window = drop-cons window (suc p) [] (omega (arith, l, long)) in
      subst (λ (ts : List (List ℕ)). AreEnds terms ts ends) (sym (here ∙ ap (λ (ts : List (List ℕ)). t ∷ ts) next))
      (next_ends terms t (get_or window (suc p) []) (drop (suc (suc p)) window) places old ends number same at (subst (λ (ts : List (List ℕ)). AreEnds terms ts old) next had) is)

-- a test whether some end is near is the test of the window
pub near_by : (r : Bool) (window terms : List (List ℕ)) (ends : List ℕ) (reach left : ℕ) → left ≡ 0 → length ends ≡ length terms → length terms ≤ none → AreEnds terms (drop left window) ends
    → Decides r (IsNear ends reach) → r ≡ has_window window reach terms
near_by r window terms ends reach left e same fits are d =
    let all : AreEnds terms window ends = subst (λ (n : ℕ). AreEnds terms (drop n window) ends) e are in
    window_by r window terms reach (λ h. near_stands terms window ends reach same all (d.0 h), λ s. d.1 (stands_near terms window ends reach same fits all s))
