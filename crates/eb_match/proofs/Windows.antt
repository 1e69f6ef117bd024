-- The terms of a window, one after another.
use Rattle.std.proofs.Common.{◌≡◌, ℕ, suc, ◌≤◌, ◌==◌, List, [], ◌∷◌, drop, length, refl, sym, ap, ◌∙◌, arith, ne_eqb}
use Rattle.std.proofs.lemmas.List.{drop_all}
use Rattle.eb_base.specs.Match.{has_in_order}

-- after the last term there are none
none_left : (left : List (List ℕ)) → has_in_order left [] ≡ (length left == 0)
none_left [] = refl
none_left (t ∷ ts) = sym (ne_eqb (suc (length ts)) 0 (λ e. omega arith))

pub at_the_end : (left terms : List (List ℕ)) (i : ℕ) → length terms ≤ i → has_in_order left (drop i terms) ≡ (length left == 0)
at_the_end left terms i h = ap (has_in_order left) (drop_all i terms h) ∙ none_left left
