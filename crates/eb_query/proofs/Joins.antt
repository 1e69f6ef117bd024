-- Terms joined one after another.
use Rattle.std.proofs.Common.{◌≡◌, ℕ, zero, suc, ◌+◌, List, [], ◌∷◌, ◌++◌, drop, Some, slice_get, refl, sym, ap, ◌∙◌, arith, drop-cons, append_assoc, append-nil}
use Rattle.std.proofs.lemmas.Option.{slice_get_within, get_or_from_slice_get}
use Rattle.eb_query.specs.Writing.{spaced_terms}
use Rattle.eb_query.proofs.Tails.{joined_tail}
use Rattle.eb_query.specs.Gaps.{and_gap}

joined_step : (t : List ℕ) (ts : List (List ℕ)) (n : ℕ) → spaced_terms (t ∷ ts) ≡ t ++ joined_tail (suc n) ts
joined_step t [] n = sym (append-nil t)
joined_step t (u ∷ ts) n = refl

tail_step : (at : ℕ) (t : List ℕ) (ts : List (List ℕ)) → joined_tail at (t ∷ ts) ≡ and_gap at ++ (t ++ joined_tail (suc at) ts)
tail_step zero t ts = joined_step t ts 0
tail_step (suc at) t ts = ap (λ (xs : List ℕ). 32 ∷ xs) (joined_step t ts (suc at))

here : (terms : List (List ℕ)) (at : ℕ) (t : List ℕ) → slice_get terms at ≡ Some t → drop at terms ≡ t ∷ drop (suc at) terms
here terms at t h = drop-cons terms at [] (slice_get_within terms at t h) ∙ ap (λ (u : List ℕ). u ∷ drop (suc at) terms) (get_or_from_slice_get terms at t [] h)

pub joined_next : (out : List ℕ) (terms : List (List ℕ)) (at : ℕ) (t : List ℕ) → slice_get terms at ≡ Some t
    → ((out ++ and_gap at) ++ t) ++ joined_tail (at + 1) (drop (at + 1) terms) ≡ out ++ joined_tail at (drop at terms)
joined_next out terms at t h =
    let e : at + 1 ≡ suc at = omega arith in
    let rest = joined_tail (suc at) (drop (suc at) terms) in
    ap (λ (n : ℕ). ((out ++ and_gap at) ++ t) ++ joined_tail n (drop n terms)) e
    ∙ append_assoc (out ++ and_gap at) t rest ∙ append_assoc out (and_gap at) (t ++ rest)
    ∙ ap (λ (xs : List ℕ). out ++ xs) (sym (ap (joined_tail at) (here terms at t h) ∙ tail_step at t (drop (suc at) terms)))
