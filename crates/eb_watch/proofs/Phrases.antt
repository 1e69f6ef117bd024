-- Phrases as windows that reach as far as they are long.
use Rattle.std.proofs.Common.{◌≡◌, ℕ, zero, suc, ◌+◌, ◌≤◌, Bool, true, List, [], ◌∷◌, length, take, drop, slice_get, Some, refl, ap, ◌∙◌, arith, subst, drop-cons}
use Rattle.std.specs.Bool.{Decides}
use Rattle.std.proofs.lemmas.Bool.Decides.{same_from_decides}
use Rattle.std.proofs.lemmas.Option.{slice_get_within, get_or_from_slice_get}
use Rattle.eb_base.proofs.Matching.{match_decides}
use Rattle.eb_base.specs.Query.{phrase, window}
use Rattle.eb_base.specs.Match.{Stand, has_phrase, has_window}
use Rattle.eb_watch.proofs.Standing.{StandNear, stand_long}

-- the list from a place on begins with the element there
begins : (us : List (List ℕ)) (i : ℕ) (t : List ℕ) → slice_get us i ≡ Some t → drop i us ≡ t ∷ drop (suc i) us
begins us i t e = drop-cons us i [] (slice_get_within us i t e) ∙ ap (λ (x : List ℕ). x ∷ drop (suc i) us) (get_or_from_slice_get us i t [] e)

first_there : (i : ℕ) (us : List (List ℕ)) (t : List ℕ) (ts : List (List ℕ)) → take (length (t ∷ ts)) (drop i us) ≡ t ∷ ts → slice_get us i ≡ Some t
first_there zero [] t ts e = let no : ⊥ = cc in absurd no
first_there zero (u ∷ us) t ts e = let h : u ≡ t = cc in ap Some h
first_there (suc i) [] t ts e = let no : ⊥ = cc in absurd no
first_there (suc i) (u ∷ us) t ts e = first_there i us t ts e

rest_there : (i : ℕ) (us : List (List ℕ)) (t : List ℕ) (ts : List (List ℕ)) → take (length (t ∷ ts)) (drop i us) ≡ t ∷ ts → take (length ts) (drop (suc i) us) ≡ ts
rest_there zero [] t ts e = let no : ⊥ = cc in absurd no
rest_there zero (u ∷ us) t ts e = cc
rest_there (suc i) [] t ts e = let no : ⊥ = cc in absurd no
rest_there (suc i) (u ∷ us) t ts e = rest_there i us t ts e

phrase_stands : (us : List (List ℕ)) (t : List ℕ) (ts : List (List ℕ)) (i : ℕ) → take (length (t ∷ ts)) (drop i us) ≡ t ∷ ts → Stand us (t ∷ ts) i (i + length ts)
phrase_stands us t [] i e = (first_there i us t [] e, omega arith)
phrase_stands us t (v ∷ ts) i e =
    let rest = phrase_stands us v ts (suc i) (rest_there i us t (v ∷ ts) e) in
    let k : suc i + length ts ≡ i + length (v ∷ ts) = omega arith in
    (first_there i us t (v ∷ ts) e, (suc i, omega arith, subst (λ (l : ℕ). Stand us (v ∷ ts) (suc i) l) k rest))

stands_phrase : (us : List (List ℕ)) (t : List ℕ) (ts : List (List ℕ)) (f l : ℕ) → Stand us (t ∷ ts) f l → l ≤ f + length ts → take (length (t ∷ ts)) (drop f us) ≡ t ∷ ts
stands_phrase us t [] f l s near = ap (take 1) (begins us f t s.0)
stands_phrase us t (v ∷ ts) f l s near =
    let next = s.1.0 in
    let long = stand_long us (v ∷ ts) next l s.1.2 in
    let one : next ≡ suc f = omega (arith, long, near, s.1.1) in
    let rest : take (length (v ∷ ts)) (drop (suc f) us) ≡ v ∷ ts =
    stands_phrase us v ts (suc f) l (subst (λ (n : ℕ). Stand us (v ∷ ts) n l) one s.1.2) (omega (arith, near)) in
    ap (take (length (t ∷ v ∷ ts))) (begins us f t s.0) ∙ ap (λ (xs : List (List ℕ)). t ∷ xs) rest

-- a test whether terms occur this near is the test of a window
pub window_by : (r : Bool) (ts terms : List (List ℕ)) (reach : ℕ) → Decides r (StandNear terms ts reach) → r ≡ has_window ts reach terms
window_by r ts terms reach d = same_from_decides r (has_window ts reach terms) d (match_decides (window ts reach) (record { id = 0; terms = terms }))

-- and of a phrase, where they are as near as they are many
pub phrase_by : (t : List ℕ) (ts terms : List (List ℕ)) → has_window (t ∷ ts) (length ts) terms ≡ has_phrase (t ∷ ts) terms
phrase_by t ts terms =
    let w = match_decides (window (t ∷ ts) (length ts)) (record { id = 0; terms = terms }) in
    let p = match_decides (phrase (t ∷ ts)) (record { id = 0; terms = terms }) in
    same_from_decides {P = StandNear terms (t ∷ ts) (length ts)} (has_window (t ∷ ts) (length ts) terms) (has_phrase (t ∷ ts) terms) w
    (λ h. let m = p.0 h in (m.0, m.0 + length ts, phrase_stands terms t ts m.0 m.1, omega arith), λ s. p.1 (s.0, stands_phrase terms t ts s.0 s.1 s.2 s.3))

pub no_phrase : (terms : List (List ℕ)) → has_phrase [] terms ≡ true
no_phrase [] = refl
no_phrase (t ∷ ts) = refl
