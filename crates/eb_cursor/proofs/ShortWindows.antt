-- A window whose reach is too short for its terms matches nothing.
use Rattle.std.proofs.Common.{◌≡◌, ℕ, zero, suc, ◌+◌, ◌<◌, ◌≤◌, Bool, false, List, [], ◌∷◌, length, refl, sym, ◌∙◌, arith, inl, inr}
use Rattle.std.proofs.lemmas.Bool.{cases_Bool}
use Rattle.eb_base.specs.Document.{Doc}
use Rattle.eb_base.specs.Query.{window}
use Rattle.eb_base.specs.Match.{Stand, is_match}
use Rattle.eb_base.proofs.Matching.{match_decides}
use Rattle.eb_cursor.specs.Posted.{doc_at, match_at}
use Rattle.eb_cursor.specs.Tops.{top}
use Rattle.eb_cursor.proofs.Tops.{top_past}

-- terms in their order take as many places as they are
stand_long : (terms ts : List (List ℕ)) (first last : ℕ) → Stand terms ts first last → first + length ts ≤ last + 1
stand_long terms [] first last s = absurd s
stand_long terms (t ∷ []) first last s = omega (arith, s.1)
stand_long terms (t ∷ u ∷ ts) first last s = omega (arith, stand_long terms (u ∷ ts) s.1.0 last s.1.2, s.1.1)

short_fails : (d : Doc) (ts : List (List ℕ)) (w : ℕ) → w + 1 < length ts → is_match (window ts w) d ≡ false
short_fails d ts w short = elim (cases_Bool (is_match (window ts w) d)) [
  | inl is ↦
      let m = (match_decides (window ts w) d).0 is in
      absurd (omega (arith, stand_long d.terms ts m.0 m.1 m.2, m.3, short))
  | inr not ↦ not
]

top_never : (f : ℕ → Bool) → ((n : ℕ) → f n ≡ false) → (n : ℕ) → top f n ≡ 0
top_never f never zero = refl
top_never f never (suc n) = top_past f n (never n) ∙ top_never f never n

pub short_none : (docs : List Doc) (ts : List (List ℕ)) (w end : ℕ) → w + 1 < length ts → 0 ≡ top (match_at docs (window ts w)) end
short_none docs ts w end short = sym (top_never (match_at docs (window ts w)) (λ n. short_fails (doc_at docs n) ts w short) end)
