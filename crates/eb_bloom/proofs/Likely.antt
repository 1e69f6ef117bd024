-- A query matches no document of a segment in which it may not match.
use Rattle.std.proofs.Common.{◌≡◌, ℕ, zero, suc, ◌+◌, true, false, List, [], ◌∷◌, length, take, drop, slice_get, get_or, refl, ap, sym, ◌∙◌, arith, inl, inr, Some}
use Rattle.std.specs.List.{Contains, list_all}
use Rattle.std.proofs.lemmas.Bool.{cases_Bool, false≢true, and_from, or_left, or_right}
use Rattle.std.proofs.lemmas.Option.{slice_get_within, get_or_from_slice_get}
use Rattle.eb_base.specs.Term.{Term}
use Rattle.eb_base.specs.Document.{Doc}
use Rattle.eb_base.specs.Query.{Tree, Trees, word, phrase, window, since, negation, conjunction, disjunction, no_trees, trees}
use Rattle.eb_base.specs.Match.{Stand, Matches, EachMatches, SomeMatches, is_match, answer}
use Rattle.eb_base.specs.Setting.{Setting}
use Rattle.eb_base.proofs.Matching.{match_decides}
use Rattle.eb_place.specs.Room.{cut}
use Rattle.eb_bloom.specs.Bits.{Bits, is_noted}
use Rattle.eb_bloom.specs.Covers.{Covers}
use Rattle.eb_bloom.specs.Likely.{may_match, each_may_match, some_may_match}
use Rattle.eb_bloom.proofs.Covered.{no_answer}

dropped : (ts : List Term) (from i : ℕ) (t : Term) → slice_get (drop from ts) i ≡ Some t → slice_get ts (from + i) ≡ Some t
dropped ts zero i t e = ap (slice_get ts) (omega arith) ∙ e
dropped [] (suc from) i t e = let no : ⊥ = cc in absurd no
dropped (x ∷ ts) (suc from) i t e =
    let at : suc from + i ≡ suc (from + i) = omega arith in
    ap (slice_get (x ∷ ts)) at ∙ dropped ts from i t e

module _ (b : Bits) (s : ℕ) (d : Doc) (noted : (t : Term) → Contains d.terms t → is_noted b s t ≡ true) where
  -- a term that occurs at a place is noted
  at_place : (i : ℕ) (t : Term) → slice_get d.terms i ≡ Some t → is_noted b s t ≡ true
  at_place i t e = noted t (i, slice_get_within d.terms i t e, get_or_from_slice_get d.terms i t t e)

  in_run : (ts us : List Term) (from : ℕ) → ((i : ℕ) (t : Term) → slice_get us i ≡ Some t → slice_get d.terms (from + i) ≡ Some t) → take (length ts) us ≡ ts
      → list_all (is_noted b s) ts ≡ true
  in_run [] us from stand e = refl
  in_run (t ∷ ts) [] from stand e = let no : ⊥ = cc in absurd no
  in_run (t ∷ ts) (u ∷ us) from stand e =
      let one : u ≡ t = cc in
      let rest : take (length ts) us ≡ ts = cc in
      and_from (is_noted b s t) (list_all (is_noted b s) ts)
      (at_place (from + 0) t (stand 0 t (ap Some one)))
      (in_run ts us (from + 1) (λ i x h. ap (slice_get d.terms) (omega arith) ∙ stand (suc i) x h) rest)

  in_order : (ts : List Term) (first last : ℕ) → Stand d.terms ts first last → list_all (is_noted b s) ts ≡ true
  in_order [] first last h = absurd h
  in_order (t ∷ []) first last h = and_from (is_noted b s t) true (at_place first t h.0) refl
  in_order (t ∷ u ∷ ts) first last h = and_from (is_noted b s t) (list_all (is_noted b s) (u ∷ ts)) (at_place first t h.0) (in_order (u ∷ ts) h.1.0 last h.1.2)

  mutual
    may : (q : Tree) → Matches q d → may_match b s q ≡ true
    may (word t) m = noted t m
    may (phrase ts) m = in_run ts (drop m.0 d.terms) m.0 (dropped d.terms m.0) m.1
    may (window ts w) m = in_order ts m.0 m.1 m.2
    may (since x) m = refl
    may (negation q) m = refl
    may (conjunction qs) m = each_may qs m
    may (disjunction qs) m = some_may qs m

    each_may : (qs : Trees) → EachMatches qs d → each_may_match b s qs ≡ true
    each_may no_trees m = refl
    each_may (trees q qs) m = and_from (may_match b s q) (each_may_match b s qs) (may q m.0) (each_may qs m.1)

    some_may : (qs : Trees) → SomeMatches qs d → some_may_match b s qs ≡ true
    some_may no_trees m = absurd m
    some_may (trees q qs) m = elim m [
      | inl here ↦ or_left (may_match b s q) (some_may_match b s qs) (may q here)
      | inr there ↦ or_right (may_match b s q) (some_may_match b s qs) (some_may qs there)
    ]

pub none_unlikely : (b : Bits) (q : Tree) (σ : Setting) (docs : List Doc) (s k : ℕ) → Covers b σ docs → may_match b s q ≡ false → answer q k (get_or (cut σ docs) s []) ≡ []
none_unlikely b q σ docs s k h off = no_answer q k (get_or (cut σ docs) s []) (λ d c. elim (cases_Bool (is_match q d)) [
  | inl y ↦ absurd (false≢true (sym off ∙ may b s d (λ t has. h.noted s d t c has) q ((match_decides q d).0 y)))
  | inr n ↦ n
])
