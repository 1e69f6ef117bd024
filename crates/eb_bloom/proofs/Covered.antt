-- What the filters cover, with one more document, and what they say of a term.
use Rattle.std.proofs.Common.{◌≡◌, ℕ, zero, suc, ◌+◌, ◌==◌, ◌||◌, ◌&&◌, ◌⊎◌, Bool, true, false, List, [], ◌∷◌, ◌++◌, length, get_or, map, take, reverse}
use Rattle.std.proofs.Common.{refl, ap, sym, ◌∙◌, subst, arith, inl, inr, eq-eqb}
use Rattle.std.specs.List.{Contains, list_any, filter}
use Rattle.std.proofs.lemmas.Bool.{cases_Bool, and_from, and_parts}
use Rattle.std.proofs.lemmas.List.Elements.{Contains-push_cases, Contains-append_right}
use Rattle.std.proofs.lemmas.List.Folds.{list_any_at}
use Rattle.eb_base.specs.Term.{Term}
use Rattle.eb_base.specs.Document.{Doc}
use Rattle.eb_base.specs.Query.{Tree}
use Rattle.eb_base.specs.Match.{is_match, answer}
use Rattle.eb_base.specs.Setting.{Setting}
use Rattle.eb_place.specs.Room.{cut, with_doc, fits}
use Rattle.eb_place.proofs.CutSegments.{cut_push}
use Rattle.eb_bloom.specs.Bits.{Bits, first_bit, second_bit, is_set}
use Rattle.eb_bloom.specs.Covers.{Covers}
use Rattle.eb_bloom.proofs.SingleBits.{or_true}

none_of_nothing : (x : Doc) → Contains [] x → ⊥
none_of_nothing x h = omega (arith, h.1)

one_of_one : (d x : Doc) → Contains (d ∷ []) x → d ≡ x
one_of_one d x h = elim (Contains-push_cases [] d x h) [
  | inl c ↦ absurd (none_of_nothing x c)
  | inr e ↦ e
]

-- a document of a segment was there before, or it is the new one in the last segment
abbrev StoodOrLast : List (List Doc) → List (List Doc) → Doc → ℕ → Doc → Type 0
StoodOrLast segs new d s x = Contains (get_or segs s []) x ⊎ ((s + 1 ≡ length new) × (d ≡ x))

stood_or_last : (σ : Setting) (segs : List (List Doc)) (d : Doc) (s : ℕ) (x : Doc) → Contains (get_or (with_doc σ segs d) s []) x → StoodOrLast segs (with_doc σ segs d) d s x
stood_or_last σ [] d zero x h = inr (refl, one_of_one d x h)
stood_or_last σ [] d (suc s) x h = absurd (none_of_nothing x h)
stood_or_last σ (y ∷ []) d s x h = elim (cases_Bool (fits σ y d)) [
  | inl here ↦ rw here (into s (rw here at h))
  | inr away ↦ rw away (behind s (rw away at h))
]
  where
    into : (s : ℕ) → Contains (get_or ((y ++ d ∷ []) ∷ []) s []) x → StoodOrLast (y ∷ []) ((y ++ d ∷ []) ∷ []) d s x
    into zero h = elim (Contains-push_cases y d x h) [ inl c ↦ inl c | inr e ↦ inr (refl, e) ]
    into (suc s) h = absurd (none_of_nothing x h)

    behind : (s : ℕ) → Contains (get_or (y ∷ (d ∷ []) ∷ []) s []) x → StoodOrLast (y ∷ []) (y ∷ (d ∷ []) ∷ []) d s x
    behind zero h = inl h
    behind (suc zero) h = inr (refl, one_of_one d x h)
    behind (suc (suc s)) h = absurd (none_of_nothing x h)
stood_or_last σ (y ∷ z ∷ zs) d zero x h = inl h
stood_or_last σ (y ∷ z ∷ zs) d (suc s) x h = elim (stood_or_last σ (z ∷ zs) d s x h) [
  | inl c ↦ inl c
  | inr e ↦ inr (omega (arith, e.0), e.1)
]

-- at first there is nothing to cover
pub covers_nothing : (b : Bits) (σ : Setting) → b.setting ≡ σ → Covers b σ []
unfolding cut
covers_nothing b σ e = record { setting = e; noted = λ s d t h. absurd (none_of_nothing d h) }

-- whether it is one of the bits of the term
abbrev pub is_bit_of : Setting → ℕ → Term → ℕ → Bool
is_bit_of σ s t i = first_bit σ s t == i || second_bit σ s t == i

-- the bits of the terms of a document are set, and the old ones stay
abbrev pub AreNoted : Bits → Bits → ℕ → Doc → Type 0
AreNoted b new s d = (i : ℕ) → is_set new.words i ≡ (is_set b.words i || list_any (λ t. is_bit_of b.setting s t i) d.terms)

-- a bit of a term of the document
is_bit_of_one : (σ : Setting) (s : ℕ) (d : Doc) (t : Term) (i : ℕ) → Contains d.terms t → is_bit_of σ s t i ≡ true → list_any (λ u. is_bit_of σ s u i) d.terms ≡ true
is_bit_of_one σ s d t i h e = list_any_at (λ u. is_bit_of σ s u i) d.terms h.0 t h.1 (ap (λ u. is_bit_of σ s u i) h.2 ∙ e)

-- a bit of a term of a document is set, where it was set for the documents before
set_on : (b new : Bits) (s : ℕ) (docs : List Doc) (d : Doc) → AreNoted b new s d → s + 1 ≡ length (cut b.setting (docs ++ d ∷ []))
    → (q : ℕ) (x : Doc) (t : Term) → Contains (get_or (cut b.setting (docs ++ d ∷ [])) q []) x → Contains x.terms t
    → (i : ℕ) → is_bit_of b.setting q t i ≡ true → (Contains (get_or (cut b.setting docs) q []) x → is_set b.words i ≡ true) → is_set new.words i ≡ true
set_on b new s docs d more last q x t stands has i one old =
    let σ : Setting = b.setting in
    let p = cut_push σ docs d in
    elim (stood_or_last σ (cut σ docs) d q x (subst (λ (z : List (List Doc)). Contains (get_or z q []) x) p stands)) [
      | inl c ↦ more i ∙ ap (λ z. z || list_any (λ u. is_bit_of σ s u i) d.terms) (old c)
      | inr e ↦
          let there : s ≡ q = omega (arith, e.0, last, ap length p) in
          let any : list_any (λ u. is_bit_of σ s u i) d.terms ≡ true
          = ap (λ z. list_any (λ u. is_bit_of σ z u i) d.terms) there ∙ is_bit_of_one σ q d t i (subst (λ (z : Doc). Contains z.terms t) (sym e.1) has) one in
          more i ∙ ap (λ z. is_set b.words i || z) any ∙ or_true (is_set b.words i)
    ]

covers_on : (b new : Bits) (s : ℕ) (docs : List Doc) (d : Doc) → AreNoted b new s d → s + 1 ≡ length (cut b.setting (docs ++ d ∷ [])) → Covers b b.setting docs
    → (q : ℕ) (x : Doc) (t : Term) → Contains (get_or (cut b.setting (docs ++ d ∷ [])) q []) x → Contains x.terms t
    → (is_set new.words (first_bit b.setting q t) && is_set new.words (second_bit b.setting q t)) ≡ true
covers_on b new s docs d more last h q x t stands has =
    let one : ℕ = first_bit b.setting q t in
    let two : ℕ = second_bit b.setting q t in
    and_from (is_set new.words one) (is_set new.words two)
    (set_on b new s docs d more last q x t stands has one (ap (λ z. z || two == one) (eq-eqb one one refl))
    (λ c. (and_parts (is_set b.words one) (is_set b.words two) (h.noted q x t c has)).0))
    (set_on b new s docs d more last q x t stands has two (ap (λ z. one == two || z) (eq-eqb two two refl) ∙ or_true (one == two))
    (λ c. (and_parts (is_set b.words one) (is_set b.words two) (h.noted q x t c has)).1))

covers_whole : (b new : Bits) (s : ℕ) (docs : List Doc) (d : Doc) → AreNoted b new s d → new.setting ≡ b.setting → s + 1 ≡ length (cut b.setting (docs ++ d ∷ [])) → Covers b b.setting docs
    → Covers new new.setting (docs ++ d ∷ [])
covers_whole b new s docs d more same last h = record {
  setting = refl;
  noted = subst (λ (τ : Setting). (q : ℕ) (x : Doc) (t : Term) → Contains (get_or (cut τ (docs ++ d ∷ [])) q []) x → Contains x.terms t
      → (is_set new.words (first_bit τ q t) && is_set new.words (second_bit τ q t)) ≡ true)
      (sym same) (covers_on b new s docs d more last h);
}

-- the filters of a setting are those of their own
own : (b : Bits) (σ : Setting) (docs : List Doc) → Covers b σ docs → Covers b b.setting docs
own b σ docs h = subst (λ (τ : Setting). Covers b τ docs) (sym h.setting) h

pub covers_next : (b new : Bits) (s : ℕ) (σ : Setting) (docs : List Doc) (d : Doc) → AreNoted b new s d → new.setting ≡ b.setting → Covers b σ docs → s + 1 ≡ length (cut σ (docs ++ d ∷ []))
    → Covers new σ (docs ++ d ∷ [])
covers_next b new s σ docs d more same h last =
    let here = subst (λ (τ : Setting). s + 1 ≡ length (cut τ (docs ++ d ∷ []))) (sym h.setting) last in
    subst (λ (τ : Setting). Covers new τ (docs ++ d ∷ [])) (same ∙ h.setting) (covers_whole b new s docs d more same here (own b σ docs h))

-- ---- what isn't noted isn't there

filter_nothing : (q : Tree) (docs : List Doc) → ((d : Doc) → Contains docs d → is_match q d ≡ false) → filter (is_match q) docs ≡ []
filter_nothing q [] h = refl
filter_nothing q (d ∷ ds) h =
    let off : is_match q d ≡ false = h d (0, omega arith, refl) in
    rw off (filter_nothing q ds (λ x c. h x (Contains-append_right (d ∷ []) ds x c)))

pub no_answer : (q : Tree) (k : ℕ) (docs : List Doc) → ((d : Doc) → Contains docs d → is_match q d ≡ false) → answer q k docs ≡ []
unfolding answer
no_answer q zero docs h = refl
no_answer q (suc k) docs h = ap (λ (z : List Doc). map (λ (d : Doc). d.id) (take (suc k) (reverse z))) (filter_nothing q docs h)
