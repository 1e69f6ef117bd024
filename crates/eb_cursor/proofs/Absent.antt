-- Segments in which a word may be.
use Rattle.std.proofs.Common.{◌≡◌, ◌≢◌, ℕ, ◌+◌, ◌<◌, arith, Bool, true, false, List, get_or, inl, inr, refl, ap, sym, ◌∙◌, subst}
use Rattle.std.proofs.lemmas.Bool.{cases_Bool, false≢true}
use native.Mathlib.Decide.{ℕ_discrete}
use Rattle.eb_base.specs.Term.{Term}
use Rattle.eb_place.specs.declared.moment.Moment.{Moment}
use Rattle.eb_place.specs.Later.{IsNotBefore}
use Rattle.eb_place.specs.Moments.{IsMoment}
use Rattle.eb_place.specs.Seen.{IsEntered}
use Rattle.eb_place.proofs.EnteredTerms.{is_entered_later}
use Rattle.eb_place.proofs.LaterMoments.{inside_later}
use Rattle.eb_terms.specs.Finding.{is_home_filled}
use Rattle.eb_terms.proofs.Probing.{home_later}

-- the term isn't entered where the list says false
abbrev pub AreAbsent : Moment → Term → List Bool → Type 0
AreAbsent m t likely = (s : ℕ) → get_or likely s true ≡ false → IsEntered m s t → ⊥

-- the list of before, and where b is false without one more
pub record IsNext (likely next : List Bool) (k : ℕ) (b : Bool) : Type 0 where
  pub kept : b ≡ true → get_or next k true ≡ get_or likely k true
  pub out : b ≡ false → get_or next k true ≡ false
  pub others : (s : ℕ) → s ≢ k → get_or next s true ≡ get_or likely s true

pub all_kept : (likely : List Bool) (k : ℕ) (b : Bool) → b ≡ true → IsNext likely likely k b
all_kept likely k b on = record { kept = λ e. refl; out = λ e. absurd (false≢true (sym e ∙ on)); others = λ s ne. refl }

pub one_out : (likely next : List Bool) (k : ℕ) (b : Bool) → b ≡ false → get_or next k true ≡ false → ((s : ℕ) → s ≢ k → get_or next s true ≡ get_or likely s true) → IsNext likely next k b
one_out likely next k b off gone others = record { kept = λ e. absurd (false≢true (sym off ∙ e)); out = λ e. gone; others = others }

-- one more
pub one_told : (m n : Moment) (t : Term) (likely next : List Bool) (k : ℕ) (b : Bool) → IsNotBefore n m → (b ≡ false → IsEntered n k t → ⊥)
    → IsNext likely next k b → AreAbsent m t likely → AreAbsent m t next
one_told m n t likely next k b l away i h s off there = elim (ℕ_discrete s k) [
  | yes q ↦
      let here : IsEntered m k t = subst (λ z. IsEntered m z t) q there in
      elim (cases_Bool b) [
        | inl on ↦ h k (sym (i.kept on) ∙ ap (λ z. get_or next z true) (sym q) ∙ off) here
        | inr clear ↦ away clear (is_entered_later m n k t l here)
      ]
  | no o ↦ h s (sym (i.others s o) ∙ off) there
]

-- each of the first k segments is one of the index, and where the list says true, the term's home
-- cell is filled there
abbrev pub AreTold : Moment → Term → ℕ → List Bool → Type 0
AreTold m t k likely = (s : ℕ) → s < k → (s < m.setting.segments) × (get_or likely s true ≡ true → is_home_filled m s t ≡ true)

-- one more
pub one_filled : (m n : Moment) (t : Term) (likely next : List Bool) (k : ℕ) (b : Bool) → IsMoment m → IsMoment n → IsNotBefore n m
    → b ≡ is_home_filled n k t → k < n.setting.segments → IsNext likely next k b → AreTold m t k likely → AreTold n t (k + 1) next
one_filled m n t likely next k b is js l told inside i h s low = elim (ℕ_discrete s k) [
  | yes q ↦ (
    subst (λ z. z < n.setting.segments) (sym q) inside,
    λ on. ap (λ z. is_home_filled n z t) q ∙ sym told ∙ filled (ap (λ z. get_or next z true) (sym q) ∙ on),
  )
  | no o ↦
      let ne : s ≢ k = o in
      let old = h s (omega (arith, low, ne)) in
      (inside_later m n s l old.0, λ on. home_later m n s t is js l old.0 (old.1 (sym (i.others s o) ∙ on)))
]
  where
    filled : get_or next k true ≡ true → b ≡ true
    filled on = elim (cases_Bool b) [ inl e ↦ e | inr clear ↦ absurd (false≢true (sym (i.out clear) ∙ on)) ]
