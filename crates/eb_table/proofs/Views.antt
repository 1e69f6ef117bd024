-- The views of the seats, when one of them changes.
use Rattle.std.proofs.Common.{◌≡◌, ◌≢◌, ℕ, zero, suc, ◌<◌, ⊎_elim, List, [], ◌∷◌, length, set}
use Rattle.std.proofs.Common.{refl, ap, sym, ◌∙◌, subst, arith}
use mathlib.Core.Option.{some, some-injective, some-ne-none}
use native.Mathlib.Decide.{ℕ_discrete}
use lib.ListN.{get_elem?}
use Rattle.atomic_table.specs.Table.{State}
use Rattle.atomic_table.proofs.Lists.{at_set, set_here, set_else}
use Rattle.eb_base.specs.Setting.{Setting}
use Rattle.eb_place.specs.declared.moment.Moment.{Moment}
use Rattle.eb_place.specs.Moments.{empty_moment}
use Rattle.eb_table.specs.declared.view.View.{View}
use Rattle.eb_table.specs.declared.view.View.TheVariants.{Opening}
use Rattle.eb_table.specs.Rule.{IsLive, MayKnow, Running, KeepsWords}
use Rattle.eb_table.specs.Steps.{at_moment}

-- the state of the words
abbrev pub St : Type 0
St = State (Unit {0}) View

pub there_less : {A : Type 0} (l : List A) (i : ℕ) (a : A) → get_elem? l i ≡ some a → i < length l
there_less [] i a e = absurd (some-ne-none a (sym e))
there_less (x ∷ xs) zero a e = omega arith
there_less (x ∷ xs) (suc i) a e = let h = there_less xs i a e in omega arith

pub alone_at : (x v : View) (i : ℕ) → get_elem? (x ∷ []) i ≡ some v → (i ≡ 0) × (x ≡ v)
alone_at x v zero e = (refl, some-injective x v e)
alone_at x v (suc i) e = absurd (some-ne-none v (sym e))

pub fits_set : (w c : ℕ) (whole : Moment) (views : List View) (by : ℕ) (new : View) → ((j : ℕ) (u : View) → j ≢ by → get_elem? views j ≡ some u → MayKnow w c whole j u)
    → MayKnow w c whole by new
    → (j : ℕ) (u : View) → get_elem? (set views by new) j ≡ some u → MayKnow w c whole j u
fits_set w c whole views by new others mine j u e =
    ⊎_elim
    (λ (x : (j ≡ by) × (new ≡ u)). subst (λ (y : ℕ × View). MayKnow w c whole y.0 y.1) (λ i. (sym x.0 i, x.1 i)) mine)
    (λ (x : (j ≢ by) × (get_elem? views j ≡ some u)). others j u x.0 x.1)
    (at_set views by j new u e)

-- a seat of one kind stays one
pub stays_at : (views : List View) (by i : ℕ) (f : Moment → View) (v new : View) → get_elem? views by ≡ some v → ((m : Moment) → v ≡ f m → (n : Moment) × (new ≡ f n))
    → (m : Moment) × (get_elem? views i ≡ some (f m)) → (m : Moment) × (get_elem? (set views by new) i ≡ some (f m))
stays_at views by i f v new at turn was = by_place (ℕ_discrete i by)
  where
    by_place : Dec (i ≡ by) → (m : Moment) × (get_elem? (set views by new) i ≡ some (f m))
    by_place (yes e) =
        let same : v ≡ f was.0 = some-injective v (f was.0) (sym at ∙ (ap (λ (k : ℕ). get_elem? views k) (sym e) ∙ was.1)) in
        let t = turn was.0 same in
        (t.0, ap (λ (k : ℕ). get_elem? (set views by new) k) e ∙ (set_here views by new (there_less views by v at) ∙ ap (λ (x : View). some x) t.1))
    by_place (no n) = (was.0, set_else views by i new n ∙ was.1)

pub kind_stays : (f : Moment → View) → ((m n : Moment) → at_moment (f m) n ≡ f n) → (v : View) (n : Moment) (m : Moment) → v ≡ f m → (n' : Moment) × (at_moment v n ≡ f n')
kind_stays f keeps_kind v n m e = (n, ap (λ (u : View). at_moment u n) e ∙ keeps_kind m n)

-- where the seat is live, the table is no longer opening
pub not_opening : (σ : Setting) (views : List View) (by : ℕ) (v : View) → IsLive v → get_elem? views by ≡ some v → views ≡ Opening (empty_moment σ) ∷ [] → ⊥
not_opening σ views by v live at is =
    let e = alone_at (Opening (empty_moment σ)) v by (ap (λ (l : List View). get_elem? l by) (sym is) ∙ at) in
    subst IsLive (sym e.1) live

pub running : (σ : Setting) (s : St) (h : KeepsWords σ s) (by : ℕ) (v : View) → IsLive v → get_elem? s.views by ≡ some v → Running h.whole s.views
running σ s h by v live at = ⊎_elim (λ (o : (s.views ≡ Opening (empty_moment σ) ∷ []) × (h.whole ≡ empty_moment σ)). absurd (not_opening σ s.views by v live at o.0))
    (λ (r : Running h.whole s.views). r) h.views
