-- A split keeps the rule.
use Rattle.std.proofs.Common.{◌≡◌, ℕ, zero, suc, inr, ⊎_elim, List, [], ◌∷◌, ◌++◌, set}
use Rattle.std.proofs.Common.{refl, ap, sym, ◌∙◌, subst}
use mathlib.Core.Option.{some, some-injective, some-ne-none}
use lib.ListN.{get_elem?}
use Rattle.atomic_table.specs.Table.{Splits}
use Rattle.atomic_table.proofs.Lists.{at_snoc, set_again, at_longer}
use Rattle.eb_base.specs.Setting.{Setting}
use Rattle.eb_place.specs.declared.moment.Moment.{Moment}
use Rattle.eb_place.specs.Moments.{empty_moment}
use Rattle.eb_place.specs.Later.{IsNotBefore}
use Rattle.eb_place.proofs.LaterMoments.{later_self}
use Rattle.eb_table.specs.declared.view.View.{View}
use Rattle.eb_table.specs.declared.view.View.TheVariants.{Opening, Writer, Converter, Reader, Spent}
use Rattle.eb_table.specs.Rule.{moment_of, IsLive, IsUnspent, MayKnow, Running, KeepsWords}
use Rattle.eb_table.specs.Steps.{left_of, right_of}
use Rattle.eb_table.proofs.Views.{alone_at, running}

-- of the first seat
first_split : (σ : Setting) (by : ℕ) → by ≡ 0 → Running (empty_moment σ) (set (Opening (empty_moment σ) ∷ []) by (Writer (empty_moment σ)) ++ Converter (empty_moment σ) ∷ [])
first_split σ by e = subst (λ (i : ℕ). Running (empty_moment σ) (set (Opening (empty_moment σ) ∷ []) i (Writer (empty_moment σ)) ++ Converter (empty_moment σ) ∷ []))
    (sym e) record {
      writer = 0;
      converter = 1;
      writes = (empty_moment σ, refl);
      converts = (empty_moment σ, refl);
      each = both;
    }
  where
    both : (j : ℕ) (u : View) → get_elem? (Writer (empty_moment σ) ∷ Converter (empty_moment σ) ∷ []) j ≡ some u → MayKnow 0 1 (empty_moment σ) j u
    both zero u at = subst (MayKnow 0 1 (empty_moment σ) 0) (some-injective (Writer (empty_moment σ)) u at) (refl, refl, later_self (empty_moment σ))
    both (suc zero) u at = subst (MayKnow 0 1 (empty_moment σ) 1) (some-injective (Converter (empty_moment σ)) u at) (refl, refl, later_self (empty_moment σ))
    both (suc (suc j)) u at = absurd (some-ne-none u (sym at))

splits_first : (σ : Setting) (id : ℕ) (m : Moment) → Splits (KeepsWords σ) id (Opening m) (Writer m) (Converter m)
splits_first σ id m s h at = ⊎_elim
    (λ (o : (s.views ≡ Opening (empty_moment σ) ∷ []) × (h.whole ≡ empty_moment σ)).
    let e = alone_at (Opening (empty_moment σ)) (Opening m) id (ap (λ (l : List View). get_elem? l id) (sym o.0) ∙ at) in
    let is : empty_moment σ ≡ m = ap moment_of e.1 in
    let r : Running (empty_moment σ) (set (Opening (empty_moment σ) ∷ []) id (Writer (empty_moment σ)) ++ Converter (empty_moment σ) ∷ []) = first_split σ id e.0 in
    let r' : Running h.whole (set s.views id (Writer m) ++ Converter m ∷ []) =
    subst (λ (x : Moment × List View × Moment). Running x.0 (set x.1 id (Writer x.2) ++ Converter x.2 ∷ [])) (λ i. (sym o.1 i, sym o.0 i, is i)) r in
    record { whole = h.whole; setting = h.setting; moment = h.moment; words = h.words; views = inr r' })
    (λ (r : Running h.whole s.views). absurd (r.each id (Opening m) at))
    h.views

-- of any other
known_later : (w c by : ℕ) (whole : Moment) (v : View) → IsLive v → MayKnow w c whole by v → IsNotBefore whole (moment_of v)
known_later w c by whole (Opening m) live f = absurd live
known_later w c by whole (Writer m) live f = f.2
known_later w c by whole (Converter m) live f = f.2
known_later w c by whole (Reader m) live f = f
known_later w c by whole Spent live f = absurd live

splits_on : (σ : Setting) (id : ℕ) (v : View) → IsLive v → Splits (KeepsWords σ) id v v (Reader (moment_of v))
splits_on σ id v live s h at =
    let r = running σ s h id v live at in
    let same : set s.views id v ≡ s.views = set_again s.views id v at in
    let new = Reader (moment_of v) in
    let views' : Running h.whole (s.views ++ new ∷ []) = record {
      writer = r.writer;
      converter = r.converter;
      writes = (r.writes.0, at_longer s.views (new ∷ []) r.writer _ r.writes.1);
      converts = (r.converts.0, at_longer s.views (new ∷ []) r.converter _ r.converts.1);
      each = λ j u e. ⊎_elim (λ (was : get_elem? s.views j ≡ some u). r.each j u was)
          (λ (is : new ≡ u). subst (MayKnow r.writer r.converter h.whole j) is (known_later r.writer r.converter id h.whole v live (r.each id v at))) (at_snoc s.views new u j e);
    } in
    record { whole = h.whole; setting = h.setting; moment = h.moment; words = h.words; views = inr (subst (λ (l : List View). Running h.whole (l ++ new ∷ [])) (sym same) views') }

pub splits : (σ : Setting) (id : ℕ) (v : View) → IsUnspent v → Splits (KeepsWords σ) id v (left_of v) (right_of v)
splits σ id (Opening m) can = splits_first σ id m
splits σ id (Writer m) can = splits_on σ id (Writer m) tt
splits σ id (Converter m) can = splits_on σ id (Converter m) tt
splits σ id (Reader m) can = splits_on σ id (Reader m) tt
splits σ id Spent can = absurd can
