-- A join keeps the rule.
use Rattle.std.proofs.Common.{◌≡◌, ℕ, inr, set, Bool, true, ◌&&◌, cond}
use Rattle.std.proofs.Common.{refl, sym, ◌∙◌, subst}
use mathlib.Core.Option.{some}
use lib.ListN.{get_elem?}
use Rattle.atomic_table.specs.Table.{Joins}
use Rattle.atomic_table.proofs.Lists.{set_else}
use Rattle.eb_base.specs.Setting.{Setting}
use Rattle.eb_place.specs.declared.moment.Moment.{Moment}
use Rattle.eb_place.specs.Later.{Reaches, ReachesPacked, IsNotBefore}
use Rattle.eb_place.specs.Meets.{later_documents, later_conversions, later_of}
use Rattle.eb_place.proofs.MeetOfParts.{documents_meet}
use Rattle.eb_place.proofs.MeetOfMoments.{conversions_meet}
use Rattle.eb_table.specs.declared.view.View.{View}
use Rattle.eb_table.specs.declared.view.View.TheVariants.{Opening, Writer, Converter, Reader, Spent}
use Rattle.eb_table.specs.Rule.{moment_of, IsLive, MayKnow, Running, KeepsWords}
use Rattle.eb_table.specs.InLine.{unreal}
use Rattle.eb_table.specs.Steps.{at_moment, met, met_moment}
use Rattle.eb_table.proofs.InLine.{reaches_decides, in_line_passes, packed_decides}
use Rattle.eb_table.proofs.Views.{fits_set, stays_at, kind_stays, running}

both_true : (a b : Bool) → a ≡ true → b ≡ true → (a && b) ≡ true
both_true a b e f = rw (e, f) refl

joined : (w c by : ℕ) (whole n : Moment) (v : View) → IsLive v → MayKnow w c whole by v → IsNotBefore whole n → MayKnow w c whole by (at_moment v (met_moment v n))
joined w c by whole n (Opening m) live f l = absurd live
joined w c by whole n Spent live f l = absurd live
joined w c by whole n (Writer m) live f l =
    let r : Reaches n.documents m.documents = subst (Reaches n.documents) (sym f.1) l.documents in
    let p = conversions_meet m.conversions n.conversions whole.conversions f.2.conversions l.conversions in
    let made : Moment = record { setting = m.setting; documents = m.documents; conversions = later_conversions m.conversions n.conversions } in
    let fits : MayKnow w c whole by (Writer made) = (f.0, f.1, record { setting = f.2.setting; documents = f.2.documents; conversions = p.third }) in
    subst (λ (t : Bool). MayKnow w c whole by (Writer (cond t made (unreal m.setting)))) (sym ((reaches_decides _ _).1 r)) fits
joined w c by whole n (Converter m) live f l =
    let r = documents_meet m.documents n.documents whole.documents f.2.documents l.documents in
    let p : ReachesPacked n.conversions m.conversions = subst (ReachesPacked n.conversions) (sym f.1) l.conversions in
    let made : Moment = record { setting = m.setting; documents = later_documents m.documents n.documents; conversions = m.conversions } in
    let fits : MayKnow w c whole by (Converter made) = (f.0, f.1, record { setting = f.2.setting; documents = r.third; conversions = f.2.conversions }) in
    subst (λ (t : Bool). MayKnow w c whole by (Converter (cond t made (unreal m.setting))))
    (sym (both_true _ _ (in_line_passes _ _ _ f.2.documents l.documents) ((packed_decides _ _).1 p))) fits
joined w c by whole n (Reader m) live f l =
    let r = documents_meet m.documents n.documents whole.documents f.documents l.documents in
    let p = conversions_meet m.conversions n.conversions whole.conversions f.conversions l.conversions in
    let fits : IsNotBefore whole (later_of m n) = record { setting = f.setting; documents = r.third; conversions = p.third } in
    subst (λ (t : Bool). IsNotBefore whole (cond t (later_of m n) (unreal m.setting))) (sym (in_line_passes _ _ _ f.documents l.documents)) fits

pub joins : (σ : Setting) (id other : ℕ) (v : View) (n : Moment) → IsLive v → Joins (KeepsWords σ) id v other (Reader n) (met v (Reader n)) Spent
joins σ id other v n live s h at apart there =
    let r = running σ s h id v live at in
    let new = met v (Reader n) in
    let was : get_elem? s.views other ≡ some (Reader n) = sym (set_else s.views id other new apart) ∙ there in
    let l : IsNotBefore h.whole n = r.each other (Reader n) was in
    let mine = joined r.writer r.converter id h.whole n v live (r.each id v at) l in
    let kind : (f : Moment → View) → ((m n : Moment) → at_moment (f m) n ≡ f n) → (m : Moment) → v ≡ f m → (n' : Moment) × (new ≡ f n') =
    λ f keeps_kind m e. kind_stays f keeps_kind v (met_moment v n) m e in
    let views' : Running h.whole (set (set s.views id new) other Spent) = record {
      writer = r.writer;
      converter = r.converter;
      writes = stays_at (set s.views id new) other r.writer Writer (Reader n) Spent there (λ m e. absurd (cc e))
          (stays_at s.views id r.writer Writer v new at (kind Writer (λ m n. refl)) r.writes);
      converts = stays_at (set s.views id new) other r.converter Converter (Reader n) Spent there (λ m e. absurd (cc e))
          (stays_at s.views id r.converter Converter v new at (kind Converter (λ m n. refl)) r.converts);
      each = fits_set r.writer r.converter h.whole (set s.views id new) other Spent
          (λ j u _ e. fits_set r.writer r.converter h.whole s.views id new (λ i y _ e'. r.each i y e') mine j u e) tt;
    } in
    record { whole = h.whole; setting = h.setting; moment = h.moment; words = h.words; views = inr views' }

-- the same, at what a seat has
pub joins_at : (σ : Setting) (id other : ℕ) (v w : View) → IsLive v → w ≡ Reader (moment_of w) → Joins (KeepsWords σ) id v other w (met v w) Spent
joins_at σ id other v w live is = subst (λ (x : View). Joins (KeepsWords σ) id v other x (met v x) Spent) (sym is) (joins σ id other v (moment_of w) live)
