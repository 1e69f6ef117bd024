-- The converter's store keeps the rule.
use Rattle.std.proofs.Common.{◌+◌, ◌≡◌, ◌≢◌, ℕ, suc, ◌<◌, inr, List, [], ◌++◌, length, set, ltb}
use Rattle.std.proofs.Common.{slice_get, refl, ap, sym, ◌∙◌, subst, arith}
use mathlib.Core.Option.{none}
use lib.ListN.{get_elem?}
use Rattle.atomic_table.specs.Table.{Me, step, keeps, Allows}
use Rattle.atomic_table.proofs.Lists.{set_here}
use Rattle.eb_base.specs.Document.{Doc}
use Rattle.eb_base.specs.Setting.{Setting}
use Rattle.eb_place.specs.declared.moment.Conversions.{Conversions}
use Rattle.eb_place.specs.declared.moment.Documents.{Documents}
use Rattle.eb_place.specs.declared.moment.Moment.{Moment}
use Rattle.eb_place.specs.Room.{cut}
use Rattle.eb_place.specs.Placing.{Store, pairs_of}
use Rattle.eb_place.specs.Conversion.{segment_stores}
use Rattle.eb_place.specs.Moments.{with_current, IsClosed}
use Rattle.eb_place.specs.Later.{Reaches, ReachesPacked, IsNotBefore}
use Rattle.eb_place.specs.NextStores.{IsNextPut, conversions_after, after_put}
use Rattle.eb_place.proofs.LaterMoments.{later_on, packed_self}
use Rattle.eb_place.proofs.NextStore.{segment_stays}
use Rattle.eb_place.proofs.NextPackedStore.{word_packed, packed_in_table, moment_packed, setting_packed, later_packed}
use Rattle.eb_place.proofs.CutSegments.{closed_stays}
use Rattle.eb_place.proofs.ReachedLater.{later_started}
use Rattle.eb_place.proofs.ImagesOfMoments.{image_changed}
use Rattle.eb_table.specs.declared.view.View.{View}
use Rattle.eb_table.specs.declared.view.View.TheVariants.{Opening, Writer, Converter, Reader, Spent}
use Rattle.eb_table.specs.Rule.{moment_of, MayKnow, Running, KeepsWords}
use Rattle.eb_table.specs.Steps.{Put}
use Rattle.eb_table.proofs.Views.{there_less, fits_set, stays_at, running}

others_fit_too : (w c : ℕ) (whole whole' : Moment) (j : ℕ) (u : View) → j ≢ c → IsNotBefore whole' whole → whole.documents ≡ whole'.documents → MayKnow w c whole j u
    → MayKnow w c whole' j u
others_fit_too w c whole whole' j (Opening m) apart l same f = f
others_fit_too w c whole whole' j (Writer m) apart l same f = (f.0, f.1 ∙ same, later_on _ _ _ f.2 l)
others_fit_too w c whole whole' j (Converter m) apart l same f = absurd (apart f.0)
others_fit_too w c whole whole' j (Reader m) apart l same f = later_on _ _ _ f l
others_fit_too w c whole whole' j Spent apart l same f = tt

-- a segment that is closed stays so, with the same stores of its conversion
closed_later : (m whole : Moment) (s : ℕ) → IsNotBefore whole m → IsClosed m s
    → IsClosed whole s × (segment_stores whole.setting (with_current whole.documents) s ≡ segment_stores m.setting (with_current m.documents) s)
closed_later m whole s l c =
    let front = later_started m whole l in
    let k = closed_stays m.setting (with_current m.documents) front.0 s c in
    let e = segment_stays m.setting (with_current m.documents) front.0 s c in
    let P : Setting → List Doc → Type 0 = λ σ docs. (s + 1 < length (cut σ docs)) × (segment_stores σ docs s ≡ segment_stores m.setting (with_current m.documents) s) in
    let here : P m.setting (with_current m.documents ++ front.0) = (omega (arith, k.0, c), e) in
    subst (λ (x : Setting × List Doc). P x.0 x.1) (λ i. (l.setting i, front.1 i)) here

-- what the converter may put next, it may at the moment of the words
put_whole : (m whole : Moment) (p v : ℕ) → IsNotBefore whole m → m.conversions ≡ whole.conversions → IsNextPut m p v → IsNextPut whole p v
put_whole m whole p v l e n =
    let k = closed_later m whole m.conversions.converted l n.closed in
    let same : pairs_of whole.setting (segment_stores whole.setting (with_current whole.documents) m.conversions.converted) ≡ pairs_of m.setting
    (segment_stores m.setting (with_current m.documents) m.conversions.converted) = λ i. pairs_of (sym l.setting i) (k.1 i) in
    subst (λ (c : Conversions). IsNextPut record { setting = whole.setting; documents = whole.documents; conversions = c } p v) e record {
      closed = k.0;
      pair =
          ap (λ (xs : List (ℕ × ℕ)). slice_get xs m.conversions.packed) same ∙ n.pair;
    }

-- and has the same conversion part then
same_put : (m whole : Moment) (p v : ℕ) → IsNotBefore whole m → m.conversions ≡ whole.conversions → IsNextPut m p v → (after_put m).conversions ≡ (after_put whole).conversions
unfolding after_put
same_put m whole p v l e n =
    let k = closed_later m whole m.conversions.converted l n.closed in
    ap (λ (xs : List Store). conversions_after (ltb (suc m.conversions.packed) (length xs)) m.conversions) (sym k.1)
    ∙ ap (λ (c : Conversions). conversions_after (ltb (suc c.packed) (length (segment_stores whole.setting (with_current whole.documents) c.converted))) c) e

put_documents : (m : Moment) → (after_put m).documents ≡ m.documents
unfolding after_put
put_documents m = refl

pub puts : (σ : Setting) (slots id : ℕ) (m : Moment) (p v : ℕ) → IsNextPut m p v
    → Allows (KeepsWords σ) slots id (Converter m, []) p (λ _. v) (λ _. Put (step slots p v 0 none) (Converter m, []) v)
puts σ slots id m p v next s h _ at _ =
    let r = running σ s h id (Converter m) tt at in
    let f = r.each id (Converter m) at in
    let whole = h.whole in
    let next' : IsNextPut whole p v = put_whole m whole p v f.2 f.1 next in
    let whole' = after_put whole in
    let more : IsNotBefore whole' whole = later_packed whole in
    let new = Converter (after_put m) in
    let same = put_documents whole in
    let at_converter : r.converter ≡ id = sym f.0 in
    let packs : (after_put m).conversions ≡ whole'.conversions = same_put m whole p v f.2 f.1 next in
    let mine : MayKnow r.writer r.converter whole' id new = (
      f.0,
      packs,
      record {
        setting = setting_packed m ∙ (f.2.setting ∙ sym (setting_packed whole));
        documents =
            subst (Reaches (after_put m).documents) (sym same) (subst (λ (x : Documents). Reaches x whole.documents) (sym (put_documents m)) f.2.documents);
        conversions =
            subst (ReachesPacked (after_put m).conversions) packs (packed_self (after_put m).conversions);
      },
    ) in
    let views' : Running whole' (set s.views id new) = record {
      writer = r.writer;
      converter = r.converter;
      writes = stays_at s.views id r.writer Writer (Converter m) new at (λ n e. absurd (cc e)) r.writes;
      converts = (after_put m, ap (λ (i : ℕ). get_elem? (set s.views id new) i) at_converter ∙ set_here s.views id new (there_less s.views id (Converter m) at));
      each = fits_set r.writer r.converter whole' s.views id new
          (λ j u apart e. others_fit_too r.writer r.converter whole whole' j u (λ q. apart (q ∙ at_converter)) more (sym same) (r.each j u e)) mine;
    } in (
      new,
      keeps,
      tt,
      record {
        whole = whole';
        setting = setting_packed whole ∙ h.setting;
        moment = moment_packed whole p v h.moment next';
        words = ap (λ (ws : List ℕ). set ws p v) h.words
            ∙ image_changed whole whole' p v (setting_packed whole) (packed_in_table whole p v h.moment next') (λ q. word_packed whole p v q next');
        views = inr views';
      },
      refl,
    )

-- the same, at what a seat has
pub puts_at : (σ : Setting) (slots id : ℕ) (me : Me (Unit {0}) View) (p v : ℕ) → me ≡ (Converter (moment_of me.0), []) → IsNextPut (moment_of me.0) p v
    → Allows (KeepsWords σ) slots id me p (λ _. v) (λ _. Put (step slots p v 0 none) me v)
puts_at σ slots id me p v is next =
    subst (λ (x : Me (Unit {0}) View). Allows (KeepsWords σ) slots id x p (λ _. v) (λ _. Put (step slots p v 0 none) x v)) (sym is) (puts σ slots id (moment_of me.0) p v next)
