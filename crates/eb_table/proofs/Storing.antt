-- The writer's store keeps the rule.
use Rattle.std.proofs.Common.{◌≡◌, ◌≢◌, ℕ, inr, List, [], set}
use Rattle.std.proofs.Common.{refl, ap, sym, ◌∙◌, subst}
use mathlib.Core.Option.{none}
use lib.ListN.{get_elem?}
use Rattle.atomic_table.specs.Table.{Me, step, keeps, Allows}
use Rattle.atomic_table.proofs.Lists.{set_here}
use Rattle.eb_base.specs.Document.{Doc}
use Rattle.eb_base.specs.Setting.{Setting}
use Rattle.eb_place.specs.declared.moment.Conversions.{Conversions}
use Rattle.eb_place.specs.declared.moment.Moment.{Moment}
use Rattle.eb_place.specs.Later.{Reaches, ReachesPacked, IsNotBefore}
use Rattle.eb_place.specs.NextStores.{IsNext, after_store}
use Rattle.eb_place.proofs.LaterMoments.{later_on, reaches_self}
use Rattle.eb_place.proofs.AfterStore.{moment_stored, later_stored}
use Rattle.eb_place.proofs.NextStore.{word_stored, next_in_table, setting_stored}
use Rattle.eb_place.proofs.ImagesOfMoments.{image_changed}
use Rattle.eb_table.specs.declared.view.View.{View}
use Rattle.eb_table.specs.declared.view.View.TheVariants.{Opening, Writer, Converter, Reader, Spent}
use Rattle.eb_table.specs.Rule.{moment_of, MayKnow, Running, KeepsWords}
use Rattle.eb_table.specs.Steps.{Stored}
use Rattle.eb_table.proofs.Views.{there_less, fits_set, stays_at, running}

others_fit : (w c : ℕ) (whole whole' : Moment) (j : ℕ) (u : View) → j ≢ w → IsNotBefore whole' whole → whole.conversions ≡ whole'.conversions → MayKnow w c whole j u
    → MayKnow w c whole' j u
others_fit w c whole whole' j (Opening m) apart l same f = f
others_fit w c whole whole' j (Writer m) apart l same f = absurd (apart f.0)
others_fit w c whole whole' j (Converter m) apart l same f = (f.0, f.1 ∙ same, later_on _ _ _ f.2 l)
others_fit w c whole whole' j (Reader m) apart l same f = later_on _ _ _ f l
others_fit w c whole whole' j Spent apart l same f = tt

-- what the writer may store next, it may at the moment of the words
next_whole : (m whole : Moment) (d : Doc) (p v : ℕ) → m.setting ≡ whole.setting → m.documents ≡ whole.documents → IsNext m d p v → IsNext whole d p v
next_whole m whole d p v s e n =
    subst (λ (x : Moment). IsNext x d p v) (λ i. record { setting = s i; documents = e i; conversions = whole.conversions }) record {
      limits = n.limits;
      room =
          n.room;
      current = n.current;
      pair = n.pair;
    }

same_stored : (m whole : Moment) (d : Doc) → m.setting ≡ whole.setting → m.documents ≡ whole.documents → (after_store m d).documents ≡ (after_store whole d).documents
unfolding after_store
same_stored m whole d s e = λ i. (after_store record { setting = s i; documents = e i; conversions = whole.conversions } d).documents

stored_conversions : (m : Moment) (d : Doc) → (after_store m d).conversions ≡ m.conversions
unfolding after_store
stored_conversions m d = refl

pub stores : (σ : Setting) (slots id : ℕ) (m : Moment) (d : Doc) (p v : ℕ) → IsNext m d p v
    → Allows (KeepsWords σ) slots id (Writer m, []) p (λ _. v) (λ _. Stored d (step slots p v 0 none) (Writer m, []) v)
stores σ slots id m d p v next s h _ at _ =
    let r = running σ s h id (Writer m) tt at in
    let f = r.each id (Writer m) at in
    let whole = h.whole in
    let next' : IsNext whole d p v = next_whole m whole d p v f.2.setting f.1 next in
    let whole' = after_store whole d in
    let more : IsNotBefore whole' whole = later_stored whole d next'.current in
    let new = Writer (after_store m d) in
    let same = stored_conversions whole d in
    let at_writer : r.writer ≡ id = sym f.0 in
    let docs : (after_store m d).documents ≡ whole'.documents = same_stored m whole d f.2.setting f.1 in
    let mine : MayKnow r.writer r.converter whole' id new = (
      f.0,
      docs,
      record {
        setting = setting_stored m d ∙ (f.2.setting ∙ sym (setting_stored whole d));
        documents =
            subst (Reaches (after_store m d).documents) docs (reaches_self (after_store m d).documents);
        conversions =
            subst (ReachesPacked (after_store m d).conversions) (sym same)
            (subst (λ (x : Conversions). ReachesPacked x whole.conversions) (sym (stored_conversions m d)) f.2.conversions);
      },
    ) in
    let views' : Running whole' (set s.views id new) = record {
      writer = r.writer;
      converter = r.converter;
      writes = (after_store m d, ap (λ (i : ℕ). get_elem? (set s.views id new) i) at_writer ∙ set_here s.views id new (there_less s.views id (Writer m) at));
      converts = stays_at s.views id r.converter Converter (Writer m) new at (λ n e. absurd (cc e)) r.converts;
      each = fits_set r.writer r.converter whole' s.views id new
          (λ j u apart e. others_fit r.writer r.converter whole whole' j u (λ q. apart (q ∙ at_writer)) more (sym same) (r.each j u e)) mine;
    } in (
      new,
      keeps,
      tt,
      record {
        whole = whole';
        setting = setting_stored whole d ∙ h.setting;
        moment = moment_stored whole d p v h.moment next';
        words = ap (λ (ws : List ℕ). set ws p v) h.words
            ∙ image_changed whole whole' p v (setting_stored whole d) (next_in_table whole d p v h.moment next') (λ q. word_stored whole d p v q h.moment next');
        views = inr views';
      },
      refl,
    )

-- the same, at what a seat has
pub stores_at : (σ : Setting) (slots id : ℕ) (me : Me (Unit {0}) View) (d : Doc) (p v : ℕ) → me ≡ (Writer (moment_of me.0), []) → IsNext (moment_of me.0) d p v
    → Allows (KeepsWords σ) slots id me p (λ _. v) (λ _. Stored d (step slots p v 0 none) me v)
stores_at σ slots id me d p v is next =
    subst (λ (x : Me (Unit {0}) View). Allows (KeepsWords σ) slots id x p (λ _. v) (λ _. Stored d (step slots p v 0 none) x v)) (sym is)
    (stores σ slots id (moment_of me.0) d p v next)
