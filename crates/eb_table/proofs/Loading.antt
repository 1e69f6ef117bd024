-- A load keeps the rule.
use Rattle.std.proofs.Common.{◌≡◌, ℕ, ◌<◌, inr, List, [], get_or, set}
use Rattle.std.proofs.Common.{refl, ap, sym, ◌∙◌, subst}
use Rattle.std.proofs.lemmas.List.{set-get_or}
use mathlib.Core.Option.{none}
use Rattle.atomic_table.specs.Table.{Me, step, keeps, Allows}
use Rattle.eb_base.specs.Setting.{Setting, words_of}
use Rattle.eb_place.specs.declared.moment.Moment.{Moment}
use Rattle.eb_place.specs.Later.{IsNotBefore}
use Rattle.eb_place.proofs.LaterMoments.{later_self}
use Rattle.eb_place.proofs.ImagesOfMoments.{get_or-image}
use Rattle.eb_table.specs.declared.view.View.{View}
use Rattle.eb_table.specs.declared.view.View.TheVariants.{Opening, Writer, Converter, Reader, Spent}
use Rattle.eb_table.specs.Rule.{moment_of, IsLive, MayKnow, Running, KeepsWords}
use Rattle.eb_table.specs.Steps.{at_moment, Leaves, LoadedWord, Confirmed}
use Rattle.eb_table.proofs.Views.{fits_set, stays_at, kind_stays, running}

-- a load leaves the words, and its seat may know the moment that they are of
looked : (w c by : ℕ) (whole : Moment) (v : View) → IsLive v → MayKnow w c whole by v → MayKnow w c whole by (at_moment v whole) × IsNotBefore whole (moment_of v) × Leaves v whole
looked w c by whole (Opening m) live f = absurd live
looked w c by whole (Writer m) live f = ((f.0, refl, later_self whole), f.2, sym f.1)
looked w c by whole (Converter m) live f = ((f.0, refl, later_self whole), f.2, sym f.1)
looked w c by whole (Reader m) live f = (later_self whole, f, tt)
looked w c by whole Spent live f = absurd live

pub loads : (σ : Setting) (slots id : ℕ) (v : View) (place : ℕ) → IsLive v → place < words_of σ
    → Allows (KeepsWords σ) slots id (v, []) place (λ n. n) (LoadedWord (step slots place 0 0 none) (v, []))
loads σ slots id v place live inside s h _ at _ =
    let r = running σ s h id v live at in
    let l = looked r.writer r.converter id h.whole v live (r.each id v at) in
    let new = at_moment v h.whole in
    let inside' : place < words_of h.whole.setting = subst (λ (z : Setting). place < words_of z) (sym h.setting) inside in
    let views' : Running h.whole (set s.views id new) = record {
      writer = r.writer;
      converter = r.converter;
      writes = stays_at s.views id r.writer Writer v new at (kind_stays Writer (λ m n. refl) v h.whole) r.writes;
      converts = stays_at s.views id r.converter Converter v new at (kind_stays Converter (λ m n. refl) v h.whole) r.converts;
      each = fits_set r.writer r.converter h.whole s.views id new (λ j u _ e. r.each j u e) l.0;
    } in (
      new,
      keeps,
      tt,
      record {
        whole = h.whole;
        setting = h.setting;
        moment = h.moment;
        words = set-get_or s.words place 0 ∙ h.words;
        views = inr views';
      },
      (h.whole, refl, record { later = l.1; leaves = l.2; moment = h.moment; value = ap (λ (ws : List ℕ). get_or ws place 0) h.words ∙ get_or-image h.whole place inside' }),
    )

-- the same, at what a seat has
pub loads_at : (σ : Setting) (slots id : ℕ) (me : Me (Unit {0}) View) (place : ℕ) → IsLive me.0 → me.1 ≡ [] → place < words_of σ
    → Allows (KeepsWords σ) slots id me place (λ n. n) (LoadedWord (step slots place 0 0 none) me)
loads_at σ slots id me place live e inside =
    subst (λ (c : List (ℕ × Unit {0})). Allows (KeepsWords σ) slots id (me.0, c) place (λ n. n) (LoadedWord (step slots place 0 0 none) (me.0, c))) (sym e)
    (loads σ slots id me.0 place live inside)

-- a load that leaves what its seat knows keeps the rule, too
knows_past : (w c by : ℕ) (whole : Moment) (v : View) → IsLive v → MayKnow w c whole by v → IsNotBefore whole (moment_of v)
knows_past w c by whole v live f = (looked w c by whole v live f).1

pub confirms : (σ : Setting) (slots id : ℕ) (v : View) (place : ℕ) → IsLive v → place < words_of σ
    → Allows (KeepsWords σ) slots id (v, []) place (λ n. n) (Confirmed (step 0 0 0 0 none) (v, []))
confirms σ slots id v place live inside s h _ at _ =
    let r = running σ s h id v live at in
    let l = knows_past r.writer r.converter id h.whole v live (r.each id v at) in
    let views' : Running h.whole (set s.views id v) = record {
      writer = r.writer;
      converter = r.converter;
      writes = stays_at s.views id r.writer Writer v v at (λ m e. (m, e)) r.writes;
      converts = stays_at s.views id r.converter Converter v v at (λ m e. (m, e)) r.converts;
      each = fits_set r.writer r.converter h.whole s.views id v (λ j u _ e. r.each j u e) (r.each id v at);
    } in (
      v,
      keeps,
      tt,
      record {
        whole = h.whole;
        setting = h.setting;
        moment = h.moment;
        words = set-get_or s.words place 0 ∙ h.words;
        views = inr views';
      },
      (refl, h.whole, h.moment, l),
    )

-- the same, at what a seat has
pub confirms_at : (σ : Setting) (slots id : ℕ) (me : Me (Unit {0}) View) (place : ℕ) → IsLive me.0 → me.1 ≡ [] → place < words_of σ
    → Allows (KeepsWords σ) slots id me place (λ n. n) (Confirmed (step 0 0 0 0 none) me)
confirms_at σ slots id me place live e inside =
    subst (λ (c : List (ℕ × Unit {0})). Allows (KeepsWords σ) slots id (me.0, c) place (λ n. n) (Confirmed (step 0 0 0 0 none) (me.0, c))) (sym e)
    (confirms σ slots id me.0 place live inside)
