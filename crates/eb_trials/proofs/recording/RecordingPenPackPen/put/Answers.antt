use Rattle.std.proofs.Common.{◌≡◌, ◌+◌, ◌≤◌, Bool, false, true, if◌then◌else◌, ap, sym, ◌∙◌, refl, arith}
use Rattle.std.proofs.lemmas.Bool.{false≢true}
use Rattle.std.proofs.Math.Dec.{eqb}
use mir.Val.{bool_byte}
use Rattle.eb_base.specs.Setting.{Setting}
use Rattle.eb_place.specs.declared.moment.Moment.{Moment}
use Rattle.eb_place.specs.Layout.{place}
use Rattle.eb_place.specs.Layout.Slot.{slot}
use Rattle.eb_place.specs.Layout.Region.{converted_region}
use Rattle.eb_place.specs.NextStores.{IsNextPut}
use Rattle.eb_trials.specs.Recorded.{IsRecord}
use Rattle.eb_trials.proofs.Records.{next_inside, segments_few, counted, same_stores, IsCounted}
use Rattle.eb_trials.proofs.recording.RecordingPenPackPen.put.Goals.{After-from}
use Rattle.eb_trials.proofs.recording.RecordingPenPackPen.put.Goals as goal

byte : (b : Bool) → bool_byte b ≡ (if b then 1 else 0)
byte true = refl
byte false = refl

pub converted-requires : goal.converted-requires
converted-requires c =
    let r = c.requires in
    let h = r.1 in
    let e = ap (λ (σ : Setting). σ.segments) (c.new.ensures ∙ c.config.ensures r.0 h.words) in
    omega (arith, next_inside r.0 c.args.place c.args.value h.words.moment r.2, h.converted, e)

pub overflow_add-self : goal.overflow_add-self
overflow_add-self c =
    let r = c.requires in
    let h = r.1 in
    let b = eqb c.args.place c.converted.result in
    omega (arith, next_inside r.0 c.args.place c.args.value h.words.moment r.2, segments_few r.0 h.words.moment, h.converted, small b, c.from.ensures)
  where
    small : (b : Bool) → bool_byte b ≤ 1
    small true = omega arith
    small false = omega arith

-- what the put leaves
left : (c : After-from) (m : Moment) → (h : IsRecord c.args.self.now m) → (n : IsNextPut m c.args.place c.args.value)
    → IsCounted m (eqb c.args.place c.converted.result)
left c m h n =
    let at : c.converted.result ≡ place m.setting (slot m.conversions.converted converted_region 0) = c.converted.ensures.place
    ∙ ap (λ (σ : Setting). place σ (slot c.args.self.now.converted converted_region 0)) (c.new.ensures ∙ c.config.ensures m h.words)
    ∙ ap (λ k. place m.setting (slot k converted_region 0)) (sym h.converted) in
    counted m c.args.place c.args.value (eqb c.args.place c.converted.result) h.words.moment n (ap (eqb c.args.place) at)

pub returns-then-is_err : goal.returns-then-is_err
returns-then-is_err c m h n =
    let w = c.put.ensures m h.words n in
    let k = left (goal.at.returns-then-is_err c).After-from m h n in (
      record {
        words = w.0;
        stores = λ e. absurd (false≢true (sym e));
        converted = k.converted ∙ ap (λ j. j + (if eqb c.args.place c.converted.result then 1 else 0)) h.converted
            ∙ ap (λ j. c.args.self.now.converted + j) (sym (c.from.ensures ∙ byte (eqb c.args.place c.converted.result)));
        whole = k.whole;
      },
      w.1,
    )

pub returns-else-is_err : goal.returns-else-is_err
returns-else-is_err c m h n =
    let w = c.put.ensures m h.words n in
    let k = left (goal.at.returns-else-is_err c).After-from m h n in (
      record {
        words = w.0;
        stores = λ e. h.stores e ∙ sym (same_stores m);
        converted = k.converted ∙ ap (λ j. j + (if eqb c.args.place c.converted.result then 1 else 0)) h.converted
            ∙ ap (λ j. c.args.self.now.converted + j) (sym (c.from.ensures ∙ byte (eqb c.args.place c.converted.result)));
        whole = k.whole;
      },
      w.1,
    )

pub returns-then-self : goal.returns-then-self
returns-then-self c m h n =
    let w = c.put.ensures m h.words n in
    let k = left (goal.at.returns-then-self c).After-from m h n in (
      record {
        words = w.0;
        stores = λ e. absurd (false≢true (sym e ∙ c.if-self.true));
        converted = k.converted ∙ ap (λ j. j + (if eqb c.args.place c.converted.result then 1 else 0)) h.converted
            ∙ ap (λ j. c.args.self.now.converted + j) (sym (c.from.ensures ∙ byte (eqb c.args.place c.converted.result)));
        whole = k.whole;
      },
      w.1,
    )
