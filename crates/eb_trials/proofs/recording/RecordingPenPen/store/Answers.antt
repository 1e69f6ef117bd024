use Rattle.std.proofs.Common.{rules, ap, sym, ◌∙◌}
use Rattle.std.proofs.lemmas.Bool.{false≢true}
use Rattle.eb_place.specs.declared.moment.Conversions.{Conversions}
use Rattle.eb_trials.proofs.Records.{one_recorded, same_conversions}
use Rattle.eb_trials.proofs.recording.RecordingPenPen.store.Goals as goal

pub returns-then-is_err : goal.returns-then-is_err
returns-then-is_err c m h n =
    let w = c.store.ensures m h.words n in (
      record {
        words = w.0;
        stores = λ e. absurd (false≢true (sym e));
        converted = ap (λ (k : Conversions). k.converted) (same_conversions m _) ∙ h.converted;
        whole = λ e. ap (λ (k : Conversions). k.packed) (same_conversions m _) ∙ h.whole e;
      },
      w.1,
    )

pub returns-else-is_err : goal.returns-else-is_err
returns-else-is_err c m h n =
    let w = c.store.ensures m h.words n in (
      record {
        words = w.0;
        stores = λ e. (let more = one_recorded m _ _ _ _ n (h.stores e) in search rules);
        converted = ap (λ (k : Conversions). k.converted) (same_conversions m _) ∙ h.converted;
        whole = λ e. ap (λ (k : Conversions). k.packed) (same_conversions m _) ∙ h.whole e;
      },
      w.1,
    )

pub returns-then-self : goal.returns-then-self
returns-then-self c m h n =
    let w = c.store.ensures m h.words n in (
      record {
        words = w.0;
        stores = λ e. absurd (false≢true (sym e ∙ c.if-self.true));
        converted = ap (λ (k : Conversions). k.converted) (same_conversions m _) ∙ h.converted;
        whole = λ e. ap (λ (k : Conversions). k.packed) (same_conversions m _) ∙ h.whole e;
      },
      w.1,
    )
