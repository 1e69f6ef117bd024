use Rattle.std.proofs.Common.{ℕ, ◌<◌, ap, ◌∙◌, subst, arith, inl, inr}
use Rattle.std.proofs.lemmas.Bool.{cases_lt, lt-ltb, le-ltb}
use Rattle.eb_base.specs.Setting.{Setting}
use Rattle.eb_place.specs.Layout.{place}
use Rattle.eb_place.specs.Layout.Slot.{slot}
use Rattle.eb_place.specs.Layout.Region.{first_region}
use Rattle.eb_place.specs.declared.moment.Moment.{Moment}
use Rattle.eb_place.specs.Moments.{word, IsMoment}
use Rattle.eb_convert.specs.Progress.{IsBegunAt}
use Rattle.eb_convert.specs.Converting.{first_word}
use Rattle.eb_place.proofs.BegunSegments.{begun_where_first}
use Rattle.eb_convert.proofs.conversion.is_begun.Goals as goal

begun : (n : Moment) (s : ℕ) → IsMoment n → s < n.setting.segments → 0 < first_word n s → IsBegunAt n s
unfolding IsBegunAt
begun = begun_where_first

pub returns : goal.returns
returns g c = record {
  told = λ m st b.
      (let s = c.args.segment in
      let n = c.load.ensures.told m st in
      let js = g.met.P.Port.lawful c.load.new.self n.0 n.1 in
      let e = c.first-place.ensures.place ∙ ap (λ (σ : Setting). place σ (slot s first_region 0)) (c.new.ensures ∙ c.config.ensures m st ∙ n.2.setting) in
      let v = n.4 ∙ ap (word n.0) e in
      let ins = subst (λ (σ : Setting). s < σ.segments) n.2.setting b in (
        n.0,
        n.1,
        n.2,
        n.3,
        elim (cases_lt 0 c.load.result) [
          | inl low ↦ rw (lt-ltb 0 c.load.result low) (begun n.0 s js ins (omega (arith, v)))
          | inr high ↦ rw (le-ltb 0 c.load.result high) (omega (arith, v))
        ],
      ));
}
