use Rattle.std.proofs.Common.{◌<◌, ap, sym, ◌∙◌, subst, inl, inr}
use Rattle.std.proofs.lemmas.Bool.{cases_lt, lt-ltb, le-ltb}
use Rattle.eb_base.specs.Setting.{Setting}
use Rattle.eb_place.specs.Layout.{place}
use Rattle.eb_place.specs.Layout.Slot.{slot}
use Rattle.eb_place.specs.Layout.Region.{tail_region}
use Rattle.eb_place.specs.Moments.{word}
use Rattle.eb_place.proofs.ConverterWords.{closed_room}
use Rattle.eb_convert.proofs.Terms.{has_term_at, has_no_term_at}
use Rattle.eb_convert.proofs.conversion.has_term.Goals as goal

pub tail-place-requires-clause-segment : goal.tail-place-requires-clause-segment
tail-place-requires-clause-segment g c =
    let r = c.requires in
    let is = g.met.P.Port.lawful c.args.port.now r.0 r.1 in
    subst (λ (σ : Setting). c.args.segment < σ.segments) (sym (c.new.ensures ∙ c.config.ensures r.0 r.1)) (closed_room r.0 c.args.segment is r.2).inside

pub returns : goal.returns
returns g c m st cl b =
    let s = c.args.segment in
    let k = c.args.term in
    let n = c.load.ensures.told m st in
    let is = g.met.P.Port.lawful c.args.port.now m st in
    let js = g.met.P.Port.lawful c.load.new.self n.0 n.1 in
    let e = c.tail-place.ensures.place ∙ ap (λ (σ : Setting). place σ (slot s tail_region k)) (c.new.ensures ∙ c.config.ensures m st ∙ n.2.setting) in
    let v = n.4 ∙ ap (word n.0) e in (
      n.0,
      n.1,
      n.2,
      n.3,
      elim (cases_lt 0 c.load.result) [
        | inl low ↦ rw (lt-ltb 0 c.load.result low) (has_term_at m n.0 s k c.load.result is js n.2 cl b v low)
        | inr high ↦ rw (le-ltb 0 c.load.result high) (has_no_term_at m n.0 s k c.load.result is js n.2 cl v high)
      ],
    )
