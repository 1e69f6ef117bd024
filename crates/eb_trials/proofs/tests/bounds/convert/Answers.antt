use Rattle.std.proofs.Common.{◌∙◌, ap, sym, arith}
use Rattle.eb_base.specs.Setting.{Setting}
use Rattle.eb_trials.proofs.Packs.{are_converted}
use Rattle.eb_trials.proofs.tests.bounds.convert.Goals as goal

pub convert_next-requires : goal.convert_next-requires
convert_next-requires c =
    let r = c.requires in
    let h = r.1 in
    let e = ap (λ (σ : Setting). σ.segments) (c.config.ensures r.0 h) in (
      r.0,
      h,
      omega (arith, c.if-segment-segments.false, c.segments.ensures, e),
      are_converted c.args.pen.now r.0 c.converted-segment.result h (sym c.is_whole.ensures ∙ c.if-not-is_whole.false) c.converted-segment.ensures,
    )

pub returns : goal.returns
returns c =
    let r = c.requires in
    let h = r.1 in
    let e = ap (λ (σ : Setting). σ.segments) (c.config.ensures r.0 h) in
    let n = c.convert_next.ensures r.0 h (omega (arith, c.if-segment-segments.false, c.segments.ensures, e)) (are_converted c.args.pen.now r.0 c.converted-segment.result h
    (sym c.is_whole.ensures ∙ c.if-not-is_whole.false) c.converted-segment.ensures) in
    (n.0, n.1)
