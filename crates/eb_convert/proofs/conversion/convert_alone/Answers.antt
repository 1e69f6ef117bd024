use Rattle.std.proofs.Common.{◌≡◌, ◌<◌, ◌+◌, refl, ap, ◌∙◌, subst, arith, inr}
use Rattle.std.specs.Bool.{MatchBool}
use Rattle.eb_base.specs.Setting.{Setting}
use Rattle.eb_place.proofs.LaterMoments.{later_on}
use Rattle.eb_convert.specs.Progress.{IsBegunAt}
use Rattle.eb_convert.specs.Converting.{first_word}
use Rattle.eb_convert.proofs.Terms.{begins_left}
use Rattle.eb_convert.proofs.conversion.convert_alone.Goals as goal

pub returns-then-not-is_begun : goal.returns-then-not-is_begun
returns-then-not-is_begun g c m st b h =
    let s = c.args.segment in
    let no = c.if-segment-segments.false in
    let e = ap (λ (σ : Setting). σ.segments) (c.config.ensures m st) in
    let q = c.segments.ensures in
    let low : s + 1 < m.setting.segments = omega (arith, no) in
    let n = c.is_begun.ensures.told m st low in
    let z = subst (λ z. MatchBool z (IsBegunAt n.0 (s + 1)) (first_word n.0 (s + 1) ≡ 0)) c.if-not-is_begun.true n.4 in
    (n.0, n.1, g.met.P.Port.keeps_same c.args.pen.now c.is_begun.new.port m n.0 n.3, n.2, (g.met.P.PackPen.pack_keeps c.args.pen.now c.is_begun.new.port m n.0 n.3, inr z))

pub convert_terms-requires : goal.convert_terms-requires
convert_terms-requires g c =
    let r = c.requires.pen in
    let m = r.0 in
    let s = c.args.segment in
    let no = c.if-segment-segments.false in
    let e = ap (λ (σ : Setting). σ.segments) (c.config.ensures m r.1) in
    let q = c.segments.ensures in
    let b = r.2 in
    let low : s + 1 < m.setting.segments = omega (arith, no) in
    let n = c.is_begun.ensures.told m r.1 low in
    let z = subst (λ z. MatchBool z (IsBegunAt n.0 (s + 1)) (first_word n.0 (s + 1) ≡ 0)) c.if-not-is_begun.false n.4 in
    (n.0, n.1, begins_left n.0 s (g.met.P.PackPen.pack_keeps c.args.pen.now c.is_begun.new.port m n.0 n.3 ∙ r.3) z)

pub put_converted-requires : goal.put_converted-requires
put_converted-requires g c =
    let r = c.requires.pen in
    let m = r.0 in
    let s = c.args.segment in
    let no = c.if-segment-segments.false in
    let e = ap (λ (σ : Setting). σ.segments) (c.config.ensures m r.1) in
    let q = c.segments.ensures in
    let b = r.2 in
    let low : s + 1 < m.setting.segments = omega (arith, no) in
    let n = c.is_begun.ensures.told m r.1 low in
    let z = subst (λ z. MatchBool z (IsBegunAt n.0 (s + 1)) (first_word n.0 (s + 1) ≡ 0)) c.if-not-is_begun.false n.4 in
    let k = c.convert_terms.ensures.written n.0 n.1 (begins_left n.0 s (g.met.P.PackPen.pack_keeps c.args.pen.now c.is_begun.new.port m n.0 n.3 ∙ r.3) z) in
    (k.0, k.1, k.3.1)

pub returns : goal.returns
returns g c m st b h =
    let s = c.args.segment in
    let no = c.if-segment-segments.false in
    let e = ap (λ (σ : Setting). σ.segments) (c.config.ensures m st) in
    let q = c.segments.ensures in
    let low : s + 1 < m.setting.segments = omega (arith, no) in
    let n = c.is_begun.ensures.told m st low in
    let z = subst (λ z. MatchBool z (IsBegunAt n.0 (s + 1)) (first_word n.0 (s + 1) ≡ 0)) c.if-not-is_begun.false n.4 in
    let k = c.convert_terms.ensures.written n.0 n.1 (begins_left n.0 s (g.met.P.PackPen.pack_keeps c.args.pen.now c.is_begun.new.port m n.0 n.3 ∙ h) z) in
    let p = c.put_converted.ensures.written k.0 k.1 k.3.1 in (
      p.0,
      p.1,
      g.met.P.Port.same_on c.args.pen.now c.convert_terms.new.pen c.put_converted.new.pen (g.met.P.Port.same_on c.args.pen.now c.is_begun.new.port c.convert_terms.new.pen
          (g.met.P.Port.keeps_same c.args.pen.now c.is_begun.new.port m n.0 n.3) k.2) p.2,
      later_on m k.0 p.0 (later_on m n.0 k.0 n.2 k.3.0) p.3.0,
      (refl, p.3.1),
    )
