use Rattle.std.proofs.Common.{◌≡◌, ◌<◌, ◌∙◌, ap, subst, arith}
use Rattle.eb_base.specs.Setting.{Setting}
use Rattle.eb_place.proofs.ConverterWords.{later_converted}
use Rattle.eb_trials.specs.Recorded.{IsRecord}
use Rattle.eb_trials.proofs.tests.packing.open.Goals as goal
use Rattle.eb_terms.proofs.Probing.{term_of}

pub find-requires : goal.find-requires
find-requires g c =
    let r = c.requires in
    let h = r.1 in
    let e = ap (λ (σ : Setting). σ.segments) (c.config.ensures r.0 h) in
    (r.0, h, omega (arith, c.if-segments-eq0.false, c.segments.ensures, e))

pub open-requires : goal.open-requires
open-requires g c =
    let r = c.requires in
    let h = r.1 in
    let w = c.in-Some.ensures.told r.0 h in
    let same : c.config.result ≡ w.0.setting = c.config.ensures r.0 h ∙ w.2.setting in
    let inside : 0 < w.0.setting.segments = omega (arith, ap (λ (σ : Setting). σ.segments) same) in
    let converted : 0 < r.0.conversions.converted = omega (arith, h.converted) in
    (w.0, c.args.term.now, w.1, later_converted r.0 w.0 0 w.2 converted, term_of w.0 0 c.args.term.now c.in-Some.number inside w.4)

pub returns : goal.returns
returns g c =
    let r = c.requires in
    let h = r.1 in
    let w = c.in-Some.ensures.told r.0 h in
    let setting : c.config.result ≡ w.0.setting = c.config.ensures r.0 h ∙ w.2.setting in
    let inside : 0 < w.0.setting.segments = omega (arith, ap (λ (σ : Setting). σ.segments) setting) in
    let converted : 0 < r.0.conversions.converted = omega (arith, h.converted) in
    let n = (c.open.ensures.told c.args.term.now).told w.0 w.1 (later_converted r.0 w.0 0 w.2 converted, term_of w.0 0 c.args.term.now c.in-Some.number inside w.4) in
    let same : c.open.new.port ≡ c.args.pen.now = n.3.0 ∙ w.3.0 in
    record { list = (n.0, 0, c.args.term.now, _, _, subst (λ p. IsRecord p n.0) same n.1, n.4); same = same }
