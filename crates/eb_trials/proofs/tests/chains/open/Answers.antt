use Rattle.std.proofs.Common.{◌≡◌, ◌<◌, ◌∙◌, arith, ap}
use Rattle.eb_base.specs.Setting.{Setting}
use Rattle.eb_trials.proofs.tests.chains.open.Goals as goal
use Rattle.eb_terms.proofs.Probing.{term_of}

pub open-requires : goal.open-requires
open-requires g c =
    let r = c.requires in
    let w = c.in-Some.ensures.told r.0 r.1 in
    let same : c.config.result ≡ w.0.setting = c.config.ensures r.0 r.1 ∙ w.2.setting in
    let inside : 0 < w.0.setting.segments = omega (arith, ap (λ (σ : Setting). σ.segments) same) in
    (w.0, c.args.term.now, w.1, term_of w.0 0 c.args.term.now c.in-Some.number inside w.4)

pub returns : goal.returns
returns g c =
    let r = c.requires in
    let w = c.in-Some.ensures.told r.0 r.1 in
    let same : c.config.result ≡ w.0.setting = c.config.ensures r.0 r.1 ∙ w.2.setting in
    let inside : 0 < w.0.setting.segments = omega (arith, ap (λ (σ : Setting). σ.segments) same) in
    let n = (c.open.ensures.told c.args.term.now).told w.0 w.1 (term_of w.0 0 c.args.term.now c.in-Some.number inside w.4) in
    (n.0, 0, c.args.term.now, _, _, n.1, n.4)
