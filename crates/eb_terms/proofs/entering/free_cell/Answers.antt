use Rattle.std.proofs.Common.{◌≡◌, ◌*◌, ◌<◌, ap, sym, ◌∙◌, subst, arith}
use Rattle.eb_base.specs.Setting.{Setting}
use Rattle.eb_place.proofs.LaterMoments.{later_on, inside_later}
use Rattle.eb_terms.specs.Finding.{cells_in, is_filled}
use Rattle.eb_terms.proofs.Probing.{probe_is, probe_low, probe_later, all_taken_later, taken_more, next_cell, some_free}
use Rattle.eb_terms.proofs.entering.free_cell.Goals as goal

pub returns-in_default : goal.returns-in_default
returns-in_default g c m st =
    let s = c.args.segment in
    let t = c.args.term.now in
    let i = c.loop-step.step in
    let inside : s < m.setting.segments = subst (λ (σ : Setting). s < σ.segments) (sym (c.config-config.ensures c.requires.0 c.requires.1) ∙ c.config-config.ensures m st) c.requires.2 in
    let k = c.loop-step.invariant m st in
    let set = c.new-places.ensures ∙ c.config-config.ensures m st ∙ k.2.setting in
    let js = g.met.P.Port.lawful c.loop-step.port k.0 k.1 in
    let at = c.cell_behind-cell.ensures
    ∙ probe_is k.0 c.config-config.result t i c.terms-cells.result c.home-first.result (c.config-config.ensures m st ∙ k.2.setting) c.terms-cells.ensures c.home-first.ensures in
    let n = c.in_default.ensures.told.told k.0 k.1 (set, inside_later m k.0 s k.2 inside, subst (λ z. z < cells_in k.0) (sym at) (probe_low k.0 t i js)) in
    let is = g.met.P.Port.lawful c.number_in.new.port n.0 n.1 in
    let later = later_on m k.0 n.0 k.2 n.2 in
    let at' = at ∙ sym (probe_later k.0 n.0 t i n.2) in
    let free = ap (is_filled n.0 s) (sym at') ∙ n.4 in (
      n.0,
      n.1,
      later,
      g.met.P.Port.keeps_on c.args.port.now c.loop-step.port c.number_in.new.port m k.0 n.0 k.3 n.3,
      at' ∙ next_cell n.0 s t i is (inside_later m n.0 s later inside) (all_taken_later k.0 n.0 s t i n.2 k.4) free,
      subst (λ z. z < cells_in n.0) (sym at') (probe_low n.0 t i is),
    )

pub loop-step-preserved : goal.loop-step-preserved
loop-step-preserved g c m st =
    let s = c.args.segment in
    let t = c.args.term.now in
    let i = c.loop-step.step in
    let inside : s < m.setting.segments = subst (λ (σ : Setting). s < σ.segments) (sym (c.config-config.ensures c.requires.0 c.requires.1) ∙ c.config-config.ensures m st) c.requires.2 in
    let k = c.loop-step.invariant m st in
    let set = c.new-places.ensures ∙ c.config-config.ensures m st ∙ k.2.setting in
    let js = g.met.P.Port.lawful c.loop-step.port k.0 k.1 in
    let at = c.cell_behind-cell.ensures
    ∙ probe_is k.0 c.config-config.result t i c.terms-cells.result c.home-first.result (c.config-config.ensures m st ∙ k.2.setting) c.terms-cells.ensures c.home-first.ensures in
    let n = c.in-Some.ensures.told.told k.0 k.1 (set, inside_later m k.0 s k.2 inside, subst (λ z. z < cells_in k.0) (sym at) (probe_low k.0 t i js)) in (
      n.0,
      n.1,
      later_on m k.0 n.0 k.2 n.2,
      g.met.P.Port.keeps_on c.args.port.now c.loop-step.port c.number_in.new.port m k.0 n.0 k.3 n.3,
      taken_more n.0 s t i c.in-Some.field-0 (all_taken_later k.0 n.0 s t i n.2 k.4) n.4.0 (n.4.1 ∙ at ∙ sym (probe_later k.0 n.0 t i n.2)),
    )

pub unreachable-requires : goal.unreachable-requires
unreachable-requires g c =
    let r = c.requires in
    let s = c.args.segment in
    let k = c.loop-step.invariant r.0 r.1 in
    let is = g.met.P.Port.lawful c.loop-step.port k.0 k.1 in
    let cells : 2 * c.terms-cells.result ≡ cells_in k.0 = ap (λ x. 2 * x) (c.terms-cells.ensures ∙ ap (λ (σ : Setting). σ.terms) (c.config-config.ensures r.0 r.1 ∙ k.2.setting)) in
    some_free k.0 s c.args.term.now c.loop-step.step is (inside_later r.0 k.0 s k.2 r.2) (omega (arith, c.loop-step-test.false)) k.4
