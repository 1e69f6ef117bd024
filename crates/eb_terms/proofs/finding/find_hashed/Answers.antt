use Rattle.std.proofs.Common.{◌≡◌, ◌*◌, ◌<◌, ap, refl, sym, ◌∙◌, subst, arith, inl, inr}
use Rattle.std.proofs.lemmas.Bool.{false≢true}
use Rattle.eb_base.specs.Setting.{Setting}
use Rattle.eb_place.specs.Placing.{text_of}
use Rattle.eb_place.proofs.LaterMoments.{later_on, inside_later}
use Rattle.eb_place.proofs.EnteredTerms.{is_entered_later}
use Rattle.eb_terms.specs.Finding.{cells_in, is_filled}
use Rattle.eb_terms.specs.Comparing.{term_at}
use Rattle.eb_terms.proofs.Probing.{home_by_hash, probe_is, probe_low, probe_later, cell_of_later, all_passed_later, passed_more, run_reaches}
use Rattle.eb_terms.proofs.Probing.{not_entered, has_number, loads_none, loads_some, loads_more, loads_end}
use Rattle.eb_terms.proofs.finding.find_hashed.Goals as goal

pub returns-in_default : goal.returns-in_default
returns-in_default g c = record {
  told = λ m st.
      (let s = c.args.segment in
      let t = c.args.term.now in
      let home = home_by_hash t _ _ _ c.requires.hash c.home_of-first.ensures in
      let i = c.loop-step.step in
      let r = c.requires.inside in
      let inside : s < m.setting.segments = subst (λ (σ : Setting). s < σ.segments) (sym (c.config-config.ensures r.0 r.1) ∙ c.config-config.ensures m st) r.2 in
      let k = c.loop-step.invariant.0 m st in
      let set = c.new-places.ensures ∙ c.config-config.ensures m st ∙ k.2.setting in
      let js = g.met.P.Port.lawful c.loop-step.port k.0 k.1 in
      let at = c.cell_behind-cell.ensures ∙ probe_is k.0 c.config-config.result t i c.terms-cells.result c.home_of-first.result
      (c.config-config.ensures m st ∙ k.2.setting) c.terms-cells.ensures home in
      let n = c.in_default.ensures.told.told k.0 k.1 (set, inside_later m k.0 s k.2 inside, subst (λ z. z < cells_in k.0) (sym at) (probe_low k.0 t i js)) in
      let is = g.met.P.Port.lawful c.number_in.new.port n.0 n.1 in
      let later = later_on m k.0 n.0 k.2 n.2 in
      let passed = all_passed_later k.0 n.0 s t i n.2 k.4 in
      let free = ap (is_filled n.0 s) (probe_later k.0 n.0 t i n.2 ∙ sym at) ∙ n.4 in
      let cells : 2 * c.terms-cells.result ≡ cells_in n.0 = ap (λ x. 2 * x) (c.terms-cells.ensures ∙ ap (λ (σ : Setting). σ.terms) (c.config-config.ensures m st ∙ later.setting)) in
      let run = run_reaches n.0 s t i is (inside_later m n.0 s later inside) (omega (arith, c.loop-step-test.true)) passed in (
        n.0,
        n.1,
        later,
        g.met.P.Port.keeps_on c.args.port.now c.loop-step.port c.number_in.new.port m k.0 n.0 k.3 n.3,
        (λ there. not_entered n.0 s t i is (inside_later m n.0 s later inside) passed (inl free) (is_entered_later m n.0 s t later there)),
        loads_none n.0 s t i c.args.steps.now c.number_in.new.steps run (omega (arith, c.in_default.ensures.step, c.loop-step.invariant.1)),
      ));
}

pub returns-then-is_term : goal.returns-then-is_term
returns-then-is_term g c = record {
  told = λ m st.
      (let s = c.args.segment in
      let t = c.args.term.now in
      let home = home_by_hash t _ _ _ c.requires.hash c.home_of-first.ensures in
      let i = c.loop-step.step in
      let r = c.requires.inside in
      let inside : s < m.setting.segments = subst (λ (σ : Setting). s < σ.segments) (sym (c.config-config.ensures r.0 r.1) ∙ c.config-config.ensures m st) r.2 in
      let k = c.loop-step.invariant.0 m st in
      let set = c.new-places.ensures ∙ c.config-config.ensures m st ∙ k.2.setting in
      let js = g.met.P.Port.lawful c.loop-step.port k.0 k.1 in
      let at = c.cell_behind-cell.ensures ∙ probe_is k.0 c.config-config.result t i c.terms-cells.result c.home_of-first.result
      (c.config-config.ensures m st ∙ k.2.setting) c.terms-cells.ensures home in
      let n = c.in-Some.ensures.told.told k.0 k.1 (set, inside_later m k.0 s k.2 inside, subst (λ z. z < cells_in k.0) (sym at) (probe_low k.0 t i js)) in
      let o = c.if-is_term.ensures.told.told n.0 n.1 (set ∙ n.2.setting, inside_later k.0 n.0 s n.2 (inside_later m k.0 s k.2 inside), n.4.0) in
      let is = g.met.P.Port.lawful c.is_term.new.port o.0 o.1 in
      let later = later_on m n.0 o.0 (later_on m k.0 n.0 k.2 n.2) o.2 in
      let passed = all_passed_later k.0 o.0 s t i (later_on k.0 n.0 o.0 n.2 o.2) k.4 in
      let cells : 2 * c.terms-cells.result ≡ cells_in o.0 = ap (λ x. 2 * x) (c.terms-cells.ensures ∙ ap (λ (σ : Setting). σ.terms) (c.config-config.ensures m st ∙ later.setting)) in
      let run = run_reaches o.0 s t i is (inside_later m o.0 s later inside) (omega (arith, c.loop-step-test.true)) passed in
      let loads = loads_more t (text_of (term_at o.0 s c.in-Some.number)) i c.args.steps.now c.loop-step.steps c.loop-step.invariant.1 in (
        o.0,
        o.1,
        later,
        g.met.P.Port.keeps_on c.args.port.now c.number_in.new.port c.is_term.new.port m n.0 o.0 (g.met.P.Port.keeps_on c.args.port.now c.loop-step.port c.number_in.new.port m k.0 n.0 k.3 n.3) o.3,
        has_number o.0 s c.in-Some.number t o.4.0 (o.4.1.0 refl),
        loads_some o.0 s t i c.args.steps.now c.is_term.new.steps run (omega (arith, loads, o.4.2, c.in-Some.ensures.step)),
      ));
}

pub loop-step-preserved : goal.loop-step-preserved
loop-step-preserved g c = (
  λ m st.
      (let s = c.args.segment in
      let t = c.args.term.now in
      let home = home_by_hash t _ _ _ c.requires.hash c.home_of-first.ensures in
      let i = c.loop-step.step in
      let r = c.requires.inside in
      let inside : s < m.setting.segments = subst (λ (σ : Setting). s < σ.segments) (sym (c.config-config.ensures r.0 r.1) ∙ c.config-config.ensures m st) r.2 in
      let k = c.loop-step.invariant.0 m st in
      let set = c.new-places.ensures ∙ c.config-config.ensures m st ∙ k.2.setting in
      let js = g.met.P.Port.lawful c.loop-step.port k.0 k.1 in
      let at = c.cell_behind-cell.ensures ∙ probe_is k.0 c.config-config.result t i c.terms-cells.result c.home_of-first.result
      (c.config-config.ensures m st ∙ k.2.setting) c.terms-cells.ensures home in
      let n = c.in-Some.ensures.told.told k.0 k.1 (set, inside_later m k.0 s k.2 inside, subst (λ z. z < cells_in k.0) (sym at) (probe_low k.0 t i js)) in
      let o = c.if-is_term.ensures.told.told n.0 n.1 (set ∙ n.2.setting, inside_later k.0 n.0 s n.2 (inside_later m k.0 s k.2 inside), n.4.0) in
      let later = later_on k.0 n.0 o.0 n.2 o.2 in (
        o.0,
        o.1,
        later_on m k.0 o.0 k.2 later,
        g.met.P.Port.keeps_on c.args.port.now c.number_in.new.port c.is_term.new.port m n.0 o.0 (g.met.P.Port.keeps_on c.args.port.now c.loop-step.port c.number_in.new.port m k.0 n.0 k.3 n.3) o.3,
        passed_more o.0 s t i c.in-Some.number (all_passed_later k.0 o.0 s t i later k.4) o.4.0
            (cell_of_later n.0 o.0 s c.in-Some.number o.2 n.4.0 ∙ n.4.1 ∙ at ∙ sym (probe_later k.0 o.0 t i later)) (λ e. false≢true (o.4.1.1 e)),
      )),
  (let r = c.requires.inside in
      let s = c.args.segment in
      let t = c.args.term.now in
      let home = home_by_hash t _ _ _ c.requires.hash c.home_of-first.ensures in
      let i = c.loop-step.step in
      let k = c.loop-step.invariant.0 r.0 r.1 in
      let set = c.new-places.ensures ∙ c.config-config.ensures r.0 r.1 ∙ k.2.setting in
      let js = g.met.P.Port.lawful c.loop-step.port k.0 k.1 in
      let at = c.cell_behind-cell.ensures ∙ probe_is k.0 c.config-config.result t i c.terms-cells.result c.home_of-first.result
      (c.config-config.ensures r.0 r.1 ∙ k.2.setting) c.terms-cells.ensures home in
      let n = c.in-Some.ensures.told.told k.0 k.1 (set, inside_later r.0 k.0 s k.2 r.2, subst (λ z. z < cells_in k.0) (sym at) (probe_low k.0 t i js)) in
      let o = c.if-is_term.ensures.told.told n.0 n.1 (set ∙ n.2.setting, inside_later k.0 n.0 s n.2 (inside_later r.0 k.0 s k.2 r.2), n.4.0) in
      omega (arith, loads_more t (text_of (term_at o.0 s c.in-Some.number)) i c.args.steps.now c.loop-step.steps c.loop-step.invariant.1, o.4.2, c.in-Some.ensures.step)),
)

pub returns : goal.returns
returns g c = record {
  told = λ m st.
      (let s = c.args.segment in
      let t = c.args.term.now in
      let home = home_by_hash t _ _ _ c.requires.hash c.home_of-first.ensures in
      let r = c.requires.inside in
      let inside : s < m.setting.segments = subst (λ (σ : Setting). s < σ.segments) (sym (c.config-config.ensures r.0 r.1) ∙ c.config-config.ensures m st) r.2 in
      let k = c.loop-step.invariant.0 m st in
      let set = c.new-places.ensures ∙ c.config-config.ensures m st ∙ k.2.setting in
      let is = g.met.P.Port.lawful c.loop-step.port k.0 k.1 in
      let cells : 2 * c.terms-cells.result ≡ cells_in k.0 = ap (λ x. 2 * x) (c.terms-cells.ensures ∙ ap (λ (σ : Setting). σ.terms) (c.config-config.ensures m st ∙ k.2.setting)) in
      let i = c.loop-step.step in
      let run = run_reaches k.0 s t i is (inside_later m k.0 s k.2 inside) (omega (arith, c.loop-step.auto.step-end)) k.4 in (
        k.0,
        k.1,
        k.2,
        k.3,
        (λ there. not_entered k.0 s t i is (inside_later m k.0 s k.2 inside) k.4 (inr (omega (arith, c.loop-step-test.false))) (is_entered_later m k.0 s t k.2 there)),
        loads_end k.0 s t i c.args.steps.now c.loop-step.steps run c.loop-step.invariant.1,
      ));
}
