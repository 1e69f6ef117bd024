use Rattle.std.proofs.Common.{refl, sym, subst, ◌∙◌, arith}
use Rattle.eb_lines.proofs.PassingLines.{running_on}
use Rattle.eb_lines.proofs.Runs.{stays}
use Rattle.run_ahead.specs.Ahead.{HasHeld, AreWaiting}
use Rattle.run_ahead.proofs.Waitings.{goes_on, rest_waits}
use Rattle.run_ahead.proofs.ahead.work_all.Goals as goal

pub loop-rest-init : goal.loop-rest-init
loop-rest-init g c = record {
  on = stays (HasHeld g.P.Store.other g.P.Store.holds) c.args.ahead.now c.args.text.now.items;
  running = c.requires.state;
  waits = c.requires.waits;
  held = refl;
  worked = refl;
  number = refl;
}

pub returns-in_err-taken-clause-on : goal.returns-in_err-taken-clause-on
returns-in_err-taken-clause-on g c =
    goes_on (HasHeld g.P.Store.other g.P.Store.holds) c.args.ahead.now c.loop-rest.ahead c.work_some.new.ahead c.args.text.now.items c.loop-rest.text.items c.work_some.new.text.items
    c.loop-rest.invariant.on c.work_some.ensures.on

pub loop-rest-preserved : goal.loop-rest-preserved
loop-rest-preserved g c =
    let old = c.loop-rest.ahead in
    let new = c.work_some.new.ahead in
    let rest = c.loop-rest.rest.now in
    let n = c.in_ok-taken.taken in
    let inv = c.loop-rest.invariant in
    let worked = c.in_ok-taken.ensures.worked in
    let most = c.in_ok-taken.ensures.most in
    record {
      on = goes_on (HasHeld g.P.Store.other g.P.Store.holds) c.args.ahead.now old new c.args.text.now.items c.loop-rest.text.items c.work_some.new.text.items inv.on c.work_some.ensures.on;
      running = running_on (HasHeld g.P.Store.other g.P.Store.holds) old new c.loop-rest.text.items c.work_some.new.text.items inv.running c.work_some.ensures.on;
      waits = subst (λ ts. AreWaiting new ts) (sym c.split_at.ensures.back) (rest_waits g.P.Store.other g.P.Store.holds old new inv.running rest n most inv.waits worked _ _ c.work_some.ensures.on);
      held = worked.0 ∙ inv.held;
      worked = omega (arith, worked.1, inv.worked, most, c.split_at.ensures.back_len);
      number = c.work_some.ensures.number ∙ inv.number;
    }
