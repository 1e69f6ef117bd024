use Rattle.std.proofs.Common.{arith}
use Rattle.eb_cursor.proofs.Pairs.{goes_nowhere, goes_on, pays_none, pays_on, can_on}
use Rattle.eb_cursor.proofs.pair.Pair.pass_apart.Goals as goal

pub apart-init : goal.apart-init
apart-init g c = record {
  told = goes_nowhere c.args.self.now g.met.P.Port.keeps_itself;
  costs = pays_none c.args.self.now c.args.steps.now g.met.P.Port.keeps_itself;
  loads = omega arith;
}

pub pass-requires : goal.pass-requires
pass-requires g c = can_on g.P.Port.stands g.P.Port.keeps c.args.port.now c.apart.port c.args.self.now c.apart.self c.requires c.apart.invariant.told

pub apart-preserved : goal.apart-preserved
apart-preserved g c = record {
  told = goes_on c.args.self.now c.apart.self c.pass.new.self g.met.P.Port.keeps_on c.apart.invariant.told c.pass.ensures.told;
  costs = pays_on c.args.self.now c.apart.self c.pass.new.self c.args.steps.now c.apart.steps c.pass.new.steps g.met.P.Port.keeps_on c.apart.invariant.costs c.pass.ensures.costs;
  loads = omega (arith, c.apart.invariant.loads, c.pass.ensures.loads);
}

pub returns : goal.returns
returns g c = record {
  told = goes_on c.args.self.now c.apart.self c.pass.new.self g.met.P.Port.keeps_on c.apart.invariant.told c.pass.ensures.told;
  costs = pays_on c.args.self.now c.apart.self c.pass.new.self c.args.steps.now c.apart.steps c.pass.new.steps g.met.P.Port.keeps_on c.apart.invariant.costs c.pass.ensures.costs;
  loads = omega (arith, c.apart.invariant.loads, c.pass.ensures.loads);
  together = c.pass.ensures.together c.apart-test.false;
}
