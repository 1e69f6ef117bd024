use Rattle.std.proofs.Common.{arith}
use Rattle.eb_cursor.proofs.Pairs.{goes_nowhere, goes_on, pays_none, pays_on, can_on}
use Rattle.eb_cursor.proofs.pair.Pair.pass_lefts.Goals as goal

pub later-init : goal.later-init
later-init g c = record {
  told = goes_nowhere c.args.self.now g.met.P.Port.keeps_itself;
  costs = pays_none c.args.self.now c.args.steps.now g.met.P.Port.keeps_itself;
  loads = omega arith;
  falls = omega arith;
}

pub pass_left-requires : goal.pass_left-requires
pass_left-requires g c = can_on g.P.Port.stands g.P.Port.keeps c.args.port.now c.later.port c.args.self.now c.later.self c.requires c.later.invariant.told

pub later-preserved : goal.later-preserved
later-preserved g c = record {
  told = goes_on c.args.self.now c.later.self c.pass_left.new.self g.met.P.Port.keeps_on c.later.invariant.told c.pass_left.ensures.told;
  costs = pays_on c.args.self.now c.later.self c.pass_left.new.self c.args.steps.now c.later.steps c.pass_left.new.steps g.met.P.Port.keeps_on c.later.invariant.costs c.pass_left.ensures.costs;
  loads = omega (arith, c.later.invariant.loads, c.pass_left.ensures.loads);
  falls = let less = c.pass_left.ensures.less c.later-test.true in omega (arith, c.later.invariant.falls, less);
}

pub returns : goal.returns
returns g c = record {
  told = goes_on c.args.self.now c.later.self c.pass_left.new.self g.met.P.Port.keeps_on c.later.invariant.told c.pass_left.ensures.told;
  costs = pays_on c.args.self.now c.later.self c.pass_left.new.self c.args.steps.now c.later.steps c.pass_left.new.steps g.met.P.Port.keeps_on c.later.invariant.costs c.pass_left.ensures.costs;
  loads = omega (arith, c.later.invariant.loads, c.pass_left.ensures.loads);
  falls = omega (arith, c.later.invariant.falls, c.pass_left.ensures.falls);
  not_later = c.pass_left.ensures.not_later c.later-test.false;
}
