use Rattle.std.proofs.Common.{◌<◌, arith}
use Rattle.eb_cursor.specs.Loads.{ahead}
use Rattle.eb_cursor.proofs.Pairs.{goes_left, falls_left, pays_left, pays_none}
use Rattle.eb_cursor.proofs.pair.Pair.pass_left.Goals as goal

pub returns-in_default-clause-costs : goal.returns-in_default-clause-costs
returns-in_default-clause-costs g c = pays_none c.args.self.now c.args.steps.now g.met.P.Port.keeps_itself

pub returns-in_default-right-clause-costs : goal.returns-in_default-right-clause-costs
returns-in_default-right-clause-costs g c = pays_none c.args.self.now c.args.steps.now g.met.P.Port.keeps_itself

pub returns-then-left-right-clause-costs : goal.returns-then-left-right-clause-costs
returns-then-left-right-clause-costs g c = pays_none c.args.self.now c.args.steps.now g.met.P.Port.keeps_itself

pub returns-clause-told : goal.returns-clause-told
returns-clause-told g c =
    goes_left c.args.self.now c.next-self.new.self c.next-self.result c.in-Some.left c.in-Some-right.right c.args.steps.now c.next-self.new.steps
    g.met.P.Port.lawful c.in-Some.is c.in-Some-right.is (omega (arith, c.if-left-right.false)) c.next-self.ensures.told

pub returns-clause-costs : goal.returns-clause-costs
returns-clause-costs g c =
    pays_left c.args.self.now c.next-self.new.self c.next-self.result c.args.steps.now c.next-self.new.steps g.met.P.Port.lawful c.next-self.ensures.told

pub returns-clause-loads : goal.returns-clause-loads
returns-clause-loads g c =
    let falls : ahead c.next-self.result < ahead c.args.self.now.left = falls_left g.P.Port.stands g.P.Port.keeps c.args.port.now c.next-self.new.port c.args.self.now c.next-self.new.self
    c.next-self.result c.in-Some.left c.args.steps.now c.next-self.new.steps c.in-Some.is c.requires c.next-self.ensures.told in
    omega (arith, falls, c.next-self.ensures.one)

pub returns-clause-less : goal.returns-clause-less
returns-clause-less g c = λ _.
    let falls : ahead c.next-self.result < ahead c.args.self.now.left = falls_left g.P.Port.stands g.P.Port.keeps c.args.port.now c.next-self.new.port c.args.self.now c.next-self.new.self
    c.next-self.result c.in-Some.left c.args.steps.now c.next-self.new.steps c.in-Some.is c.requires c.next-self.ensures.told in
    omega (arith, falls)

pub returns-clause-falls : goal.returns-clause-falls
returns-clause-falls g c =
    let falls : ahead c.next-self.result < ahead c.args.self.now.left = falls_left g.P.Port.stands g.P.Port.keeps c.args.port.now c.next-self.new.port c.args.self.now c.next-self.new.self
    c.next-self.result c.in-Some.left c.args.steps.now c.next-self.new.steps c.in-Some.is c.requires c.next-self.ensures.told in
    omega (arith, falls)
