use Rattle.std.proofs.Common.{arith}
use Rattle.eb_cursor.proofs.Terms.{none_found, front_can, second_can, front_found, two_found}
use Rattle.eb_cursor.proofs.phrase.terms_below.Goals as goal

pub returns-then-end-eq0-clause-found : goal.returns-then-end-eq0-clause-found
returns-then-end-eq0-clause-found g c = none_found c.args.cursors.now 0 c.args.end g.met.P.Port.keeps_itself c.if-end-eq0.true

pub leaf_below-found-requires : goal.leaf_below-found-requires
leaf_below-found-requires g c = front_can g.P.Port.stands c.args.port.now c.args.cursors.now _ c.args.end c.if-cursors-ne2.false c.requires.ready

pub returns-then-found-eq0-clause-found : goal.returns-then-found-eq0-clause-found
returns-then-found-eq0-clause-found g c = front_found c.args.cursors.now _ c.leaf_below-found.new.cursor c.args.end c.leaf_below-found.result
    g.met.P.Port.lawful g.met.P.Port.keeps_itself g.met.P.Port.keeps_on c.if-cursors-ne2.false c.leaf_below-found.ensures.found c.if-found-eq0.true

pub overflow_add-found : goal.overflow_add-found
overflow_add-found g c = let falls = (second_can c.args.cursors.now _ c.leaf_below-found.new.cursor c.args.end c.leaf_below-found.result
    g.met.P.Port.lawful c.if-cursors-ne2.false c.requires.ready c.leaf_below-found.ensures.found).0 in
    omega (arith, falls, c.requires.small)

pub leaf_below-requires : goal.leaf_below-requires
leaf_below-requires g c = (second_can c.args.cursors.now _ c.leaf_below-found.new.cursor c.args.end c.leaf_below-found.result
    g.met.P.Port.lawful c.if-cursors-ne2.false c.requires.ready c.leaf_below-found.ensures.found).1

pub returns-clause-found : goal.returns-clause-found
returns-clause-found g c = two_found c.args.cursors.now _ c.leaf_below-found.new.cursor c.leaf_below.new.cursor c.args.end c.leaf_below-found.result
    c.leaf_below.result c.saturating_sub.result g.met.P.Port.lawful g.met.P.Port.keeps_itself g.met.P.Port.keeps_on c.if-cursors-ne2.false
    c.leaf_below-found.ensures.found c.leaf_below.ensures.found c.saturating_sub.ensures
