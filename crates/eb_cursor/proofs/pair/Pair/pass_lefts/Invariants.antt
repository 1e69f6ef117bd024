use Rattle.std.proofs.Common.{◌+◌, ◌*◌, ◌≤◌}
use Rattle.eb_cursor.specs.Pairs.{GoesPast, PaysPair, both_ahead}
use Rattle.eb_cursor.proofs.pair.Pair.pass_lefts.Given as goal

abbrev pub invariant-later : goal.invariant-later
invariant-later g l = record {
  told : GoesPast g.P.Port.stands g.P.Port.keeps l.initial.port l.port l.initial.self l.self;
  costs : PaysPair g.P.Port.stands g.P.Port.keeps l.initial.port l.port l.initial.self l.self l.initial.steps l.steps;
  loads : l.steps + 4 * both_ahead l.self ≤ l.initial.steps + 4 * both_ahead l.initial.self;
  falls : both_ahead l.self ≤ both_ahead l.initial.self;
}

abbrev pub decreases-later : goal.decreases-later
decreases-later g l = both_ahead l.self
