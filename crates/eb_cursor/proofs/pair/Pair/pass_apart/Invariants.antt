use Rattle.std.proofs.Common.{◌+◌, ◌*◌, ◌≤◌}
use Rattle.eb_cursor.specs.Pairs.{GoesPast, PaysPair, both_ahead}
use Rattle.eb_cursor.proofs.pair.Pair.pass_apart.Given as goal

abbrev pub invariant-apart : goal.invariant-apart
invariant-apart g l = record {
  told : GoesPast g.P.Port.stands g.P.Port.keeps l.initial.port l.port l.initial.self l.self;
  costs : PaysPair g.P.Port.stands g.P.Port.keeps l.initial.port l.port l.initial.self l.self l.initial.steps l.steps;
  loads : l.steps + 4 * both_ahead l.self ≤ l.initial.steps + 4 * both_ahead l.initial.self;
}

abbrev pub decreases-apart : goal.decreases-apart
decreases-apart g l = both_ahead l.self
