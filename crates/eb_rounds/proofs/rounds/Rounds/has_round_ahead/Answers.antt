use Rattle.std.proofs.Common.{length, ap, arith}
use Rattle.std.proofs.lemmas.Bool.Decides.{nat_tests}
use Rattle.eb_rounds.specs.Standing.{Standing}
use Rattle.eb_rounds.proofs.Keeping.{held_long}
use Rattle.eb_rounds.proofs.rounds.Rounds.has_round_ahead.Goals as goal

pub returns : goal.returns
returns c =
    let long = held_long c.self.inside.ahead.first.items c.self.inside.ahead.last.items in
    let same = ap (λ (s : Standing). length s.ahead) c.self.view_is in
    grind (arith, nat_tests)
