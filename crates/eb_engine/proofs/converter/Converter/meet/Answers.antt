use Rattle.std.proofs.Common.{List, ap, subst}
use mathlib.Core.List.{IsPrefix}
use Rattle.eb_base.specs.Document.{Doc}
use Rattle.eb_engine.specs.Tokens.{known_to}
use Rattle.eb_engine.proofs.Converting.{known_at, knows_on}
use Rattle.eb_engine.proofs.converter.Converter.meet.Goals as goal

pub returns-clause-all : goal.returns-clause-all
returns-clause-all c =
    let n = c.meet.new.self.moment in
    subst (λ (docs : List Doc). IsPrefix docs (known_at n)) (ap known_to c.self.view_is) (knows_on c.self.inside.seat.moment n c.meet.ensures.least.first)
