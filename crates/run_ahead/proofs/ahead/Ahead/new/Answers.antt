use Rattle.std.proofs.Common.{refl}
use Rattle.run_ahead.proofs.Waitings.{held_none}
use Rattle.run_ahead.proofs.ahead.Ahead.new.Goals as goal

pub returns : goal.returns
returns g c = λ rules h. held_none g.S.Store.other g.S.Store.holds _ c.new.ensures refl refl rules h
