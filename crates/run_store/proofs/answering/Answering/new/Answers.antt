use Rattle.std.proofs.Common.{refl}
use Rattle.run_store.proofs.Taking.{answered_none}
use Rattle.run_store.proofs.answering.Answering.new.Goals as goal

pub returns : goal.returns
returns g c = λ rules how h. answered_none g.S.Store.other g.S.Store.holds _ rules how h refl refl refl
