use Rattle.std.proofs.Common.{refl}
use Rattle.run_store.proofs.Taking.{takes_blank}
use Rattle.run_store.proofs.answering.Answering.pass.Goals as goal

pub returns : goal.returns
returns g c = takes_blank g.S.Store.other g.S.Store.holds c.args.self.now _ refl refl refl c.requires.number refl refl
