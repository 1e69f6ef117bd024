use Rattle.run_with_watches.proofs.Setting.{holding, closes}
use Rattle.run_with_watches.proofs.watched.WatchingStore.close.Goals as goal

pub close-requires : goal.close-requires
close-requires g c = holding g.S.Store.holds c.args.self.now c.requires

pub returns : goal.returns
returns g c = closes g.S.Store.holds c.args.self.now c.close.result c.close.ensures
