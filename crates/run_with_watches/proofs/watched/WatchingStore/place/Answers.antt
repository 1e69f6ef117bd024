use Rattle.std.proofs.Common.{refl}
use Rattle.run_with_watches.proofs.Setting.{holding, places}
use Rattle.run_with_watches.proofs.watched.WatchingStore.place.Goals as goal

pub place-requires : goal.place-requires
place-requires g c = holding g.S.Store.holds c.args.self.now c.requires

pub returns : goal.returns
returns g c = places g.S.Store.holds c.args.self.now _ refl c.args.document.now c.place.result c.place.ensures
