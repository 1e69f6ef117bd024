use Rattle.run_with_watches.proofs.Setting.{holding, few_plain}
use Rattle.run_with_watches.proofs.watched.WatchingStore.documents.Goals as goal

pub documents-requires : goal.documents-requires
documents-requires g c = holding g.S.Store.holds c.args.self.now c.requires

pub returns : goal.returns
returns g c = λ rules docs ws h few. c.documents.ensures h.plain docs h.beside h.held (few_plain g.S.Store.holds c.args.self.now rules docs ws h few)
