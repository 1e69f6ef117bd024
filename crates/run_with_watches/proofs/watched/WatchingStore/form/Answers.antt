use Rattle.std.proofs.Common.{List, sym, ap, ◌∙◌}
use Rattle.run_store.specs.Rules.{Rules}
use Rattle.eb_watch.specs.Watches.{Watched}
use Rattle.run_with_watches.proofs.Setting.{holding}
use Rattle.run_with_watches.proofs.watched.WatchingStore.form.Goals as goal

pub form-requires : goal.form-requires
form-requires g c = holding g.S.Store.holds c.args.self.now c.requires

pub returns : goal.returns
returns g c = λ rules docs ws h. c.form.ensures h.plain docs h.beside h.held ∙ sym (ap (λ (r : Rules (List Watched)). r.form) h.by_rules)
