use Rattle.std.proofs.Common.{refl}
use Rattle.eb_base.specs.Query.{tree}
use Rattle.run_with_watches.proofs.Setting.{holding, answers, on_ok, on_err, same_store}
use Rattle.run_with_watches.proofs.watched.WatchingStore.answer.Goals as goal

pub answer-requires-clause-state : goal.answer-requires-clause-state
answer-requires-clause-state g c = holding g.S.Store.holds c.args.self.now c.requires.state

pub returns-clause-ok : goal.returns-clause-ok
returns-clause-ok g c =
    on_ok c.answer.result (answers g.S.Store.holds c.args.self.now _ refl c.args.number c.args.ask (tree c.args.query) c.args.text.now.items c.answer.new.text.items) c.answer.ensures.ok

pub returns-clause-err : goal.returns-clause-err
returns-clause-err g c = on_err c.answer.result (same_store c.args.self.now _ c.args.text.now.items c.answer.new.text.items refl) c.answer.ensures.err
