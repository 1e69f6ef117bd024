use Rattle.std.proofs.Common.{refl, arith}
use Rattle.run_store.proofs.Taking.{holding_of, takes_query, few_queries}
use Rattle.run_store.proofs.answering.Answering.answer.Goals as goal

pub answer-requires-clause-state : goal.answer-requires-clause-state
answer-requires-clause-state g c = holding_of g.S.Store.other g.S.Store.holds c.args.self.now c.requires.state

pub overflow_add-self : goal.overflow_add-self
overflow_add-self g c = let r = c.requires.state in let few = few_queries g.S.Store.other g.S.Store.holds c.args.self.now r.0 r.1 r.2 r.3 in omega (arith, few, c.requires.number)

pub returns-clause-ok : goal.returns-clause-ok
returns-clause-ok g c = takes_query g.S.Store.other g.S.Store.holds c.args.self.now _ refl _ _ _ _ c.in_ok-answer.ensures.ok refl c.requires.number refl refl
