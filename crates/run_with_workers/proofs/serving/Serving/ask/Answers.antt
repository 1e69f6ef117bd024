use Rattle.std.proofs.Common.{ℕ, ◌+◌, refl, subst, arith}
use Rattle.eb_base.specs.Query.{Tree, tree}
use Rattle.eb_query.specs.declared.ask.Ask.TheVariants.{Newest}
use Rattle.eb_lines.specs.Reading.{query}
use Rattle.run_with_workers.specs.declared.waiting.Waiting.TheVariants as waits
use Rattle.run_with_workers.specs.Offices.{WasAsked}
use Rattle.run_with_workers.proofs.Askings.{grown_one, was_asked}
use Rattle.run_with_workers.proofs.Servings.{holding_of, few_queries, held_none, served_line}
use Rattle.run_with_workers.proofs.serving.Serving.ask.Goals as goal

pub documents-told-requires : goal.documents-told-requires
documents-told-requires g c = holding_of g.O.Office.holds g.O.Office.asked c.args.self.now c.requires.running

pub ask-requires-clause-state : goal.ask-requires-clause-state
ask-requires-clause-state g c = holding_of g.O.Office.holds g.O.Office.asked c.args.self.now c.requires.running

pub ask-requires-clause-number : goal.ask-requires-clause-number
ask-requires-clause-number g c = c.requires.running.3.is_above

pub overflow_add-self-3 : goal.overflow_add-self-3
overflow_add-self-3 g c =
    let r = c.requires.running in
    let few = few_queries g.O.Office.holds g.O.Office.asked c.args.self.now r.0 r.1 r.2 r.3 in
    omega (arith, few, c.requires.number)

pub returns-clause-ok : goal.returns-clause-ok
returns-clause-ok g c =
    let H = g.O.Office.holds in
    let B = g.O.Office.asked in
    let k = c.args.k in
    let q = tree c.args.query in
    let told = c.documents-told.result in
    let asks = c.in_ok-ask.ensures.asked in
    let grown = grown_one _ _ _ _ asks.1 refl c.requires.running.3.is_above in
    let was : WasAsked (B c.ask.new.self) (c.args.self.now.number + 1) q k =
    subst (λ (x : Tree × ℕ). WasAsked (B c.ask.new.self) (c.args.self.now.number + 1) x.0 x.1)
    (λ i. (c.in_ok-frame.ensures.query i, c.in_ok-frame.ensures.k i)) (was_asked _ _ _ c.in_ok-frame.frame asks) in
    served_line H B c.args.self.now _ (query (Newest k) q) (waits.Asked told) refl refl c.requires.number grown c.push.ensures
    (λ rules docs office few start. (
      held_none H rules docs (c.in_ok-ask.ensures.keeps rules docs tt office),
      (q, k, refl, c.documents-told.ensures rules docs tt office few, was),
      refl,
      omega arith,
    ))
