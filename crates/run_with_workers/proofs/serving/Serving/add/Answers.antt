use Rattle.std.proofs.Common.{None, Some, refl, subst, arith}
use Rattle.run_store.specs.Stores.{Places}
use Rattle.run_with_workers.specs.declared.waiting.Waiting.TheVariants as waits
use Rattle.run_with_workers.proofs.Askings.{grown_none}
use Rattle.run_with_workers.proofs.Servings.{holding_of, few_refused, served_document}
use Rattle.run_with_workers.proofs.serving.Serving.add.Goals as goal

pub place-requires : goal.place-requires
place-requires g c = holding_of g.O.Office.holds g.O.Office.asked c.args.self.now c.requires.running

pub returns-in-None-clause-ok : goal.returns-in-None-clause-ok
returns-in-None-clause-ok g c =
    let H = g.O.Office.holds in
    let B = g.O.Office.asked in
    let d = c.args.document.now in
    let placed = subst (Places H c.args.self.now.office c.place.new.self d) c.in-None.is c.in_ok-place.ensures.placed in
    served_document H B c.args.self.now _ d None waits.Nothing refl refl c.requires.number
    (grown_none _ _ _ c.in_ok-place.ensures.same c.requires.running.3.is_above) c.push.ensures placed
    (λ rules docs. record { asks = refl; fails = refl }) (omega arith) (omega arith)

pub returns-in-Some-clause-ok : goal.returns-in-Some-clause-ok
returns-in-Some-clause-ok g c =
    let H = g.O.Office.holds in
    let B = g.O.Office.asked in
    let d = c.args.document.now in
    let x = c.in-Some.refusal in
    let placed = subst (Places H c.args.self.now.office c.place.new.self d) c.in-Some.is c.in_ok-place.ensures.placed in
    served_document H B c.args.self.now _ d (Some x) (waits.Refused x) refl refl c.requires.number
    (grown_none _ _ _ c.in_ok-place.ensures.same c.requires.running.3.is_above) c.push-in-Some.ensures
    placed (λ rules docs. refl) (omega arith) refl

pub overflow_add-self-in-Some-2 : goal.overflow_add-self-in-Some-2
overflow_add-self-in-Some-2 g c =
    let r = c.requires.running in
    let few = few_refused g.O.Office.holds g.O.Office.asked c.args.self.now r.0 r.1 r.2 r.3 in
    omega (arith, few, c.requires.number)
