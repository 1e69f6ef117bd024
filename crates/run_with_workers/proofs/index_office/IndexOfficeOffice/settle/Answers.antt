use Rattle.std.proofs.Common.{ℕ, List, ap, sym, subst}
use Rattle.std.specs.Prelude.{Contains}
use Rattle.eb_desk.specs.declared.rule.Pair.{Pair}
use Rattle.eb_serve.specs.Jobs.{answer_pair, pair}
use Rattle.eb_desk.specs.Desk.{ClerkBook}
use Rattle.run_with_workers.specs.declared.office.Settled.{Settled}
use Rattle.run_with_workers.proofs.IndexOffices.{staffed_of, keeps_all, settles}
use Rattle.run_with_workers.proofs.index_office.IndexOfficeOffice.settle.Goals as goal

pub meet-requires-clause-staffed : goal.meet-requires-clause-staffed
meet-requires-clause-staffed g c = staffed_of c.args.self.now c.requires.state

pub returns-clause-keeps : goal.returns-clause-keeps
returns-clause-keeps g c = keeps_all c.args.self.now c.meet.new.self c.meet.ensures.keeps c.meet.ensures.writer

pub returns-clause-same : goal.returns-clause-same
returns-clause-same g c = (ap (λ (k : ClerkBook (List ℕ)). k.put) c.meet.ensures.clerk)

pub returns-clause-answers : goal.returns-clause-answers
returns-clause-answers g c =
    let a = c.args.answer in
    let put = subst (λ (ps : List Pair). Contains ps (answer_pair a)) (sym (ap (λ (k : ClerkBook (List ℕ)). k.put) c.meet.ensures.clerk)) c.requires.made.put in (
      (answer_pair a).told,
      subst (Contains c.meet.new.self.clerk.put)
          (λ i. pair (sym c.number-number.ensures i) (answer_pair a).told (sym c.finish-frame.ensures.frame i)) put,
    )

pub returns-clause-settled : goal.returns-clause-settled
returns-clause-settled g c =
    let s : Settled = record { number = c.number-number.result; seen = c.seen-seen.result; frame = c.finish-frame.result.0 } in
    settles c.meet.new.self s c.finish-frame.result.1.docs c.seen-seen.ensures c.meet.ensures.known c.finish-frame.ensures.ids
