use Rattle.std.specs.Prelude.{Contains}
use Rattle.std.proofs.Common.{◌≡◌, ℕ, take, ap, ap₂, sym, subst, ◌∙◌}
use Rattle.eb_base.specs.Match.{answer}
use Rattle.eb_base.specs.Query.{Tree}
use Rattle.eb_cursor.specs.Frames.{query_of, k_of}
use Rattle.eb_desk.specs.Asks.{asks_of}
use Rattle.eb_feed.specs.Generations.{kept}
use Rattle.feed_serve.specs.Jobs.{answer_pair, answering}
use Rattle.run_with_workers.specs.declared.office.Settled.{Settled}
use Rattle.feed_with_workers.specs.declared.feed_office.FeedOffice.{FeedOffice}
use Rattle.feed_with_workers.specs.Offices.{docs_of}
use Rattle.feed_with_workers.proofs.FeedOffices.{staffed_of, keeps_same, settles}
use Rattle.feed_with_workers.proofs.feed_office.FeedOfficeOffice.settle.Goals as goal

pub settle_front-seen-requires-clause-staffed : goal.settle_front-seen-requires-clause-staffed
settle_front-seen-requires-clause-staffed g c = staffed_of c.args.self.now c.requires.state

pub returns-clause-keeps : goal.returns-clause-keeps
returns-clause-keeps g c = keeps_same c.args.self.now _ c.settle_front-seen.ensures.same

pub returns-clause-same : goal.returns-clause-same
returns-clause-same g c = ap (λ (o : FeedOffice). o.clerk.put) c.settle_front-seen.ensures.same

pub returns-clause-answers : goal.returns-clause-answers
returns-clause-answers g c =
    let a = c.args.answer in
    let e = c.settle_front-seen.ensures in
    let put = subst (λ (o : FeedOffice). Contains o.clerk.put (answer_pair a)) (sym e.same) c.requires.made.put in
    let f = c.finish-frame.ensures.frame in
    let query : query_of (answering a) ≡ query_of c.settle_front-seen.new.frame = sym (e.query ∙ ap query_of f) in
    let k : k_of (answering a) ≡ k_of c.settle_front-seen.new.frame = sym (e.k ∙ ap k_of f) in (
      (answer_pair a).told,
      subst (Contains c.settle_front-seen.new.self.clerk.put)
          (λ i. record { number = sym c.number-number.ensures i; told = (answer_pair a).told; asks = asks_of (query i) (k i) }) put,
    )

pub returns-clause-settled : goal.returns-clause-settled
returns-clause-settled g c = λ rules docs ws h few.
    let o = c.args.self.now in
    let e = c.settle_front-seen.ensures in
    let s : Settled = record { number = c.number-number.result; seen = c.settle_front-seen.result; frame = c.settle_front-seen.new.frame } in
    settles o s e.within (λ short. e.ids short ∙ ap₂ (λ (q : Tree) (k : ℕ). answer q k (kept o.feed.setting o.feed.keep (take s.seen (docs_of o)))) (sym e.query) (sym e.k)) rules docs ws
    (keeps_same c.settle_front-seen.new.self o (sym e.same) rules docs ws h) few
