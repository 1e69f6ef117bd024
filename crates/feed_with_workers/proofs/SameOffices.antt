-- An office is known by its desk, its clerk and its feed.
use Rattle.std.proofs.Common.{◌≡◌, ℕ}
use Rattle.std.proofs.Props.{props}
use mathlib.Core.HLevel.{is_prop→PathP}
use Rattle.eb_desk.specs.Desk.{Queues}
use Rattle.feed_with_workers.specs.declared.feed_office.FeedOffice.{FeedOffice}

queues_prop : (a b : Queues) → IsProp (a ≡ b)
queues_prop a b = Prim.hlevel props

stops_prop : (m n : ℕ) → IsProp (m ≡ n)
stops_prop m n = Prim.hlevel props

pub same_office : (o n : FeedOffice) → n.desk ≡ o.desk → n.clerk ≡ o.clerk → n.feed ≡ o.feed → n.form ≡ o.form → n ≡ o
same_office o n desk clerk feed form = λ i. record {
  desk = desk i;
  clerk = clerk i;
  feed = feed i;
  form = form i;
  home = is_prop→PathP (λ j. (clerk j).queues ≡ (desk j).now.queues) (λ j. queues_prop (clerk j).queues (desk j).now.queues) n.home o.home i;
  goes_on = is_prop→PathP (λ j. (clerk j).stops ≡ 0) (λ j. stops_prop (clerk j).stops 0) n.goes_on o.goes_on i;
}
