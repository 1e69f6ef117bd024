use Rattle.std.proofs.Common.{ap, sym}
use Rattle.run_store.specs.Rules.{Rules}
use Rattle.feed_with_workers.proofs.feed_office.FeedOfficeOffice.form.Goals as goal

pub returns : goal.returns
returns c = λ rules docs ws h. sym (ap (λ (r : Rules (Unit {0})). r.form) h.by_rules)
