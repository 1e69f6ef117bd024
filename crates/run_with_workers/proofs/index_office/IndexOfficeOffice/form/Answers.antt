use Rattle.std.proofs.Common.{ap, sym}
use Rattle.run_store.specs.Rules.{Rules}
use Rattle.run_with_workers.proofs.index_office.IndexOfficeOffice.form.Goals as goal

pub returns : goal.returns
returns c = λ rules docs ws h. sym (ap (λ (r : Rules (Unit {0})). r.form) h.by_rules)
