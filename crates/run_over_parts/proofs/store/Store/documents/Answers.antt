use Rattle.run_over_parts.proofs.Placings.{counts_all}
use Rattle.run_over_parts.proofs.store.Store.documents.Goals as goal

pub returns : goal.returns
returns c = λ parts σ docs h few. counts_all c.args.self.now parts σ docs c.accepted.result h few c.accepted.ensures
