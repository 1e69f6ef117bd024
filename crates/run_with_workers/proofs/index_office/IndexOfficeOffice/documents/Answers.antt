use Rattle.std.proofs.Common.{ap, ◌∙◌, length}
use Rattle.run_with_workers.proofs.index_office.IndexOfficeOffice.documents.Goals as goal

pub returns : goal.returns
returns c = λ rules docs ws h few. c.accepted.ensures ∙ ap length h.documents
