use Rattle.run_with_workers.proofs.IndexOffices.{staffed_of, keeps_all}
use Rattle.run_with_workers.proofs.index_office.IndexOfficeOffice.take.Goals as goal

pub take_there-requires : goal.take_there-requires
take_there-requires c = record { staffed = staffed_of c.args.self.now c.requires }

pub returns-clause-keeps : goal.returns-clause-keeps
returns-clause-keeps c = keeps_all c.args.self.now c.take_there.new.self c.take_there.ensures.keeps c.take_there.ensures.writer

pub returns-clause-same : goal.returns-clause-same
returns-clause-same c = c.take_there.ensures.put
