use Rattle.run_with_workers.proofs.IndexOffices.{staffed_of, keeps_all}
use Rattle.run_with_workers.proofs.index_office.IndexOfficeOffice.wait.Goals as goal

pub wait_for-requires : goal.wait_for-requires
wait_for-requires g c = record { staffed = staffed_of c.args.self.now c.requires }

pub returns-clause-keeps : goal.returns-clause-keeps
returns-clause-keeps g c = keeps_all c.args.self.now c.wait_for.new.self c.wait_for.ensures.keeps c.wait_for.ensures.writer

pub returns-clause-same : goal.returns-clause-same
returns-clause-same g c = c.wait_for.ensures.put
