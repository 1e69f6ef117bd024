use Rattle.run_with_workers.proofs.IndexOffices.{staffed_of, keeps_all}
use Rattle.run_with_workers.proofs.index_office.IndexOfficeOffice.ask.Goals as goal

pub put-requires-clause-staffed : goal.put-requires-clause-staffed
put-requires-clause-staffed g c = staffed_of c.args.self.now c.requires.state

pub returns-clause-keeps : goal.returns-clause-keeps
returns-clause-keeps g c = keeps_all c.args.self.now c.put.new.self c.put.ensures.keeps c.put.ensures.writer
