use Rattle.run_images.proofs.Savings.{saving_ends}
use Rattle.run_images.proofs.saving.SavingLineProgram.finish.Goals as goal

pub returns-clause-ok : goal.returns-clause-ok
returns-clause-ok g c = λ σ given so_far h. saving_ends c.args.self.now _ _ σ given so_far c.in_ok-push.ensures.items h
