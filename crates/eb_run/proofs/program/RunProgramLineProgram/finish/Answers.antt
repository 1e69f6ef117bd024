use Rattle.eb_run.proofs.Runs.{run_finishes}
use Rattle.eb_run.proofs.program.RunProgramLineProgram.finish.Goals as goal

pub returns-clause-ok : goal.returns-clause-ok
returns-clause-ok g c = λ a given so_far h. run_finishes _ c.args.self.now c.args.self.now.running _ _ _ _ _ _ _ a given so_far c.in_ok-put_end.ensures.ok c.counts-counts.ensures
    c.finish-segments.ensures.segments c.finish-segments.ensures.converted c.requires.settled h.1
