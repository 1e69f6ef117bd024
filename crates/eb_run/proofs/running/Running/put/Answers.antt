use Rattle.std.proofs.Common.{◌+◌, refl}
use Rattle.eb_run.proofs.Runnings.{goes_quiet, run_held, with_parts}
use Rattle.eb_run.proofs.running.Running.put.Goals as goal

pub returns-clause-ok : goal.returns-clause-ok
returns-clause-ok c = λ l is.
    let old = c.args.self.now in
    let new = with_parts old old.writer old.converter c.put.new.self (old.number + 1) in
    goes_quiet old new l
    (λ a given so_far h. run_held old new a given so_far h refl refl refl refl refl l refl c.args.input refl c.requires.takes is c.in_ok-put.ensures.ok)
