use Rattle.std.proofs.Common.{◌+◌, refl}
use Rattle.eb_run.proofs.Runnings.{goes_quiet, run_blank, with_parts}
use Rattle.eb_run.proofs.running.Running.pass.Goals as goal

pub returns : goal.returns
returns c = λ l is.
    let old = c.args.self.now in
    let new = with_parts old old.writer old.converter old.rounds (old.number + 1) in
    goes_quiet old new l (λ a given so_far h. run_blank old new a given so_far h refl refl refl refl refl l refl refl is refl)
