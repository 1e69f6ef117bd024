use Rattle.crossbeam_queue.specs.Passes.{view}
use Rattle.eb_desk.specs.Desk.{nowhere}
use Rattle.eb_desk.specs.Steps.{home_of_view}
use Rattle.eb_desk.proofs.clerk.Clerk.redeem.Given as goal

abbrev pub ghosts-take_permit : goal.ghosts-take_permit
ghosts-take_permit g a = record { home = home_of_view nowhere (view a.pass.now) }
