use Rattle.std.proofs.Common.{refl}
use Rattle.feed_with_workers.specs.Offices.{docs_of}
use Rattle.feed_with_workers.proofs.Fronts.{taken_is}
use Rattle.feed_with_workers.proofs.SameOffices.{same_office}
use Rattle.feed_with_workers.proofs.FeedOffices.{keeps_added}
use Rattle.feed_with_workers.proofs.feed_office.FeedOffice.add.Goals as goal

pub returns-in-Ok-clause-keeps : goal.returns-in-Ok-clause-keeps
returns-in-Ok-clause-keeps g c =
    (keeps_added c.args.self.now _ c.args.document.now c.requires.staffed refl refl refl c.add.ensures.setting (c.in-Ok.ensures.history (docs_of c.args.self.now) c.requires.staffed.taken)).0

pub returns-in-Ok-clause-placed : goal.returns-in-Ok-clause-placed
returns-in-Ok-clause-placed g c = taken_is c.add.new.self _ (c.in-Ok.ensures.history (docs_of c.args.self.now) c.requires.staffed.taken)

pub returns-in-Err-clause-err : goal.returns-in-Err-clause-err
returns-in-Err-clause-err g c = same_office c.args.self.now _ refl refl c.in-Err.ensures.no_memory.1 refl
