use Rattle.eb_place.proofs.Prefixes.{prefix_self}
use Rattle.feed_shared.proofs.Behind.{closed_front}
use Rattle.feed_shared.specs.Turns.{FeedToken}
use Rattle.std.proofs.Common.{ap}
use Rattle.feed_shared.proofs.follower.Follower.hear.Goals as goal

pub returns-in-None-clause-closed : goal.returns-in-None-clause-closed
returns-in-None-clause-closed c =
    rw (← ap (λ (t : FeedToken). t.log) c.self.view_is) (closed_front c.self.inside.reader.docs c.self.inside.reader.log c.self.inside.reader.log (prefix_self c.self.inside.reader.log))
