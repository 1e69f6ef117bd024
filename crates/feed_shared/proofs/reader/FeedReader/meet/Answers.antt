use Rattle.std.proofs.Common.{ap, refl}
use mathlib.Core.List.{IsPrefix}
use Rattle.eb_place.proofs.Prefixes.{prefix_self}
use Rattle.feed_shared.specs.Turns.{FeedToken, newest_docs}
use Rattle.feed_shared.proofs.Behind.{closed_front}
use Rattle.feed_shared.proofs.reader.FeedReader.meet.Goals as goal

pub returns-then-not-is_front_of-clause-closed : goal.returns-then-not-is_front_of-clause-closed
returns-then-not-is_front_of-clause-closed c = closed_front c.args.self.now.docs c.args.self.now.log c.args.self.now.log (prefix_self c.args.self.now.log)

pub returns-clause-closed : goal.returns-clause-closed
returns-clause-closed c =
    let pre : IsPrefix c.self.inside.trail.log c.other.inside.trail.log = c.if-not-is_front_of.ensures.front refl in
    let log = ap (λ (t : FeedToken). t.log) c.other-2.view_is in
    let same = c.pass_on-met.ensures.log in
    closed_front (newest_docs c.other-2.inside.pieces.items) c.args.self.now.log c.other-2.inside.trail.log
    (rw (log, same, ← ap (λ (t : FeedToken). t.log) c.self.view_is) (rw (← ap (λ (t : FeedToken). t.log) c.other.view_is) pre))
