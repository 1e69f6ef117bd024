use Rattle.std.proofs.Common.{List, ap, subst, arith}
use mathlib.Core.List.{IsPrefix}
use Rattle.eb_base.specs.Document.{Doc}
use Rattle.eb_engine.specs.Tokens.{HistoryToken, first_of}
use Rattle.eb_engine.proofs.Knows.{knows_more}
use Rattle.eb_engine.proofs.reader.Reader.meet.Goals as goal

pub returns-then-self-seen-clause-this : goal.returns-then-self-seen-clause-this
returns-then-self-seen-clause-this c =
    let less = c.if-self-seen.true in
    subst (λ (docs : List Doc). IsPrefix docs (first_of c.other.inside.seen c.meet.new.self)) (ap (λ (t : HistoryToken). t.docs) c.self.view_is)
    (knows_more c.self.inside.seat c.meet.new.self c.self.inside.seen c.other.inside.seen c.self.invariant.1 (omega arith) c.meet.ensures.least.first)

pub returns-else-self-seen-clause-other : goal.returns-else-self-seen-clause-other
returns-else-self-seen-clause-other c =
    let less = c.if-self-seen.false in
    subst (λ (docs : List Doc). IsPrefix docs (first_of c.self.inside.seen c.meet.new.self)) (ap (λ (t : HistoryToken). t.docs) c.other.view_is)
    (knows_more c.other.inside.seat c.meet.new.self c.other.inside.seen c.self.inside.seen c.other.invariant.1 (omega arith) c.meet.ensures.least.second)
