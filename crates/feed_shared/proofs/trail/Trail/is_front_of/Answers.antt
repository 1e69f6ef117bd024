use Rattle.std.proofs.Common.{◌≤◌, ap, subst, arith, length, List}
use mathlib.Core.List.{IsPrefix}
use Rattle.eb_place.proofs.Prefixes.{prefix_shorter}
use Rattle.feed_shared.specs.declared.turn.Turn.{Turn}
use Rattle.feed_shared.proofs.trail.Trail.is_front_of.Goals as goal

pub returns-then-self-other-clause-front : goal.returns-then-self-other-clause-front
returns-then-self-other-clause-front c = λ _.
    let both = c.learn.new.self.log in
    let this : IsPrefix c.self.inside.seen.log both = subst (λ (l : List Turn). IsPrefix l both) (ap (λ s. s.log) c.again-both.ensures) c.learn.ensures.2 in
    let less : length c.self.inside.seen.log ≤ length c.other.inside.seen.log = omega (arith, c.self.invariant, c.other.invariant, c.if-self-other.true) in
    rw (← c.self.view_is, ← c.other.view_is) (prefix_shorter c.self.inside.seen.log c.other.inside.seen.log both this c.learn.ensures.3 less)

pub returns-clause-behind : goal.returns-clause-behind
returns-clause-behind c = λ _.
    let both = c.learn.new.self.log in
    let this : IsPrefix c.self.inside.seen.log both = subst (λ (l : List Turn). IsPrefix l both) (ap (λ s. s.log) c.again-both.ensures) c.learn.ensures.2 in
    let less : length c.other.inside.seen.log ≤ length c.self.inside.seen.log = omega (arith, c.self.invariant, c.other.invariant, c.if-self-other.false) in
    rw (← c.self.view_is, ← c.other.view_is) (prefix_shorter c.other.inside.seen.log c.self.inside.seen.log both c.learn.ensures.3 this less)
