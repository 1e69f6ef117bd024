use Rattle.eb_base.proofs.Same.{and_same, or_same, taken_same}
use Rattle.eb_base.proofs.query_is.+same.Goals as goal

pub is_query-returns-in-And-And : goal.is_query-returns-in-And-And
is_query-returns-in-And-And t c = and_same _ _ c.in-And-And.parts c.in-And-And.by _ c.in-And-And.is-0 c.in-And-And.is-1 c.are_parts.ensures

pub is_query-returns-in-Or-Or : goal.is_query-returns-in-Or-Or
is_query-returns-in-Or-Or t c = or_same _ _ c.in-Or-Or.parts c.in-Or-Or.by _ c.in-Or-Or.is-0 c.in-Or-Or.is-1 c.are_parts-in-Or-Or.ensures

pub are_parts-loop-at-preserved : goal.are_parts-loop-at-preserved
are_parts-loop-at-preserved t c = taken_same _ _ _ _ _ c.loop-at-test.true c.part-item.is c.get.ensures (c.is_query.ensures.0 c.if-not-is_query.false) c.loop-at.invariant
