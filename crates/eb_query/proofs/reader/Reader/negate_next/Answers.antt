use Rattle.std.proofs.Common.{refl, arith, le-leb}
use Rattle.eb_query.proofs.reader.Reader.negate_next.Goals as goal

pub returns-then-self-eq-MAX_NESTING-clause-steps : goal.returns-then-self-eq-MAX_NESTING-clause-steps
returns-then-self-eq-MAX_NESTING-clause-steps c = let h = c.requires.nesting in let k = c.if-self-eq-MAX_NESTING.true in (_, refl, le-leb 16 _ (omega arith))
