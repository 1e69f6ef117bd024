use Rattle.std.proofs.Common.{arith, mod-lt}
use Rattle.eb_marks.proofs.Flags.{flag_is, flag_past, marked_below, marked_from, or_small, from_bit}
use Rattle.eb_marks.proofs.segments.Segments.marked.Goals as goal

pub returns-then-end-eq64-clause-marked : goal.returns-then-end-eq64-clause-marked
returns-then-end-eq64-clause-marked c s low = flag_is 64 c.args.marks s (omega (arith, low, c.if-end-eq64.true))

pub returns-then-end-eq64-clause-further : goal.returns-then-end-eq64-clause-further
returns-then-end-eq64-clause-further c s from = flag_past 64 c.args.marks s (omega (arith, from, c.if-end-eq64.true))

pub invariant_of-result-2 : goal.invariant_of-result-2
invariant_of-result-2 c = or_small c.args.marks (from_bit c.args.end) c.ranges.marks.fits (mod-lt _ (omega arith))

pub returns-clause-marked : goal.returns-clause-marked
returns-clause-marked c s low = marked_below c.args.marks c.args.end s c.requires low

pub returns-clause-further : goal.returns-clause-further
returns-clause-further c s from = marked_from c.args.marks c.args.end s c.requires from
