use Rattle.std.proofs.Common.{arith}
use Rattle.eb_image.proofs.Nexts.{next_len, part_if}
use Rattle.eb_image.proofs.Firsts.{last_first, part_first, part_there}
use Rattle.eb_image.proofs.first.whole_part.Goals as goal

pub bounds-part-0 : goal.bounds-part-0
bounds-part-0 c = omega (arith, next_len _ c.requires.0)

pub returns-then-part-eq0-clause-first : goal.returns-then-part-eq0-clause-first
returns-then-part-eq0-clause-first c = last_first c.args.len c.args.bytes.now c.requires.0 c.if-part-eq0.true

pub returns-in-Ok-clause-first : goal.returns-in-Ok-clause-first
returns-in-Ok-clause-first c = part_first _ c.args.len c.args.bytes.now c.requires.1 c.in-Ok.ensures

pub returns-in-Err-clause-memory : goal.returns-in-Err-clause-memory
returns-in-Err-clause-memory c = λ is. part_there c.args.len c.args.bytes.now (part_if _ c.requires.0 (λ z. omega (arith, z, c.if-part-eq0.false)))
