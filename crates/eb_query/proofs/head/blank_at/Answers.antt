use Rattle.std.proofs.Common.{sym, ◌∙◌}
use Rattle.eb_query.specs.Lexemes.{is_blank}
use Rattle.eb_fields.proofs.Found.{found_at, found_none}
use Rattle.eb_query.proofs.head.blank_at.Goals as goal

pub returns-then-is_blank_byte : goal.returns-then-is_blank_byte
returns-then-is_blank_byte c = found_at is_blank c.args.bytes.now c.loop-at.at c.loop-at-test.true c.loop-at.invariant (sym c.is_blank_byte.ensures ∙ c.if-is_blank_byte.true)

pub returns : goal.returns
returns c = found_none is_blank c.args.bytes.now c.loop-at.at c.loop-at-test.false c.loop-at.invariant
