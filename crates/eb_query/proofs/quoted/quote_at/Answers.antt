use Rattle.std.proofs.Common.{eq-eqb}
use Rattle.eb_query.specs.Lexemes.{is_quote}
use Rattle.eb_fields.proofs.Found.{found_at, found_none}
use Rattle.eb_query.proofs.quoted.quote_at.Goals as goal

pub returns-then-byte-eq34 : goal.returns-then-byte-eq34
returns-then-byte-eq34 c = found_at is_quote c.args.bytes.now c.loop-at.at c.loop-at-test.true c.loop-at.invariant (eq-eqb _ 34 c.if-byte-eq34.true)

pub returns : goal.returns
returns c = found_none is_quote c.args.bytes.now c.loop-at.at c.loop-at-test.false c.loop-at.invariant
