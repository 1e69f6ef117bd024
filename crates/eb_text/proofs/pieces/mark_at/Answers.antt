use Rattle.std.proofs.Common.{length, sym, ◌∙◌, arith}
use Rattle.std.proofs.lemmas.List.Sums.{position_or_len_is}
use Rattle.eb_text.specs.Pieces.{is_mark}
use Rattle.eb_text.proofs.pieces.mark_at.Goals as goal

pub returns-then-is_mark_byte-clause-place : goal.returns-then-is_mark_byte-clause-place
returns-then-is_mark_byte-clause-place c =
    sym (position_or_len_is is_mark c.args.bytes.now c.loop-at.at 0 (omega (arith, c.loop-at-test.true)) c.loop-at.invariant
    (λ _. sym c.is_mark_byte.ensures ∙ c.if-is_mark_byte.true))

pub returns-clause-place : goal.returns-clause-place
returns-clause-place c =
    sym (position_or_len_is is_mark c.args.bytes.now (length c.args.bytes.now) 0 (omega arith)
    (λ k l. c.loop-at.invariant k (omega (arith, c.loop-at-test.false))) (λ l. absurd (omega arith)))
