use Rattle.std.proofs.Common.{All, refl, subst, ◌∙◌}
use Rattle.std.proofs.lemmas.List.{take_all}
use Rattle.std.proofs.lemmas.List.Elements.{All-more}
use Rattle.eb_text.specs.Tokens.{IsFoldedByte}
use Rattle.eb_text.proofs.is_folded_ascii.Goals as goal

pub loop-byte-preserved : goal.loop-byte-preserved
loop-byte-preserved c =
    All-more IsFoldedByte c.as_bytes-byte-items.result.now c.loop-byte.byte-index 0 c.loop-byte-test.true c.loop-byte.invariant
    (c.if-not-is_folded_byte.ensures refl)

pub returns : goal.returns
returns c _ =
    subst (All IsFoldedByte) (take_all c.loop-byte.byte-index c.as_bytes-byte-items.result.now c.loop-byte-test.false ∙ c.as_bytes-byte-items.ensures.value)
    c.loop-byte.invariant
