use Rattle.std.proofs.Common.{◌<◌, ◌∙◌, All, subst, arith}
use Rattle.std.proofs.lemmas.List.{take_all}
use Rattle.std.proofs.lemmas.List.Elements.{All-more}
use Rattle.std.proofs.lemmas.Str.Ascii.{IsAscii-from_all}
use Rattle.eb_text.proofs.is_ascii.Goals as goal

pub loop-byte-preserved : goal.loop-byte-preserved
loop-byte-preserved c =
    All-more (λ b. b < 128) c.as_bytes-byte-items.result.now c.loop-byte.byte-index 0 c.loop-byte-test.true c.loop-byte.invariant (omega arith)

pub returns : goal.returns
returns c _ =
    IsAscii-from_all c.args.text.now (subst (All (λ b. b < 128)) (take_all c.loop-byte.byte-index c.as_bytes-byte-items.result.now c.loop-byte-test.false ∙ c.as_bytes-byte-items.ensures.value)
    c.loop-byte.invariant)
