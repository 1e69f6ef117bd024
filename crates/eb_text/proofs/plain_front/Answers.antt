use Rattle.std.proofs.Common.{◌∙◌, sym, arith}
use Rattle.std.proofs.lemmas.List.Elements.{All-more}
use Rattle.eb_text.specs.Parting.{IsAlphanumeric}
use Rattle.eb_text.proofs.plain_front.Goals as goal

pub loop-place-preserved : goal.loop-place-preserved
loop-place-preserved c =
    let bytes = c.as_bytes-bytes.result.now in
    let own = sym c.is_ascii_alphanumeric.ensures.value ∙ c.if-is_ascii_alphanumeric.true in
    (omega (arith, c.loop-place-test.true), All-more IsAlphanumeric bytes c.loop-place.place 0 c.loop-place-test.true c.loop-place.invariant.1 own)
