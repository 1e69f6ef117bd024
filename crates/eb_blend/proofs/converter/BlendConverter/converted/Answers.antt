use Rattle.std.proofs.Common.{◌≡◌, ◌<◌, ◌+◌, List, take, length, arith}
use Rattle.eb_engine.specs.Tokens.{ConverterToken}
use Rattle.eb_blend.specs.Parts.{converted_of, few_counted}
use Rattle.eb_blend.proofs.Each.{few_push, converted_got, length_converted}
use Rattle.eb_blend.proofs.converter.BlendConverter.converted.Goals as goal

pub loop-converter-preserved : goal.loop-converter-preserved
loop-converter-preserved c =
    let cs : List ConverterToken = c.deref-converter-items.result.now in
    let n = c.loop-converter.converter-index in
    let x = c.converted.result in
    let lt : n < length cs = c.loop-converter-test.true in
    let got = converted_got cs n c.converter-item.result x lt c.converter-item.is c.converted.ensures in
    let s = few_push (converted_of cs) n x c.loop-converter.converted (omega (arith, lt, length_converted cs)) got c.loop-converter.invariant in
    let a = c.saturating_add-converted.ensures in
    let e : c.saturating_add-converted.result ≡ few_counted (take (n + 1) (converted_of cs)) = grind (arith, a, s) in
    e
