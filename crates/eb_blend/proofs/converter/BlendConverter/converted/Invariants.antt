use Rattle.std.proofs.Common.{◌≡◌, take}
use Rattle.eb_blend.specs.Parts.{converted_of, few_counted}
use Rattle.eb_blend.proofs.converter.BlendConverter.converted.Given as goal

abbrev pub invariant-loop-converter : goal.invariant-loop-converter
invariant-loop-converter l = l.converted ≡ few_counted (take l.converter-index (converted_of l.converter-items))
