use Rattle.std.proofs.Common.{◌∙◌, ap, sym, List}
use Rattle.eb_base.specs.Document.{Doc}
use Rattle.eb_blend.specs.Parts.{counted, lengths_of}
use Rattle.eb_blend.proofs.Each.{no_lengths}
use Rattle.eb_blend.proofs.writer.BlendWriter.new.Goals as goal

pub invariant_of-result : goal.invariant_of-result
invariant_of-result c = no_lengths c.requires.0 ∙ ap (λ (z : List (List Doc)). counted (lengths_of z)) (sym c.requires.1)
