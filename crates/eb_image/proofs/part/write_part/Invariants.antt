use Rattle.std.proofs.Common.{◌≡◌, ◌∷◌, ◌++◌, length, take}
use Rattle.std.specs.Int.{w16, w64, to_be_bytes}
use Rattle.std.specs.List.{flat_map}
use Rattle.eb_image.specs.Image.{term_bytes}
use Rattle.eb_image.proofs.part.write_part.Given as goal

abbrev pub invariant-loop-term : goal.invariant-loop-term
invariant-loop-term l = l.bytes.items ≡ 1 ∷ (to_be_bytes w64 l.document.id ++ (to_be_bytes w16 (length l.document.terms) ++ flat_map term_bytes (take l.term-index l.document.terms)))
