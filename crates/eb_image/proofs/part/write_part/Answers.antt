use Rattle.std.proofs.Common.{◌≡◌, ℕ, List, ◌∷◌, ◌++◌, length, take, ap, ◌∙◌, arith}
use Rattle.std.specs.Int.{w16, w64, to_be_bytes}
use Rattle.std.specs.List.{flat_map}
use Rattle.std.proofs.Math.Seq.{take-length}
use Rattle.eb_image.specs.Image.{document_part, term_bytes}
use Rattle.eb_image.proofs.part.write_part.Goals as goal

pub returns : goal.returns
unfolding document_part
returns c =
    let d = c.args.document.now in
    let n : c.loop-term.term-index ≡ length d.terms =
    omega (arith, c.loop-term-test.false, c.loop-term.auto.term-index-end, ap length c.as_slice-term-items.ensures, ap length c.terms-terms.ensures.terms) in
    c.loop-term.invariant ∙ ap (λ (ts : List (List ℕ)). 1 ∷ (to_be_bytes w64 d.id ++ (to_be_bytes w16 (length d.terms) ++ flat_map term_bytes ts)))
    (ap (λ (k : ℕ). take k d.terms) n ∙ take-length d.terms)
