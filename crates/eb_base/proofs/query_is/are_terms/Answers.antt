use Rattle.std.proofs.Common.{sym, ◌∙◌}
use Rattle.std.proofs.lemmas.Slice.Eq.{bytes_eq-Decides, slice_eq-Decides}
use Rattle.eb_base.proofs.query_is.are_terms.Goals as goal

pub returns : goal.returns
returns c =
    let d = slice_eq-Decides bytes_eq-Decides c.as_slice.result.now c.as_slice-2.result.now c.eq.result c.eq.ensures in
    let a = c.as_slice.ensures in
    let b = c.as_slice-2.ensures in
    (λ t. sym a ∙ d.0 t ∙ b, λ e. d.1 (a ∙ e ∙ sym b))
