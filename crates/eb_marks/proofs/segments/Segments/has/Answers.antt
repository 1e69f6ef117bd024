use Rattle.std.proofs.Common.{◌==◌, true, get_or, ap, sym, ◌∙◌}
use Rattle.std.proofs.lemmas.Nat.Bits.{shr_and_one}
use Rattle.eb_marks.proofs.Flags.{flag_is}
use Rattle.eb_marks.proofs.segments.Segments.has.Goals as goal

pub returns : goal.returns
returns c =
    let n = c.self.inside.bits in
    let s = c.args.segment in
    ap (λ z. z == 1) (shr_and_one n s) ∙ sym (flag_is 64 n s c.requires) ∙ ap (λ z. get_or z s true) c.self.view_is
