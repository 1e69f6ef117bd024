use Rattle.std.proofs.Common.{◌&&◌, true, get_or, ◌∙◌}
use Rattle.eb_marks.proofs.Flags.{flags_and}
use Rattle.eb_marks.proofs.segments.Segments.and.Goals as goal

pub returns : goal.returns
returns c s = flags_and 64 c.self.inside.bits c.other.inside.bits s ∙ (λ i. get_or (c.self.view_is i) s true && get_or (c.other.view_is i) s true)
