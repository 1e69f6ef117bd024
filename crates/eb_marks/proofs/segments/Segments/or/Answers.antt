use Rattle.std.proofs.Common.{◌||◌, true, get_or, ◌∙◌}
use Rattle.eb_marks.proofs.Flags.{flags_or, or_small}
use Rattle.eb_marks.proofs.segments.Segments.or.Goals as goal

pub invariant_of-result : goal.invariant_of-result
invariant_of-result c = or_small c.self.inside.bits c.other.inside.bits c.self.invariant c.other.invariant

pub returns : goal.returns
returns c s = flags_or 64 c.self.inside.bits c.other.inside.bits s ∙ (λ i. get_or (c.self.view_is i) s true || get_or (c.other.view_is i) s true)
