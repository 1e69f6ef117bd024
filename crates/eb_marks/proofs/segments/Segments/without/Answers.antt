use Rattle.std.proofs.Common.{true, get_or, ap, ◌∙◌}
use Rattle.eb_marks.proofs.Flags.{flag_out, flag_other}
use Rattle.eb_marks.proofs.segments.Segments.without.Goals as goal

pub returns-clause-out : goal.returns-clause-out
returns-clause-out c = flag_out c.self.inside.bits c.args.segment c.requires

pub returns-clause-others : goal.returns-clause-others
returns-clause-others c s ne = flag_other c.self.inside.bits c.args.segment s c.requires ne ∙ ap (λ z. get_or z s true) c.self.view_is
