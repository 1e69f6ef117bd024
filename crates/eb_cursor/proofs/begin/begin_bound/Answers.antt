use Rattle.std.proofs.Common.{sym, ◌∙◌}
use Rattle.eb_cursor.specs.Lists.{gives}
use Rattle.eb_cursor.proofs.Begins.{bound_begun}
use Rattle.eb_cursor.proofs.begin.begin_bound.Goals as goal

pub returns : goal.returns
returns c = λ n docs x same first. bound_begun (gives n) docs x _ (c.from-end.ensures ∙ sym same) c.last_before-cursor.ensures first
