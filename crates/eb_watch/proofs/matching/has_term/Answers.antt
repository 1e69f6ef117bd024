use Rattle.std.proofs.Common.{ap, is_some, ◌∙◌}
use Rattle.eb_watch.proofs.Numbered.{has_number}
use Rattle.eb_watch.proofs.matching.has_term.Goals as goal

pub returns : goal.returns
returns c = c.is_some.ensures ∙ ap is_some c.number.ensures ∙ has_number c.args.message.now.by_text c.args.message.now.places.items c.args.document.now.terms c.requires c.args.term.now
