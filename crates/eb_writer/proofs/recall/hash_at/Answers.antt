use Rattle.std.proofs.Common.{[], ◌∙◌, sym, ap}
use Rattle.eb_place.specs.Placing.{hash}
use Rattle.eb_writer.proofs.Recalling.{at_place}
use Rattle.eb_writer.proofs.recall.hash_at.Goals as goal

pub returns : goal.returns
returns c = c.hash_of.ensures ∙ ap hash (sym (at_place c.args.terms.now c.args.at c.get.result.now [] c.get.ensures))
