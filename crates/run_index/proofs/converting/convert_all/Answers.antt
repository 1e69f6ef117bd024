use Rattle.eb_place.proofs.Prefixes.{prefix_trans}
use Rattle.eb_engine.proofs.Converting.{nothing_left}
use Rattle.run_index.proofs.Conversions.{few_left}
use Rattle.run_index.proofs.converting.convert_all.Goals as goal

pub returns-clause-converted : goal.returns-clause-converted
returns-clause-converted c =
    let few = nothing_left c.args.index.now.setting c.converts.converter c.convert.new.self c.convert.result c.convert.ensures.converts c.in_default.not-One in
    few_left c.args.index.now.setting c.args.converter.now.docs c.convert.new.self.docs c.convert.new.self.converted
    (prefix_trans _ _ _ c.converts.invariant.known c.convert.ensures.known) few
