use Rattle.std.proofs.Common.{refl}
use Rattle.eb_bloom.proofs.Covered.{covers_nothing}
use Rattle.eb_bloom.proofs.filters.Filters.new.Goals as goal

pub returns-clause-covers : goal.returns-clause-covers
returns-clause-covers c = covers_nothing _ c.args.config refl
