use Rattle.std.proofs.Common.{ap}
use Rattle.eb_bloom.specs.Bits.{Bits}
use Rattle.eb_bloom.proofs.Covered.{covers_nothing}
use Rattle.eb_bloom.proofs.filters.Filters.clear.Goals as goal

pub returns-clause-covers : goal.returns-clause-covers
returns-clause-covers c = covers_nothing _ c.args.self.now.setting (ap (λ (b : Bits). b.setting) c.self.view_is)
