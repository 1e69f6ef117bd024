use Rattle.eb_place.proofs.StoresLie.{placing_lies, conversion_lies}
use Rattle.eb_place.proofs.storing_laws.stores_lie_in_regions.Goals as goal

pub returns-clause-placings : goal.returns-clause-placings
returns-clause-placings c = placing_lies

pub returns-clause-conversions : goal.returns-clause-conversions
returns-clause-conversions c = conversion_lies
