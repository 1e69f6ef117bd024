use Rattle.eb_place.proofs.ValuesRiseInAll.{all_stored_once}
use Rattle.eb_place.proofs.storing_laws.stored_once.Goals as goal

pub returns : goal.returns
returns c = all_stored_once
