use Rattle.eb_place.proofs.NextPuts.{next_put_later}
use Rattle.eb_place.proofs.converter_laws.next_put_stays.Goals as goal

pub returns : goal.returns
returns c = next_put_later
