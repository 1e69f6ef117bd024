use Rattle.eb_place.proofs.PostingsFall.{newest_falls, newest_small}
use Rattle.eb_place.proofs.converter_laws.postings_fall.Goals as goal

pub returns : goal.returns
returns c = λ m s t is. (newest_falls m s t is, newest_small m s t is)
