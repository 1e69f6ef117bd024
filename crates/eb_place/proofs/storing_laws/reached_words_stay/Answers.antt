use Rattle.eb_place.proofs.WalkFromTail.{reached_stay}
use Rattle.eb_place.proofs.storing_laws.reached_words_stay.Goals as goal

pub returns : goal.returns
returns c = reached_stay
