use Rattle.eb_place.proofs.PlacesApart.{places_apart}
use Rattle.eb_place.proofs.laws.places_are_apart.Goals as goal

pub returns : goal.returns
returns c = places_apart
