-- A law over the definitions, which the public function of src/laws.rt proves.
use Rattle.std.specs.Prelude.{◌≡◌}
use Rattle.eb_place.specs.declared.moment.Moment.{Moment}
use Rattle.eb_place.specs.Later.{IsNotBefore}
use Rattle.eb_writer.specs.Progress.{PlacerProgress, PlacerStands}

-- a placer that stands for a moment stands for each later moment of the same documents
abbrev pub StandsLater : Type 0
StandsLater = (p : PlacerProgress) (m n : Moment) → PlacerStands p m → IsNotBefore n m → n.documents ≡ m.documents → PlacerStands p n
