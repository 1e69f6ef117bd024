-- Which moment a recording pen stands for.
use Rattle.std.specs.Prelude.{◌≡◌, false, true}
use Rattle.eb_place.specs.declared.moment.Moment.{Moment}
use Rattle.eb_place.specs.Placing.{pairs_of}
use Rattle.eb_place.specs.Moments.{document_stores}
use Rattle.eb_flat.specs.Flat.{StandsFor}
use Rattle.eb_trials.specs.declared.recording.RecordingPen.{RecordingPen}

-- the words stand for the moment, the list holds all of the writer's stores, where none is lost,
-- and this many segments are converted
pub record IsRecord (p : RecordingPen) (m : Moment) : Type 0 where
  pub words : StandsFor p.words m
  pub stores : p.has_lost ≡ false → p.stores.items ≡ pairs_of m.setting (document_stores m.setting m.documents)
  pub converted : m.conversions.converted ≡ p.converted
  pub whole : p.is_whole ≡ true → m.conversions.packed ≡ 0
