-- A recording pen whose segments are converted, and the packed lists over it.
use Rattle.std.proofs.Common.{◌≡◌, ℕ, true, List, [], ◌∷◌, sym, ◌∙◌, Option}
use Rattle.eb_base.specs.Term.{Term}
use Rattle.eb_place.specs.declared.moment.Moment.{Moment}
use Rattle.eb_block.specs.Reading.{ListStands, ListGives}
use Rattle.eb_block.specs.declared.packed_list.PackedList.{PackedList}
use Rattle.eb_trials.specs.Recorded.{IsRecord}
use Rattle.eb_trials.specs.declared.recording.RecordingPen.{RecordingPen}

-- where no conversion is begun and not ended, this many segments are converted and nothing else
pub are_converted : (p : RecordingPen) (m : Moment) (s : ℕ) → IsRecord p m → p.is_whole ≡ true → s ≡ p.converted → m.conversions ≡ record { converted = s; packed = 0 }
are_converted p m s h w e = λ i. record { converted = (h.converted ∙ sym e) i; packed = h.whole w i }

-- after a call a packed list still has postings to give
pub still_listed : (m : Moment) (s : ℕ) (t : Term) (p : PackedList) (rest : List ℕ) (b : ℕ) (r : Option ℕ) → ListGives m s t p rest b r → (left : List ℕ) × ListStands m s t p left b
still_listed m s t p [] b r g = ([], g.1)
still_listed m s t p (x ∷ xs) b r g = (xs, g.1)
