use Rattle.eb_place.proofs.MeetOfMoments as lemmas
use Rattle.eb_place.proofs.laws.moments_meet.Goals as goal

pub returns : goal.returns
returns c = lemmas.moments_meet
