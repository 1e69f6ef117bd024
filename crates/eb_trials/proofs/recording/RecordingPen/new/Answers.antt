use Rattle.std.proofs.Common.{rules, refl}
use Rattle.eb_trials.proofs.Records.{nothing_stored}
use Rattle.eb_trials.proofs.recording.RecordingPen.new.Goals as goal

pub returns : goal.returns
returns c = record { words = search rules; stores = λ e. search (rules, nothing_stored); converted = refl; whole = λ e. refl }
