use Rattle.std.proofs.Common.{◌≡◌, take, sum_by}
use Rattle.eb_place.specs.Room.{text_words}
use Rattle.eb_plain.proofs.room.text_of.Given as goal

abbrev pub invariant-loop-term : goal.invariant-loop-term
invariant-loop-term l = l.words ≡ sum_by text_words (take l.term-index l.term-items)
