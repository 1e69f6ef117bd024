use Rattle.eb_text.proofs.Runs.{runs}
use Rattle.eb_text.proofs.PieceLaws.{no_marks, stays_whole, stay_together}
use Rattle.eb_text.proofs.laws.pieces_of_tokens.Goals as goal

pub returns : goal.returns
returns c = record { marks = no_marks; whole = stays_whole; together = stay_together; runs = runs }
