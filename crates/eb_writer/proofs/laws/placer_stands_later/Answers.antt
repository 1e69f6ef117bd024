use Rattle.eb_writer.proofs.Adding.{stands_same}
use Rattle.eb_writer.proofs.laws.placer_stands_later.Goals as goal

pub returns : goal.returns
returns c p m n h l e = stands_same p m n l e h
