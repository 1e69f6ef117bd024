use Rattle.std.proofs.Common.{refl}
use Rattle.eb_io.specs.Lines.{long_line}
use Rattle.run_images.proofs.saving.SavingLineProgram.take_long.Goals as goal

pub returns-clause-ok : goal.returns-clause-ok
returns-clause-ok g c = c.refuse.ensures _ long_line refl
