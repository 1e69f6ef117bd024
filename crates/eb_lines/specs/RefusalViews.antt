-- What a refusal gives, of the code, as the table has it.
use Rattle.eb_lines.specs.declared.refusal.Told.{Told}
use Rattle.eb_lines.specs.Refusals as table

abbrev pub told_view : Told → table.Told
told_view t = record { before = t.before.now; key = t.key.now; number = t.number }
