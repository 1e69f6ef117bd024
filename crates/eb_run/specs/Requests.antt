-- What the words of a command line ask for, as the code has it.
use Rattle.eb_fields.specs.Dialect.{dialect_of}
use Rattle.eb_run.specs.Command.{Asks, Counting}
use Rattle.eb_run.specs.declared.command.Counting as code
use Rattle.eb_run.specs.declared.command.Request.{Request}

abbrev pub request_view : Request → Asks
request_view r = record { dialect = dialect_of r.dialect; command = r.command }

abbrev pub counting_view : code.Counting → Counting
counting_view c = record { counts = c.counts; command = c.command }
