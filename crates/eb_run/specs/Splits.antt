-- Words without those that say how lines are read, as the code has them.
use Rattle.eb_fields.specs.Dialect.{dialect_of}
use Rattle.std.specs.Prelude.{map, string_bytes}
use Rattle.eb_run.specs.Command.{DialectApart}
use Rattle.eb_run.specs.declared.fields.WordsApart.{WordsApart}

abbrev pub apart_view : WordsApart → DialectApart
apart_view a = record { dialect = dialect_of a.dialect; others = map string_bytes a.others.items }
