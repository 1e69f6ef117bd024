-- Which lines a round takes.
use Rattle.std.specs.Prelude.{◌==◌, ◌&&◌, Bool, List, nat_lt}
use Rattle.eb_rounds.specs.declared.input.Kind.{Kind}
use Rattle.eb_rounds.specs.declared.input.Kind.TheVariants.{DocumentLine, QueryLine, RefusedLine}
use Rattle.eb_rounds.specs.Inputs.{HeldLine}
use Rattle.eb_rounds.specs.Standing.{documents_held, queries_held, refused_held}

abbrev pub takes_kind : List HeldLine → Kind → Bool
takes_kind held DocumentLine = nat_lt (documents_held held) 4096
takes_kind held QueryLine = nat_lt (queries_held held) 512 && documents_held held == 0
takes_kind held RefusedLine = nat_lt (refused_held held) 4096
