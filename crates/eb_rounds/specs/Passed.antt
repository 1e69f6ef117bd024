-- What a line that is given to a round is.
use Rattle.eb_rounds.specs.declared.input.Input.{Input}
use Rattle.eb_rounds.specs.declared.input.Input.TheVariants as passed
use Rattle.eb_rounds.specs.declared.input.Kind.{Kind}
use Rattle.eb_rounds.specs.declared.input.Kind.TheVariants.{DocumentLine, QueryLine, RefusedLine}
use Rattle.eb_rounds.specs.Inputs.{HeldInput, document_line, query_line, refused_line}

-- what it is held as
abbrev pub input_of : Input → HeldInput
input_of (passed.DocumentLine bytes) = document_line bytes.now
input_of (passed.QueryLine text) = query_line text.now
input_of (passed.RefusedLine r) = refused_line r

-- its kind
abbrev pub input_kind : Input → Kind
input_kind (passed.DocumentLine bytes) = DocumentLine
input_kind (passed.QueryLine text) = QueryLine
input_kind (passed.RefusedLine r) = RefusedLine
