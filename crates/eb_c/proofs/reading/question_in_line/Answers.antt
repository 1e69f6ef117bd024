use Rattle.eb_c.specs.Asking.{asked_of, parsed_of, LineAsks}
use Rattle.eb_c.proofs.Dialected.{asked_as}
use Rattle.eb_c.proofs.reading.question_in_line.Goals as goal

pub returns : goal.returns
returns c = asked_as (LineAsks c.args.line.now) (asked_of c.question_of.result) (parsed_of c.parsed_in_line.result) c.question_of.ensures c.parsed_in_line.ensures
