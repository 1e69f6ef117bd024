use Rattle.eb_c.specs.Asking.{asked_of, parsed_of, TextAsks}
use Rattle.eb_c.proofs.Dialected.{asked_as}
use Rattle.eb_c.proofs.reading.question_in_text.Goals as goal

pub returns : goal.returns
returns c = asked_as (TextAsks c.args.k c.args.text.now) (asked_of c.question_of.result) (parsed_of c.parsed_in_text.result) c.question_of.ensures c.parsed_in_text.ensures
