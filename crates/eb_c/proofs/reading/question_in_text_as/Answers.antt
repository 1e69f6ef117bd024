use Rattle.eb_c.specs.Asking.{asked_of, parsed_of, TextAsksAs}
use Rattle.eb_c.proofs.Dialected.{asked_as}
use Rattle.eb_c.proofs.reading.question_in_text_as.Goals as goal

pub returns : goal.returns
returns c = asked_as (TextAsksAs c.args.how.now c.args.k c.args.text.now) (asked_of c.question_of.result) (parsed_of c.parsed_in_text_as.result) c.question_of.ensures c.parsed_in_text_as.ensures
