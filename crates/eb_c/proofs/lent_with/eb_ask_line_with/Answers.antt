use Rattle.eb_c.specs.Asking.{asked_of}
use Rattle.eb_c.proofs.lent_with.eb_ask_line_with.Goals as goal

pub returns-clause-told : goal.returns-clause-told
returns-clause-told c docs h = (asked_of c.question_in_line_as.result, c.question_in_line_as.ensures, c.ask_read.ensures.told docs h)
