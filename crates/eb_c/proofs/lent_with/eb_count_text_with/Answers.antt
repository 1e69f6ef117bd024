use Rattle.std.proofs.Common.{length}
use Rattle.eb_c.specs.Asking.{TextAsksAs, asked_of}
use Rattle.eb_c.specs.Counting.{wanted}
use Rattle.eb_c.proofs.Counted.{counted_as}
use Rattle.eb_c.proofs.lent_with.eb_count_text_with.Goals as goal

pub returns-clause-told : goal.returns-clause-told
returns-clause-told c docs h =
    let x = wanted c.prepare-asked.result in
    let counted =
    counted_as (TextAsksAs c.args.how.now 1 c.args.text.now) c.args.width (length c.args.buckets.now) x (asked_of c.question_in_text_as-question.result)
    c.question_in_text_as-question.ensures c.prepare-asked.ensures.wanted in
    (x, counted, c.count_read.ensures.told docs h)
