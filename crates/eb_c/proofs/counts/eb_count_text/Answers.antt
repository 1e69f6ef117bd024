use Rattle.std.proofs.Common.{length}
use Rattle.eb_c.specs.Asking.{TextAsks, asked_of}
use Rattle.eb_c.specs.Counting.{wanted}
use Rattle.eb_c.proofs.Counted.{counted_as}
use Rattle.eb_c.proofs.counts.eb_count_text.Goals as goal

pub returns-clause-told : goal.returns-clause-told
returns-clause-told c docs h = (
  wanted c.prepare-asked.result,
  counted_as (TextAsks 1 c.args.text.now) c.args.width (length c.args.buckets.now) (wanted c.prepare-asked.result) (asked_of c.question_in_text.result)
      c.question_in_text.ensures c.prepare-asked.ensures.wanted,
  c.count_read.ensures.told docs h,
)
