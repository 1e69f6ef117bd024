use Rattle.std.proofs.Common.{length}
use Rattle.eb_c.specs.Asking.{TextAsks, asked_of}
use Rattle.eb_c.specs.Counting.{wanted}
use Rattle.eb_c.proofs.Counted.{counted_as}
use Rattle.eb_c.proofs.counts.eb_follower_count_text.Goals as goal

pub returns-clause-told : goal.returns-clause-told
returns-clause-told c f h = let told = c.count_by_follower.ensures.told f h in (
  told.0,
  told.1,
  (
    wanted c.prepare-asked.result,
    counted_as (TextAsks 1 c.args.text.now) c.args.width (length c.args.buckets.now) (wanted c.prepare-asked.result) (asked_of c.question_in_text.result)
        c.question_in_text.ensures c.prepare-asked.ensures.wanted,
    told.2,
    told.3,
  ),
)
