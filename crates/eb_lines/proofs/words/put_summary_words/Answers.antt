use Rattle.std.proofs.Common.{append_assoc}
use Rattle.eb_lines.proofs.words.put_summary_words.Goals as goal

pub returns : goal.returns
returns c = rw (
  c.put-4.ensures.text,
  c.put_tail.ensures.text,
  c.put_number-3.ensures.text,
  c.put-3.ensures.text,
  c.put_number-2.ensures.text,
  c.put-2.ensures.text,
  c.put_number.ensures.text,
  c.put.ensures.text,
) (simp append_assoc)
