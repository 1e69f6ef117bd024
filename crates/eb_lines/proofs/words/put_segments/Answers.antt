use Rattle.std.proofs.Common.{append_assoc}
use Rattle.eb_lines.proofs.words.put_segments.Goals as goal

pub returns-clause-text : goal.returns-clause-text
returns-clause-text c = rw (
  c.put_number-2.ensures.text,
  c.put-2.ensures.text,
  c.put_number.ensures.text,
  c.put.ensures.text,
) (simp append_assoc)
