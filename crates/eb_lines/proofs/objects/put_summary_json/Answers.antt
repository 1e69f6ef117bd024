use Rattle.std.proofs.Common.{append_assoc}
use Rattle.eb_lines.proofs.objects.put_summary_json.Goals as goal

pub returns : goal.returns
returns c = rw (
  c.put_tail.ensures,
  c.put_number-3.ensures.text,
  c.put-3.ensures.text,
  c.put_number-2.ensures.text,
  c.put-2.ensures.text,
  c.put_number.ensures.text,
  c.put.ensures.text,
) (simp append_assoc)
