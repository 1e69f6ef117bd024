use Rattle.eb_text.proofs.Folding.{folded_ascii}
use Rattle.eb_text.proofs.short_folded_term.Goals as goal

pub returns : goal.returns
returns c = rw (c.make_ascii_lowercase.ensures.after, c.copy_from_slice.ensures.after, c.as_bytes.ensures.value, ← folded_ascii c.args.text.now c.requires.ascii) at c.new.ensures
