use Rattle.eb_text.proofs.Folding.{folded_ascii}
use Rattle.eb_text.proofs.Runs.{runs}
use Rattle.eb_text.proofs.pieces.push_runs.Goals as goal

pub returns : goal.returns
returns c =
    let text = c.args.text.now in
    rw (c.make_ascii_lowercase.ensures.after, c.copy_from_slice.ensures.after, c.as_bytes.ensures.value, ← folded_ascii text c.requires, ← runs text c.requires) at c.push_cut-2.ensures
