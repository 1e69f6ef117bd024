use Rattle.std.proofs.Common.{◌≡◌, ℕ, List, ◌++◌, append_assoc}
use Rattle.std.specs.Prelude.{codes}
use Rattle.std.specs.Fmt.{decimal}
use Rattle.eb_lines.specs.Words.{segments_words}
use Rattle.eb_lines.proofs.words.put_tail.Goals as goal

after : (a b c d e f : List ℕ) → ((((a ++ b) ++ c) ++ d) ++ e) ++ f ≡ a ++ ((((b ++ c) ++ d) ++ e) ++ f)
after a b c d e f = simp append_assoc

pub returns-in-Generations-clause-text : goal.returns-in-Generations-clause-text
returns-in-Generations-clause-text c = rw (
  c.put_number-in-Generations-2.ensures.text,
  c.put-in-Generations-2.ensures.text,
  c.put_segments-in-Generations.ensures.text,
  c.put_number-in-Generations.ensures.text,
  c.put-in-Generations.ensures.text,
  c.in-Generations.is,
) (after c.args.text.now.items (codes ", kept ") (decimal c.in-Generations.kept) (segments_words c.in-Generations.segments c.in-Generations.converted)
    (codes ", generations ") (decimal c.in-Generations.begun))
