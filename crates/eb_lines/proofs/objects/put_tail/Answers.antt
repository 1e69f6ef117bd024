use Rattle.std.proofs.Common.{◌≡◌, ℕ, List, ◌++◌, append_assoc}
use Rattle.std.specs.Prelude.{codes}
use Rattle.std.specs.Fmt.{decimal}
use Rattle.eb_lines.specs.JsonTexts.{segments_text}
use Rattle.eb_lines.proofs.objects.put_tail.Goals as goal

after : (a b c d e f g : List ℕ) → (((((a ++ b) ++ c) ++ d) ++ e) ++ f) ++ g ≡ a ++ (((((b ++ c) ++ d) ++ e) ++ f) ++ g)
after a b c d e f g = simp append_assoc

pub returns-in-Generations : goal.returns-in-Generations
returns-in-Generations c = rw (
  c.put-in-Generations-3.ensures.text,
  c.put_number-in-Generations-2.ensures.text,
  c.put-in-Generations-2.ensures.text,
  c.put_segments-in-Generations.ensures.text,
  c.put_number-in-Generations.ensures.text,
  c.put-in-Generations.ensures.text,
  c.in-Generations.is,
) (after c.args.text.now.items (codes ",\"kept\":") (decimal c.in-Generations.kept) (segments_text c.in-Generations.segments c.in-Generations.converted)
    (codes ",\"generations\":") (decimal c.in-Generations.begun) (codes "}\n"))
