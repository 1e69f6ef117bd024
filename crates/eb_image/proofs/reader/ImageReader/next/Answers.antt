use Rattle.std.proofs.Common.{ap, ◌∙◌}
use Rattle.eb_io.specs.Source.{after}
use Rattle.eb_image.proofs.Nexts.{next_len, last_if}
use Rattle.eb_image.proofs.reader.ImageReader.next.Goals as goal

pub bounds-bytes-0 : goal.bounds-bytes-0
bounds-bytes-0 g c = next_len _ c.in-Ok.ensures.ok.1

pub returns-then-bytes-eq0-clause-none : goal.returns-then-bytes-eq0-clause-none
returns-then-bytes-eq0-clause-none g c = λ is.
    c.in-Ok.ensures.ok.2 ∙ ap (λ t. after t (g.S.Source.left c.read_next.new.source)) (last_if _ c.in-Ok.ensures.ok.1 c.if-bytes-eq0.true)
