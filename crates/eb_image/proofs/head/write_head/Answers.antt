use Rattle.std.proofs.Common.{refl}
use Rattle.eb_image.specs.Image.{head_of}
use Rattle.eb_image.proofs.head.write_head.Goals as goal

pub returns : goal.returns
unfolding head_of
returns c = rw (c.to_be_bytes-segments.ensures, c.to_be_bytes-docs.ensures, c.to_be_bytes-terms.ensures, c.segments.ensures, c.docs.ensures, c.terms.ensures) refl
