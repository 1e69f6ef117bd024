use Rattle.eb_image.proofs.Parts.{images_differ_all}
use Rattle.eb_image.proofs.law.images_differ.Goals as goal

pub returns : goal.returns
returns c = images_differ_all
