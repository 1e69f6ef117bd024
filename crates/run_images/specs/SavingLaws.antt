-- What `save` wrote is a prefix of an image.
use Rattle.std.specs.Prelude.{ℕ, List, ◌++◌}
use Rattle.std.specs.List.{flat_map}
use Rattle.std.proofs.Common.{ap, ◌∙◌, append_assoc}
use Rattle.eb_image.specs.Image.{head_of, document_part, image_of, last_byte}
use Rattle.eb_io.specs.Lines.{Line}
use Rattle.eb_lines.specs.Programs.{PrintsFront, prints_all}
use Rattle.eb_lines.specs.Progress.{accepted}
use Rattle.run_images.specs.declared.saving.Saving.{Saving}
use Rattle.run_images.specs.Saved.{Asked, AreParts, IsSaved}
use Rattle.run_images.specs.Saving.{HasSaved}

-- the lines given are those whose documents were written
pub saved_first : {G : Type 0} (s : Saving G) (a : Asked) (given : List Line) (so_far : List ℕ) → HasSaved s a given so_far
    → PrintsFront AreParts a given so_far
saved_first s a given so_far h = prints_all AreParts a given so_far (record { readings = h.readings; read = h.read; bytes = h.written })

-- the head and some parts are a prefix of the image of their documents
pub parts_first : (a : Asked) (lines : List Line) (printed : List ℕ) → AreParts a lines printed → (more : List ℕ) × IsSaved a lines (printed ++ more)
unfolding image_of
parts_first a lines printed p = (
  last_byte,
  record {
    readings = p.readings;
    read = p.read;
    bytes = ap (λ b. b ++ last_byte) p.bytes ∙ append_assoc (head_of a.setting) (flat_map document_part (accepted p.readings)) last_byte;
  },
)
