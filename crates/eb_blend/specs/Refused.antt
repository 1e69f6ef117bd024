-- Why a blend refuses a document.
use Rattle.std.specs.Prelude.{◌≡◌, ◌≤◌, Some, false}
use Rattle.eb_base.specs.Document.{Doc}
use Rattle.eb_base.specs.Setting.{Setting}
use Rattle.eb_place.specs.Room.{has_room}
use Rattle.eb_blend.specs.declared.refusal.BlendRefusal.{BlendRefusal}
use Rattle.eb_blend.specs.declared.refusal.BlendRefusal.TheVariants.{NotRising, Full}
use Rattle.eb_blend.specs.Parts.{WriterTokens, history, part_of, IsAbove}

-- the document's id isn't above that of the last one; or it is, and its part has no room
abbrev pub Refuses : Setting → WriterTokens → Doc → BlendRefusal → Type 0
Refuses σ w d (NotRising last) = (w.last ≡ Some last) × (d.id ≤ last)
Refuses σ w d (Full part) = IsAbove w.last d.id × (part ≡ part_of w.histories d) × (has_room σ (history w.histories part) d ≡ false)
