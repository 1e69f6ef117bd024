-- How far a placer is, and what a call of it does.
use Rattle.std.specs.Prelude.{◌≡◌, ℕ, ◌-◌, ◌≤◌, false, length, None}
use Rattle.eb_base.specs.Document.{Doc}
use Rattle.eb_base.specs.Setting.{Setting}
use Rattle.eb_place.specs.declared.moment.Moment.{Moment}
use Rattle.eb_place.specs.declared.used.Used.{Used}
use Rattle.eb_place.specs.Room.{cut, last_of, fits, has_room}
use Rattle.eb_place.specs.Tells.{TellsSegment}

-- what a placer keeps: the setting of its index, how many segments it has begun, how many documents
-- it has placed, and how much of the last segment is used
pub record PlacerProgress : Type 0 where
  pub setting : Setting
  pub segments : ℕ
  pub documents : ℕ
  pub used : Used

-- the placer has the setting of the index, has done all placings of its words, and no document is
-- being placed
pub record PlacerStands (p : PlacerProgress) (m : Moment) : Type 0 where
  pub setting : p.setting ≡ m.setting
  pub idle : m.documents.current ≡ None
  pub segments : p.segments ≡ length (cut m.setting m.documents.accepted)
  pub documents : p.documents ≡ length m.documents.accepted
  pub used : TellsSegment p.used m (p.segments - 1)

-- the last segment, if there is one, has no room for the document
abbrev pub IsLastFull : Moment → Doc → Type 0
IsLastFull m d = 1 ≤ length (cut m.setting m.documents.accepted) → fits m.setting (last_of (cut m.setting m.documents.accepted)) d ≡ false

-- there is no room for the document
abbrev pub HasNoRoom : Moment → Doc → Type 0
HasNoRoom m d = has_room m.setting m.documents.accepted d ≡ false
