-- Indexes that hold known documents.
use Rattle.std.specs.Prelude.{◌≡◌, ◌≤◌, ℕ, List, ◌++◌, length, None}
use Rattle.eb_base.specs.Document.{Doc}
use Rattle.eb_base.specs.Setting.{Setting}
use Rattle.eb_place.specs.declared.moment.Moment.{Moment}
use Rattle.eb_writer.specs.Progress.{PlacerProgress, PlacerStands}
use Rattle.eb_cursor.specs.Accepted.{accepted_in}

-- the port stands for a moment of the same setting with these documents accepted after those of the
-- first, and so does the placer
pub record HasAdded {S : Type 0} (stands : S → Moment → Type 0) (s : S) (p : PlacerProgress) (m : Moment) (docs : List Doc) : Type 0 where
  pub moment : Moment
  pub port : stands s moment
  pub placer : PlacerStands p moment
  pub setting : m.setting ≡ moment.setting
  pub accepted : moment.documents.accepted ≡ m.documents.accepted ++ docs

-- at this moment of an index of this setting these documents are accepted, and none is being placed
pub record Holds (m : Moment) (σ : Setting) (docs : List Doc) : Type 0 where
  pub setting : m.setting ≡ σ
  pub accepted : m.documents.accepted ≡ docs
  pub idle : m.documents.current ≡ None

-- the port stands for a moment at which segment 0 has at least this many accepted documents
abbrev pub HasAccepted : {S : Type 0} → (S → Moment → Type 0) → S → ℕ → Type 0
HasAccepted stands s n = (m : Moment) × stands s m × (n ≤ length (accepted_in m 0))
