-- The segments of the first accepted documents.
use Rattle.std.specs.Prelude.{◌≡◌, ℕ, ◌+◌, ◌<◌, Bool, true, false, List, [], length, take, get_or, sum_by}
use mathlib.Core.List.{IsPrefix}
use Rattle.eb_base.specs.Document.{Doc}
use Rattle.eb_base.specs.Query.{Tree}
use Rattle.eb_base.specs.Match.{answer}
use Rattle.eb_base.specs.Setting.{Setting}
use Rattle.eb_place.specs.declared.moment.Moment.{Moment}
use Rattle.eb_place.specs.Room.{cut}

-- how many documents come before this segment
abbrev pub documents_before : List (List Doc) → ℕ → ℕ
documents_before segs s = sum_by length (take s segs)

-- these documents lie in the first `begun` segments, and each of these has here the number of its
-- first document plus 1
pub record AreFirsts (σ : Setting) (docs : List Doc) (firsts : List ℕ) (begun : ℕ) : Type 0 where
  pub all : begun ≡ length (cut σ docs)
  pub each : (s : ℕ) → s < begun → get_or firsts s 0 ≡ documents_before (cut σ docs) s + 1

-- so it is for the first documents that are accepted at a moment
pub record AreVisible (m : Moment) (docs : List Doc) (firsts : List ℕ) (begun : ℕ) : Type 0 where
  pub accepted : IsPrefix docs m.documents.accepted
  pub words : AreFirsts m.setting docs firsts begun

-- at some moment that the port stands for, this many documents are accepted, and their segments are
-- known
abbrev pub CanWalk : {S : Type 0} → (S → Moment → Type 0) → S → ℕ → List ℕ → ℕ → Type 0
CanWalk stands s count firsts begun = (m : Moment) × (docs : List Doc) × stands s m × (length docs ≡ count) × AreVisible m docs firsts begun

-- no document matches of a segment of which the list says false
abbrev pub AreNone : Tree → List (List Doc) → List Bool → Type 0
AreNone q segs likely = (s k : ℕ) → get_or likely s true ≡ false → answer q k (get_or segs s []) ≡ []
