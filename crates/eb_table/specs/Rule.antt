-- The rule of the shared words: what holds between any two stores, whichever thread makes them.
--
-- The words are the image of one moment, which says how many stores of documents and of conversions
-- are done. So what is proved of the words that one thread holds (`eb_flat`) serves here too, and
-- no region of the words has an invariant of its own.
--
-- Each seat knows a moment, and the words never fall behind it. The writer alone stores documents,
-- so it knows that part of the moment exactly; the converter knows the part of conversions. A
-- reader knows the least that it has seen: moments only grow, so each load finds a word of a moment
-- that isn't before the one that the reader knows.
--
-- A seat that meets another then knows the least moment that isn't before what either knew. One
-- that is split off knows what the other knows.
--
-- Rejected: an invariant for each region of the words, which says everything twice.
use Rattle.std.specs.Prelude.{◌≡◌, ℕ, ◌⊎◌, List, [], ◌∷◌}
use mathlib.Core.Option.{some}
use lib.ListN.{get_elem?}
use Rattle.atomic_table.specs.Table.{State}
use Rattle.eb_base.specs.Setting.{Setting}
use Rattle.eb_place.specs.declared.moment.Moment.{Moment}
use Rattle.eb_place.specs.Moments.{image, IsMoment, empty_moment}
use Rattle.eb_place.specs.Later.{IsNotBefore}
use Rattle.eb_table.specs.declared.view.View.{View}
use Rattle.eb_table.specs.declared.view.View.TheVariants.{Opening, Writer, Converter, Reader, Spent}

-- the setting of no index
abbrev pub no_setting : Setting
no_setting = record { segments = 0; docs = 0; terms = 0 }

-- the moment that a seat knows
abbrev pub moment_of : View → Moment
moment_of (Opening m) = m
moment_of (Writer m) = m
moment_of (Converter m) = m
moment_of (Reader m) = m
moment_of Spent = empty_moment no_setting

-- it may load
abbrev pub IsLive : View → Type 0
IsLive (Opening m) = ⊥
IsLive (Writer m) = Unit {0}
IsLive (Converter m) = Unit {0}
IsLive (Reader m) = Unit {0}
IsLive Spent = ⊥

-- it is not spent
abbrev pub IsUnspent : View → Type 0
IsUnspent Spent = ⊥
IsUnspent v = Unit {0}

-- what seat number `by` may know, where `whole` is the moment of the words, and these are the
-- numbers of the writer's and the converter's seats: no moment after it; the writer all of its
-- documents part; the converter all of its conversion part
abbrev pub MayKnow : ℕ → ℕ → Moment → ℕ → View → Type 0
MayKnow w c whole by (Opening m) = ⊥
MayKnow w c whole by (Writer m) = (by ≡ w) × (m.documents ≡ whole.documents) × IsNotBefore whole m
MayKnow w c whole by (Converter m) = (by ≡ c) × (m.conversions ≡ whole.conversions) × IsNotBefore whole m
MayKnow w c whole by (Reader m) = IsNotBefore whole m
MayKnow w c whole by Spent = Unit {0}

-- one writer, one converter, and readers
pub record Running (whole : Moment) (views : List View) : Type 0 where
  pub writer : ℕ
  pub converter : ℕ
  pub writes : (m : Moment) × (get_elem? views writer ≡ some (Writer m))
  pub converts : (m : Moment) × (get_elem? views converter ≡ some (Converter m))
  pub each : (by : ℕ) (v : View) → get_elem? views by ≡ some v → MayKnow writer converter whole by v

-- the rule: the words are the image of a moment of the setting. Either the one seat is opening and
-- the moment is the empty one, or there are one writer, one converter and readers, none of which
-- knows a moment after that of the words
pub record KeepsWords (σ : Setting) (s : State (Unit {0}) View) : Type 0 where
  pub whole : Moment
  pub setting : whole.setting ≡ σ
  pub moment : IsMoment whole
  pub words : s.words ≡ image whole
  pub views : ((s.views ≡ Opening (empty_moment σ) ∷ []) × (whole ≡ empty_moment σ)) ⊎ Running whole s.views
