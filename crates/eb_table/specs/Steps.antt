-- What each kind of step does to what its seat knows.
use Rattle.std.specs.Prelude.{◌≡◌, ℕ, ◌&&◌, cond}
use Rattle.atomic_table.specs.Table.{Me, Step}
use Rattle.eb_base.specs.Document.{Doc}
use Rattle.eb_place.specs.declared.moment.Moment.{Moment}
use Rattle.eb_place.specs.Moments.{word, IsMoment, empty_moment}
use Rattle.eb_place.specs.Later.{IsNotBefore}
use Rattle.eb_place.specs.NextStores.{after_store, after_put}
use Rattle.eb_place.specs.Meets.{later_documents, later_conversions, later_of}
use Rattle.eb_table.specs.declared.view.View.{View}
use Rattle.eb_table.specs.declared.view.View.TheVariants.{Opening, Writer, Converter, Reader, Spent}
use Rattle.eb_table.specs.Rule.{no_setting, moment_of}
use Rattle.eb_table.specs.InLine.{is_reached, in_line, is_packed_reached, unreal}

-- a seat of this kind that knows this moment
abbrev pub at_moment : View → Moment → View
at_moment (Opening m) n = Opening n
at_moment (Writer m) n = Writer n
at_moment (Converter m) n = Converter n
at_moment (Reader m) n = Reader n
at_moment Spent n = Spent

-- ---- load

-- a writer's load leaves the documents part, a converter's the conversion part
abbrev pub Leaves : View → Moment → Type 0
Leaves (Writer m) n = n.documents ≡ m.documents
Leaves (Converter m) n = n.conversions ≡ m.conversions
Leaves v n = Unit {0}

-- the load found the word of moment n, which is not before the one known
pub record IsLoaded (v : View) (place found : ℕ) (n : Moment) : Type 0 where
  pub later : IsNotBefore n (moment_of v)
  pub leaves : Leaves v n
  pub moment : IsMoment n
  pub value : found ≡ word n place

abbrev pub LoadedWord : Step (Unit {0}) → Me (Unit {0}) View → ℕ → Me (Unit {0}) View → Type 0
LoadedWord s me found new = (n : Moment) × (new ≡ (at_moment me.0 n, me.1)) × IsLoaded me.0 s.word found n

-- ---- confirmation

-- the seat knows what it knew, and this is a moment that the words were at or are before
abbrev pub Confirmed : Step (Unit {0}) → Me (Unit {0}) View → ℕ → Me (Unit {0}) View → Type 0
Confirmed s me found new = (new ≡ me) × (n : Moment) × IsMoment n × IsNotBefore n (moment_of me.0)

-- ---- the writer's store, and the converter's

abbrev pub Stored : Doc → Step (Unit {0}) → Me (Unit {0}) View → ℕ → Me (Unit {0}) View → Type 0
Stored d s me found new = new ≡ (Writer (after_store (moment_of me.0) d), me.1)

abbrev pub Put : Step (Unit {0}) → Me (Unit {0}) View → ℕ → Me (Unit {0}) View → Type 0
Put s me found new = new ≡ (Converter (after_put (moment_of me.0)), me.1)

-- ---- split

-- the first seat becomes the writer's, and the new one the converter's; any other seat stays, and
-- the new one is a reader's
abbrev pub left_of : View → View
left_of (Opening m) = Writer m
left_of v = v

abbrev pub right_of : View → View
right_of (Opening m) = Converter m
right_of Spent = Spent
right_of v = Reader (moment_of v)

-- ---- join

-- the least moment after both, where they lie on one history; else one that no words have
abbrev pub met_moment : View → Moment → Moment
met_moment (Writer m) n = cond (is_reached n.documents m.documents)
    (record { setting = m.setting; documents = m.documents; conversions = later_conversions m.conversions n.conversions }) (unreal m.setting)
met_moment (Converter m) n = cond (in_line m.documents n.documents && is_packed_reached n.conversions m.conversions)
    (record { setting = m.setting; documents = later_documents m.documents n.documents; conversions = m.conversions }) (unreal m.setting)
met_moment (Reader m) n = cond (in_line m.documents n.documents) (later_of m n) (unreal m.setting)
met_moment (Opening m) n = m
met_moment Spent n = empty_moment no_setting

abbrev pub met : View → View → View
met v w = at_moment v (met_moment v (moment_of w))
