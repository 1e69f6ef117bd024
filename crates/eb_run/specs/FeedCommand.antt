-- What the words of a command line ask of a feed; they are without the program's name and the word
-- `feed`.
use Rattle.eb_fields.specs.Dialect.{Dialect}
use Rattle.std.specs.Prelude.{◌≡◌, ℕ, ◌+◌, ◌*◌, ◌^◌, ◌≤◌, ◌&&◌, Bool, true, false, List, [], ◌∷◌, ◌++◌, codes, nat_le, Option, Some, None, unwrap_or, if◌then◌else◌, option_and_then, option_map}
use Rattle.eb_base.specs.Setting.{Setting, words_of}
use Rattle.eb_lines.specs.declared.form.Form.{Form}
use Rattle.eb_options.specs.Items.{Items, has, items_of, option_number}
use Rattle.eb_options.specs.Settings.{setting_of, setting_options}
use Rattle.eb_run.specs.declared.feed.command.FeedCommand.{FeedCommand}
use Rattle.eb_run.specs.declared.feed.command.FeedWay.{FeedWay}
use Rattle.eb_run.specs.declared.feed.command.FeedWay.TheVariants.{InOrder, Watches, Overlap, Workers}
use Rattle.eb_run.specs.Command.{DialectApart, dialect_apart, text_options, form_of, is_few}

-- the flags of a feed, and its options: how many workers it has, how many generations it keeps, and
-- those of their setting
abbrev pub feed_flags : List (List ℕ)
feed_flags = codes "overlap" ∷ codes "watch" ∷ codes "json" ∷ codes "stats" ∷ codes "counts" ∷ []

abbrev pub feed_options : List (List ℕ)
feed_options = codes "workers" ∷ codes "keep" ∷ setting_options

-- a feed keeps 2 to 64 generations, and has at most as many words as an index may have, with the
-- one that is emptied
abbrev pub is_feed : ℕ → Setting → Bool
is_feed keep σ = nat_le 2 keep && (nat_le keep 64 && nat_le ((keep + 1) * words_of σ) (2 ^ 27))

-- the way with this many workers
abbrev pub way_with : ℕ → Option FeedWay
way_with n = if is_few n then Some (Workers n) else None

-- at most one of overlap, watches and workers, and no statistics with workers
abbrev pub way_by : Bool → Bool → Option ℕ → Bool → Option FeedWay
way_by false false None stats = Some InOrder
way_by false true None stats = Some Watches
way_by true false None stats = Some Overlap
way_by false false (Some n) false = way_with n
way_by overlap watch workers stats = None

abbrev pub way_of : Items → Option FeedWay
way_of items = way_by (has (codes "overlap") items) (has (codes "watch") items) (option_number (codes "workers") items) (has (codes "stats") items)

-- where there are workers, they are 1 to 16
abbrev pub HasFewWorkers : FeedWay → Type 0
HasFewWorkers InOrder = Unit {0}
HasFewWorkers Watches = Unit {0}
HasFewWorkers Overlap = Unit {0}
HasFewWorkers (Workers n) = (1 ≤ n) × (n ≤ 16)

-- the feed that keeps this many generations of this setting, if it is allowed: in this form and
-- this way
abbrev pub feed_of : ℕ → Form → FeedWay → Setting → Option FeedCommand
feed_of keep form way σ = if is_feed keep σ then Some (record { keep = keep; way = way; form = form; config = σ }) else None

-- the feed that the items ask for; 4 generations where they don't say otherwise
abbrev pub feed_with : Items → Option FeedCommand
feed_with items = option_and_then (λ way. option_and_then (feed_of (unwrap_or (option_number (codes "keep") items) 4) (form_of items) way) (setting_of items)) (way_of items)

-- a feed, and whether its lines may ask for counts
pub record FeedCounting : Type 0 where
  pub counts : Bool
  pub command : FeedCommand

abbrev pub feed_counting : Bool → FeedCommand → FeedCounting
feed_counting counts c = record { counts = counts; command = c }

-- the feed that the words ask for, without how its lines are read: its flags and options in any
-- order, each at most once
abbrev pub feed_command_of : List (List ℕ) → Option FeedCounting
feed_command_of words = option_and_then (λ items. option_map (feed_counting (has (codes "counts") items)) (feed_with items)) (items_of feed_flags feed_options words)

-- what words ask for: how lines are read, and a feed
pub record FeedAsks : Type 0 where
  pub dialect : Dialect
  pub command : FeedCommand

abbrev pub feed_asks : Dialect → FeedCounting → FeedAsks
feed_asks how c = record { dialect = record how { counts = c.counts }; command = c.command }

abbrev pub feed_asked_of : List (List ℕ) → Option FeedAsks
feed_asked_of words =
    option_and_then (λ (a : DialectApart). option_map (feed_asks a.dialect) (feed_command_of a.others)) (dialect_apart (text_options ++ feed_options) words)

-- the words ask for this feed, of which lines are read so
abbrev pub AsksFeed : List (List ℕ) → Dialect → FeedCommand → Type 0
AsksFeed words how command = feed_asked_of words ≡ Some (record { dialect = how; command = command })
