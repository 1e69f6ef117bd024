-- What holds of the text that a feed prints, over the definitions alone.
use Rattle.eb_fields.specs.Dialect.{Dialect}
use Rattle.std.specs.Prelude.{◌≡◌, ℕ, false, List}
use Rattle.std.specs.List.{AllByRecursion}
use Rattle.eb_io.specs.Lines.{Line}
use Rattle.eb_lines.specs.declared.refusal.Refusal.TheVariants.{Full}
use Rattle.eb_lines.specs.Reading.{Reading, refused}
use Rattle.eb_run.specs.declared.feed.command.FeedCommand.{FeedCommand}
use Rattle.eb_run.specs.declared.feed.command.FeedWay.{FeedWay}
use Rattle.eb_run.specs.declared.feed.command.FeedWay.TheVariants.{InOrder, Watches, Overlap, Workers}
use Rattle.eb_run.specs.FeedOutput.{AreFed, IsTextFed, IsFeedOutput}

-- each input has a text, however lines are read and whatever feed is asked for
abbrev pub SomeFeedText : Type 0
SomeFeedText = (how : Dialect) (c : FeedCommand) (bytes : List ℕ) → (printed : List ℕ) × IsFeedOutput how c bytes printed

-- the text doesn't depend on how fast workers answer
abbrev pub IsSettledWay : FeedWay → Type 0
IsSettledWay InOrder = Unit {0}
IsSettledWay Watches = Unit {0}
IsSettledWay Overlap = Unit {0}
IsSettledWay (Workers n) = ⊥

-- and no other without workers
abbrev pub OneFeedText : Type 0
OneFeedText = (how : Dialect) (c : FeedCommand) (bytes a b : List ℕ) → IsSettledWay c.way → IsFeedOutput how c bytes a → IsFeedOutput how c bytes b → a ≡ b

-- the text of lines that are processed one after the other is one of those with workers
abbrev pub OrderFeedText : Type 0
OrderFeedText = (how : Dialect) (c : FeedCommand) (n : ℕ) (lines : List Line) (printed : List ℕ) → c.form.stats ≡ false
    → IsTextFed InOrder how c lines printed → IsTextFed (Workers n) how c lines printed

-- no line comes to one that is refused as full
abbrev pub NeverFull : Type 0
NeverFull = (how : Dialect) (c : FeedCommand) (lines : List Line) (rs : List Reading) → AreFed c.way how c lines rs → AllByRecursion (λ r. r ≡ refused Full → ⊥) rs
