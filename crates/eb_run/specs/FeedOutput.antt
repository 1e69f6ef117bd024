-- What a feed prints for the bytes of an input.
use Rattle.eb_fields.specs.Dialect.{Dialect}
use Rattle.std.specs.Prelude.{ℕ, List, [], length, Option, None, if◌then◌else◌}
use Rattle.run_store.specs.Rules.{Rules, plain_rules, is_bad, AreRead}
use Rattle.run_store.specs.Sees.{exactly, at_least}
use Rattle.run_store.specs.Text.{IsText, EndsOf, WroteOf, MeansOf}
use Rattle.eb_base.specs.Document.{Doc}
use Rattle.eb_base.specs.Setting.{Setting}
use Rattle.eb_feed.specs.Generations.{generations, kept, kept_segments}
use Rattle.eb_io.specs.Lines.{Line, lines_of}
use Rattle.eb_lines.specs.declared.form.Form.{Form}
use Rattle.eb_lines.specs.declared.form.Tail.{Tail}
use Rattle.eb_lines.specs.declared.form.Tail.TheVariants.{Kept, Generations}
use Rattle.eb_lines.specs.declared.status.Status.{Status}
use Rattle.eb_lines.specs.Reading.{Reading}
use Rattle.feed_with_workers.specs.FeedRules.{workers_rules}
use Rattle.eb_run.specs.RunRules.{RunRules}
use Rattle.eb_watch.specs.Watches.{Watched}
use Rattle.eb_run.specs.declared.feed.command.FeedCommand.{FeedCommand}
use Rattle.eb_run.specs.declared.feed.command.FeedWay.{FeedWay}
use Rattle.eb_run.specs.declared.feed.command.FeedWay.TheVariants.{InOrder, Watches, Overlap, Workers}
use Rattle.run_with_watches.specs.Others.{ReadsOther}
use Rattle.run_with_watches.specs.WatchRules.{with_watches}

-- what is printed at last: how many documents are kept, and where the form says so the segments of
-- the generations that keep them, of which none is converted, and how many generations were begun
abbrev pub feed_tail : Setting → ℕ → Form → List Doc → Tail
feed_tail σ keep form docs =
    if form.stats then Generations (length (kept σ keep docs)) (kept_segments σ keep docs) 0 (length (generations σ docs)) else Kept (length (kept σ keep docs))

-- a feed that keeps this many generations of an index of this setting, where lines are read by this
-- dialect, refuses no document, and answers over what it keeps
abbrev pub feed_rules : Dialect → Setting → ℕ → Form → Rules (Unit {0})
feed_rules how σ keep form = plain_rules how [] (λ docs d. None) (kept σ keep) form (feed_tail σ keep form)

-- the rules with watches, where lines are read by this dialect
abbrev pub rules_of : Dialect → FeedCommand → Rules (Unit {0})
rules_of how c = feed_rules how c.config c.keep c.form

-- the rules with workers
abbrev pub workers_of : Dialect → FeedCommand → Rules (Unit {0})
workers_of how c = workers_rules how c.config c.keep c.form

-- by which rules the lines of a feed are processed in this way
abbrev pub fed_rules : Dialect → FeedCommand → FeedWay → RunRules
fed_rules how c InOrder = record { Held = Unit {0}; other = is_bad; way = exactly; rules = rules_of how c }
fed_rules how c Watches = record { Held = List Watched; other = ReadsOther; way = exactly; rules = with_watches (rules_of how c) }
fed_rules how c Overlap = record { Held = Unit {0}; other = is_bad; way = exactly; rules = rules_of how c }
fed_rules how c (Workers n) = record { Held = Unit {0}; other = is_bad; way = at_least; rules = workers_of how c }

-- the lines come to these
abbrev pub AreFed : FeedWay → Dialect → FeedCommand → List Line → List Reading → Type 0
AreFed way how c = let r = fed_rules how c way in AreRead r.other r.rules

-- the whole text of these lines
abbrev pub IsTextFed : FeedWay → Dialect → FeedCommand → List Line → List ℕ → Type 0
IsTextFed way how c = let r = fed_rules how c way in IsText r.other r.way r.rules

-- how a feed whose lines are processed in this way ends, by what was left and taken before and
-- after
abbrev pub EndsFed : FeedWay → Dialect → FeedCommand → Status → (l0 l1 p0 p1 : Option (List ℕ)) → Type 0
EndsFed way how c = let r = fed_rules how c way in EndsOf r.other r.way r.rules

-- ---- of what the words ask for

-- the text of an input of these bytes
abbrev pub IsFeedOutput : Dialect → FeedCommand → List ℕ → List ℕ → Type 0
IsFeedOutput how c bytes printed = IsTextFed c.way how c (lines_of bytes) printed

-- how a feed ends
abbrev pub EndsFeed : Dialect → FeedCommand → Status → (l0 l1 p0 p1 : Option (List ℕ)) → Type 0
EndsFeed how c = EndsFed c.way how c

-- what a feed that ends so has printed, of an input of these bytes of which this is left
abbrev pub WroteFeed : Dialect → FeedCommand → Status → List ℕ → Option (List ℕ) → List ℕ → Type 0
WroteFeed how c = let r = fed_rules how c c.way in WroteOf r.other r.way r.rules

-- what a status says of an input of these bytes of which this is left, whatever became of the
-- output
abbrev pub FeedMeans : Dialect → FeedCommand → Status → List ℕ → Option (List ℕ) → Type 0
FeedMeans how c = let r = fed_rules how c c.way in MeansOf r.other r.rules
