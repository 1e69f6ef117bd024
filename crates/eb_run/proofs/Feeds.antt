-- A feed by the way in which its lines are processed.
use Rattle.eb_fields.specs.Dialect.{Dialect}
use Rattle.std.proofs.Common.{◌≡◌, ℕ, List, Option, sym, subst}
use Rattle.run_store.specs.Rules.{is_bad}
use Rattle.run_store.specs.Sees.{exactly, at_least}
use Rattle.run_store.proofs.OneText.{one_text_of, some_text_of, one_bad, some_bad}
use Rattle.run_store.proofs.Taking.{ends_none}
use Rattle.eb_io.specs.Lines.{Line}
use Rattle.eb_lines.specs.declared.status.Status.{Status}
use Rattle.eb_lines.specs.declared.status.Status.TheVariants.{NoMemory}
use Rattle.eb_run.specs.declared.feed.command.FeedCommand.{FeedCommand}
use Rattle.eb_run.specs.declared.feed.command.FeedWay.{FeedWay}
use Rattle.eb_run.specs.declared.feed.command.FeedWay.TheVariants.{InOrder, Watches, Overlap, Workers}
use Rattle.eb_run.specs.FeedLaws.{IsSettledWay}
use Rattle.eb_run.specs.FeedOutput.{rules_of, workers_of, fed_rules, IsTextFed, EndsFed}
use Rattle.run_with_watches.proofs.OtherLines.{one_other, some_other}
use Rattle.run_with_watches.specs.Others.{ReadsOther}
use Rattle.run_with_watches.specs.WatchRules.{with_watches}

pub ended : (v w : FeedWay) (how : Dialect) (c : FeedCommand) (s : Status) (l0 l1 p0 p1 : Option (List ℕ)) → v ≡ w → EndsFed w how c s l0 l1 p0 p1
    → EndsFed v how c s l0 l1 p0 p1
ended v w how c s l0 l1 p0 p1 same e = subst (λ (x : FeedWay). EndsFed x how c s l0 l1 p0 p1) (sym same) e

-- where nothing was read
pub fed_none : (w : FeedWay) (how : Dialect) (c : FeedCommand) (left printed : Option (List ℕ)) → EndsFed w how c NoMemory left left printed printed
fed_none w how c left printed = let r = fed_rules how c w in ends_none r.other r.way r.rules left printed

-- lines have one text
pub one_fed : (w : FeedWay) (how : Dialect) (c : FeedCommand) (lines : List Line) (x y : List ℕ) → IsSettledWay w → IsTextFed w how c lines x → IsTextFed w how c lines y → x ≡ y
one_fed InOrder how c lines x y settled = one_text_of is_bad one_bad (rules_of how c) lines x y
one_fed Watches how c lines x y settled = one_text_of ReadsOther one_other (with_watches (rules_of how c)) lines x y
one_fed Overlap how c lines x y settled = one_text_of is_bad one_bad (rules_of how c) lines x y
one_fed (Workers n) how c lines x y settled = absurd settled

pub some_fed : (w : FeedWay) (how : Dialect) (c : FeedCommand) (lines : List Line) → (printed : List ℕ) × IsTextFed w how c lines printed
some_fed InOrder how c lines = some_text_of is_bad some_bad exactly (rules_of how c) lines
some_fed Watches how c lines = some_text_of ReadsOther some_other exactly (with_watches (rules_of how c)) lines
some_fed Overlap how c lines = some_text_of is_bad some_bad exactly (rules_of how c) lines
some_fed (Workers n) how c lines = some_text_of is_bad some_bad at_least (workers_of how c) lines
