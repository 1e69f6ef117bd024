-- No line comes to one that is refused as full, in whichever way a feed processes its lines.
use Rattle.eb_fields.specs.Dialect.{Dialect}
use Rattle.std.proofs.Common.{◌≡◌, ℕ, Bool, true, false, List, Option, Some, None, refl}
use Rattle.std.specs.Prelude.{◌==◌, if◌then◌else◌, length}
use Rattle.std.specs.List.{AllByRecursion}
use Rattle.run_store.specs.Rules.{is_bad}
use Rattle.run_store.proofs.NeverFull.{of_bad, none_full}
use Rattle.eb_base.specs.Query.{Tree}
use Rattle.eb_query.specs.Reading.{asks, bad_number, bad_query, too_deep, too_many_nodes}
use Rattle.eb_query.specs.WatchLine as outcome
use Rattle.eb_query.specs.declared.ask.Ask.TheVariants.{Newest, Counts}
use Rattle.eb_lines.specs.declared.refusal.Refusal.TheVariants.{Full, NoWatch, WatchTaken, WatchesFull}
use Rattle.eb_lines.specs.Reading.{refused}
use Rattle.eb_run.specs.declared.feed.command.FeedWay.{FeedWay}
use Rattle.eb_run.specs.declared.feed.command.FeedWay.TheVariants.{InOrder, Watches, Overlap, Workers}
use Rattle.eb_run.specs.FeedLaws.{NeverFull}
use Rattle.eb_run.specs.FeedOutput.{AreFed, rules_of, workers_of}
use Rattle.eb_watch.specs.Watches.{Watched, is_set}
use Rattle.run_with_watches.specs.Others.{is_watch_line, of_watch_line, ReadsOtherBy, ReadsOther}
use Rattle.run_with_watches.specs.WatchRules.{watch_refusal, with_watches}

of_watch : (o : outcome.WatchOutcome) → refused Full ≡ of_watch_line o → ⊥
of_watch (outcome.removes n) e = (cc e)
of_watch (outcome.reads (asks (Newest n) q)) e = (cc e)
of_watch (outcome.reads (asks (Counts start width number) q)) e = (cc e)
of_watch (outcome.reads bad_number) e = (cc e)
of_watch (outcome.reads (bad_query column)) e = (cc e)
of_watch (outcome.reads too_deep) e = (cc e)
of_watch (outcome.reads too_many_nodes) e = (cc e)

of_other : (how : Dialect) (bytes : List ℕ) → ReadsOther how bytes (refused Full) → ⊥
of_other how bytes e = go (is_watch_line bytes) e
  where
    go : (t : Bool) → ReadsOtherBy how t bytes (refused Full) → ⊥
    go true e = of_watch e.0 e.2
    go false e = (cc e)

-- ---- what watch lines come to

sets : (taken full : Bool) → (if taken then Some WatchTaken else (if full then Some WatchesFull else None)) ≡ Some Full → ⊥
sets true full e = (cc e)
sets false true e = (cc e)
sets false false e = (cc e)

removes : (there : Bool) → (if there then None else Some NoWatch) ≡ Some Full → ⊥
removes true e = (cc e)
removes false e = (cc e)

watch_none : (ws : List Watched) (n : ℕ) (q : Option Tree) → watch_refusal ws n q ≡ Some Full → ⊥
watch_none ws n None e = removes (is_set ws n) e
watch_none ws n (Some q) e = sets (is_set ws n) (length ws == 10000) e

-- ---- by the way in which the lines are processed

pub never_full : NeverFull
never_full how c lines rs read = go c.way read
  where
    go : (w : FeedWay) → AreFed w how c lines rs → AllByRecursion (λ r. r ≡ refused Full → ⊥) rs
    go InOrder read = none_full is_bad of_bad (rules_of how c) (λ docs d. refl) (λ ws n q e. (cc e)) lines rs read
    go Watches read = none_full ReadsOther of_other (with_watches (rules_of how c)) (λ docs d. refl) watch_none lines rs read
    go Overlap read = none_full is_bad of_bad (rules_of how c) (λ docs d. refl) (λ ws n q e. (cc e)) lines rs read
    go (Workers n) read = none_full is_bad of_bad (workers_of how c) (λ docs d. refl) (λ ws n q e. (cc e)) lines rs read
