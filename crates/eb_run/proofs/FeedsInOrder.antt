-- What a feed prints whose lines are processed one after the other may be printed with workers.
use Rattle.eb_fields.specs.Dialect.{Dialect}
use Rattle.std.proofs.Common.{◌≡◌, ℕ, Bool, false, List, [], None, length, ap, subst}
use Rattle.std.specs.Prelude.{if◌then◌else◌}
use Rattle.run_store.specs.Rules.{Rules, plain_rules, is_bad}
use Rattle.run_store.specs.Sees.{exactly, at_least}
use Rattle.run_store.specs.Text.{IsText}
use Rattle.run_store.proofs.OneText.{order_text_of}
use Rattle.eb_feed.specs.Generations.{generations, kept, kept_segments}
use Rattle.eb_io.specs.Lines.{Line}
use Rattle.eb_lines.specs.declared.form.Tail.TheVariants.{Kept, Generations}
use Rattle.eb_run.specs.declared.feed.command.FeedCommand.{FeedCommand}
use Rattle.eb_run.specs.FeedOutput.{rules_of, workers_of}

-- where the segments aren't told, a feed goes by the same rules
same_rules : (how : Dialect) (c : FeedCommand) → c.form.stats ≡ false → rules_of how c ≡ workers_of how c
same_rules how c none =
    let keeps = kept c.config c.keep in
    ap (λ (t : Bool). plain_rules how [] (λ docs d. None) keeps c.form
    (λ docs. if t then Generations (length (keeps docs)) (kept_segments c.config c.keep docs) 0 (length (generations c.config docs)) else Kept (length (keeps docs)))) none

pub text_with_workers : (how : Dialect) (c : FeedCommand) (lines : List Line) (printed : List ℕ) → c.form.stats ≡ false → IsText is_bad exactly (rules_of how c) lines printed
    → IsText is_bad at_least (workers_of how c) lines printed
text_with_workers how c lines printed none t =
    order_text_of is_bad at_least (workers_of how c) lines printed (subst (λ (r : Rules (Unit {0})). IsText is_bad exactly r lines printed) (same_rules how c none) t)
