use Rattle.eb_fields.specs.Dialect.{dialect_of}
use Rattle.run_store.specs.Rules.{is_bad}
use Rattle.run_store.specs.Sees.{at_least}
use Rattle.run_store.proofs.Taking.{ends_none}
use Rattle.feed_with_workers.specs.FeedRules.{workers_rules}
use Rattle.feed_with_workers.proofs.run.run_feed_workers.Goals as goal

pub returns-in_default-clause-ends : goal.returns-in_default-clause-ends
returns-in_default-clause-ends g c =
    ends_none is_bad at_least (workers_rules (dialect_of c.args.plan.now.lines.dialect) c.args.plan.now.lines.config c.args.plan.now.keep c.args.plan.now.lines.form) _ _

pub returns-in_default-open-clause-ends : goal.returns-in_default-open-clause-ends
returns-in_default-open-clause-ends g c =
    ends_none is_bad at_least (workers_rules (dialect_of c.args.plan.now.lines.dialect) c.args.plan.now.lines.config c.args.plan.now.keep c.args.plan.now.lines.form) _ _
