use Rattle.eb_fields.specs.Dialect.{dialect_of}
use Rattle.run_store.specs.Rules.{is_bad}
use Rattle.run_store.specs.Sees.{at_least}
use Rattle.run_store.proofs.Taking.{ends_none}
use Rattle.run_index.specs.IndexRules.{rules_of}
use Rattle.run_with_workers.proofs.run.run_workers.Goals as goal

pub returns-in_default-clause-ends : goal.returns-in_default-clause-ends
returns-in_default-clause-ends g c = ends_none is_bad at_least (rules_of (dialect_of c.args.plan.now.dialect) c.args.plan.now) _ _

pub returns-in_default-open-clause-ends : goal.returns-in_default-open-clause-ends
returns-in_default-open-clause-ends g c = ends_none is_bad at_least (rules_of (dialect_of c.args.plan.now.dialect) c.args.plan.now) _ _
