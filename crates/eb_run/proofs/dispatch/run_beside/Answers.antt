use Rattle.eb_fields.specs.Dialect.{dialect_of}
use Rattle.std.proofs.Common.{rules}
use Rattle.run_store.specs.Rules.{is_bad}
use Rattle.run_store.specs.Sees.{between}
use Rattle.run_store.proofs.Taking.{ends_none}
use Rattle.run_index.specs.IndexRules.{rules_of}
use Rattle.eb_run.specs.Running.{asked}
use Rattle.eb_run.proofs.dispatch.run_beside.Goals as goal

pub returns-in_default-clause-ends : goal.returns-in_default-clause-ends
returns-in_default-clause-ends g c = ends_none is_bad between (rules_of (dialect_of c.args.plan.now.dialect) c.args.plan.now) _ _

pub returns-clause-ends : goal.returns-clause-ends
returns-clause-ends g c = c.pass_lines.ensures.ends (asked (dialect_of c.args.plan.now.dialect) c.args.plan.now.config c.args.plan.now.form) (search rules)
