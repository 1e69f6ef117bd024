use Rattle.eb_fields.specs.Dialect.{dialect_of}
use Rattle.std.proofs.Common.{[], refl}
use Rattle.run_store.specs.Rules.{is_bad}
use Rattle.run_store.specs.Sees.{exactly}
use Rattle.run_store.proofs.Taking.{ends_none}
use Rattle.run_index.proofs.Indexes.{indexed_none}
use Rattle.run_index.specs.IndexRules.{rules_of}
use Rattle.eb_run.proofs.dispatch.run_in_order.Goals as goal

pub returns-in_default-clause-ends : goal.returns-in_default-clause-ends
returns-in_default-clause-ends g c = ends_none is_bad exactly (rules_of (dialect_of c.args.plan.now.dialect) c.args.plan.now) _ _

pub answer_lines-requires : goal.answer_lines-requires
answer_lines-requires g c =
    let p = c.args.plan.now in
    (rules_of (dialect_of p.dialect) p, refl, indexed_none c.in-Ok.indexed (dialect_of p.dialect) p.config p.form [] c.in-Ok.ensures.holds c.in-Ok.ensures.form)

pub returns-clause-ends : goal.returns-clause-ends
returns-clause-ends g c =
    let p = c.args.plan.now in
    c.answer_lines.ensures.ends (rules_of (dialect_of p.dialect) p) refl
    (indexed_none c.in-Ok.indexed (dialect_of p.dialect) p.config p.form [] c.in-Ok.ensures.holds c.in-Ok.ensures.form)
