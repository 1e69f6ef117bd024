use Rattle.eb_fields.specs.Dialect.{dialect_of}
use Rattle.std.proofs.Common.{refl}
use Rattle.run_store.specs.Rules.{is_bad}
use Rattle.run_store.specs.Sees.{exactly}
use Rattle.run_store.proofs.Taking.{ends_none}
use Rattle.run_over_parts.specs.Texts.{parts_rules}
use Rattle.run_over_parts.proofs.run.run_parts.Goals as goal

pub returns-in_default-clause-ends : goal.returns-in_default-clause-ends
returns-in_default-clause-ends g c = ends_none is_bad exactly (parts_rules (dialect_of c.args.plan.now.dialect) c.args.parts c.args.plan.now.config c.args.plan.now.form) _ _

pub answer_lines-requires : goal.answer_lines-requires
answer_lines-requires g c = (parts_rules (dialect_of c.args.plan.now.dialect) c.args.parts c.args.plan.now.config c.args.plan.now.form, refl, c.in-Ok.ensures (dialect_of c.args.plan.now.dialect))

pub answer_lines_ahead-requires-clause-store : goal.answer_lines_ahead-requires-clause-store
answer_lines_ahead-requires-clause-store g c κs within = (
  parts_rules (dialect_of c.args.plan.now.dialect) c.args.parts c.args.plan.now.config c.args.plan.now.form,
  refl,
  c.in-Ok.ensures (dialect_of c.args.plan.now.dialect),
)
