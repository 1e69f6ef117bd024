use Rattle.eb_fields.specs.Dialect.{dialect_of}
use Rattle.std.proofs.Common.{[], refl}
use Rattle.run_store.specs.Sees.{exactly}
use Rattle.run_store.proofs.Taking.{ends_none}
use Rattle.run_index.proofs.Indexes.{indexed_none}
use Rattle.run_index.specs.IndexRules.{index_rules}
use Rattle.run_with_watches.specs.Others.{ReadsOther}
use Rattle.run_with_watches.specs.WatchRules.{watch_rules}
use Rattle.run_with_watches.proofs.run.run_watches.Goals as goal

pub returns-in_default-clause-ends : goal.returns-in_default-clause-ends
returns-in_default-clause-ends g c = ends_none ReadsOther exactly (watch_rules (dialect_of c.args.plan.now.dialect) c.args.plan.now.config c.args.plan.now.form) _ _

pub answer_watched-requires : goal.answer_watched-requires
answer_watched-requires g c = (
  index_rules (dialect_of c.args.plan.now.dialect) c.args.plan.now.config c.args.plan.now.form [],
  refl,
  indexed_none c.in-Ok.indexed
      (dialect_of c.args.plan.now.dialect) c.args.plan.now.config c.args.plan.now.form [] c.in-Ok.ensures.holds c.in-Ok.ensures.form,
)

pub returns-clause-ends : goal.returns-clause-ends
returns-clause-ends g c =
    c.answer_watched.ensures.ends (index_rules (dialect_of c.args.plan.now.dialect) c.args.plan.now.config c.args.plan.now.form []) refl
    (indexed_none c.in-Ok.indexed (dialect_of c.args.plan.now.dialect) c.args.plan.now.config c.args.plan.now.form [] c.in-Ok.ensures.holds c.in-Ok.ensures.form)
