use Rattle.eb_fields.specs.Dialect.{dialect_of}
use Rattle.std.proofs.Common.{refl}
use Rattle.run_images.specs.Saved.{asked}
use Rattle.run_images.proofs.Savings.{saved_none}
use Rattle.run_images.proofs.saving.Saving.new.Goals as goal

pub returns : goal.returns
returns g c = saved_none _ c.in_ok-index.index (asked (dialect_of c.args.dialect) c.args.config) refl refl c.in_ok-index.ensures.setting c.in_ok-index.ensures.writer refl refl
