use Rattle.std.proofs.Common.{refl, arith}
use Rattle.eb_lines.specs.Reading.{refused}
use Rattle.run_images.proofs.Savings.{takes_quiet}
use Rattle.run_images.proofs.saving.Saving.refuse.Goals as goal

pub returns : goal.returns
returns g c = takes_quiet c.args.self.now _ (refused c.args.refusal) (refused c.args.refusal) (λ σ e. refl) refl refl refl refl refl refl (omega arith)
