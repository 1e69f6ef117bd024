use Rattle.std.proofs.Common.{refl, arith}
use Rattle.eb_lines.specs.Reading.{blank}
use Rattle.run_images.proofs.Savings.{takes_quiet}
use Rattle.run_images.proofs.saving.Saving.pass.Goals as goal

pub returns : goal.returns
returns g c = takes_quiet c.args.self.now _ blank blank (λ σ e. refl) refl refl refl refl refl (omega arith) (omega arith)
