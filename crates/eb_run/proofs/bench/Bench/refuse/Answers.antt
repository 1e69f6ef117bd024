use Rattle.std.proofs.Common.{refl, arith}
use Rattle.eb_lines.specs.Reading.{refused}
use Rattle.eb_run.proofs.Benches.{refused_few, takes_quiet}
use Rattle.eb_run.proofs.bench.Bench.refuse.Goals as goal

pub overflow_add-self : goal.overflow_add-self
overflow_add-self c = let r = c.requires in omega (arith, refused_few c.args.self.now r.0 r.1 r.2)

pub returns : goal.returns
returns c = takes_quiet c.args.self.now _ (refused c.args.refusal) (λ docs. refl) refl refl (λ docs. refl) refl refl refl refl refl
