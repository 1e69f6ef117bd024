use Rattle.std.proofs.Common.{refl, arith}
use Rattle.eb_lines.specs.Reading.{blank}
use Rattle.run_with_workers.specs.declared.waiting.Waiting.TheVariants as waits
use Rattle.run_with_workers.proofs.Askings.{grown_none}
use Rattle.run_with_workers.proofs.Servings.{held_none, served_line}
use Rattle.run_with_workers.proofs.serving.Serving.pass.Goals as goal

pub returns : goal.returns
returns g c =
    let H = g.O.Office.holds in
    let B = g.O.Office.asked in
    served_line H B c.args.self.now _ blank waits.Nothing refl refl c.requires.number (grown_none _ _ _ refl c.requires.running.3.is_above) c.push.ensures
    (λ rules docs office few start. (held_none H rules docs office, record { asks = refl; fails = refl }, omega arith, omega arith))
