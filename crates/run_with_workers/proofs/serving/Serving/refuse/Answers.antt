use Rattle.std.proofs.Common.{refl, arith}
use Rattle.eb_lines.specs.Reading.{refused}
use Rattle.run_with_workers.specs.declared.waiting.Waiting.TheVariants as waits
use Rattle.run_with_workers.proofs.Askings.{grown_none}
use Rattle.run_with_workers.proofs.Servings.{few_refused, held_none, served_line}
use Rattle.run_with_workers.proofs.serving.Serving.refuse.Goals as goal

pub overflow_add-self-2 : goal.overflow_add-self-2
overflow_add-self-2 g c =
    let r = c.requires.running in
    let few = few_refused g.O.Office.holds g.O.Office.asked c.args.self.now r.0 r.1 r.2 r.3 in
    omega (arith, few, c.requires.number)

pub returns : goal.returns
returns g c =
    let H = g.O.Office.holds in
    let B = g.O.Office.asked in
    let x = c.args.refusal in
    served_line H B c.args.self.now _ (refused x) (waits.Refused x) refl refl c.requires.number (grown_none _ _ _ refl c.requires.running.3.is_above) c.push.ensures
    (λ rules docs office few start. (held_none H rules docs office, refl, omega arith, refl))
