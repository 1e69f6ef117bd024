use Rattle.eb_lines.proofs.PassingLines.{ends_no_memory, ends_unwritten}
use Rattle.eb_lines.proofs.passing.give_up.Goals as goal

pub returns-in-Ok-clause-ends : goal.returns-in-Ok-clause-ends
returns-in-Ok-clause-ends g c = λ a l0 l1 p0 m. ends_no_memory _ _ _ _ (g.met.P.LineProgram.whole a) l0 l1 p0 _ _ c.args.text.now.items m c.in-Ok.ensures.ok.0

pub returns-in-Err-clause-ends : goal.returns-in-Err-clause-ends
returns-in-Err-clause-ends g c = λ a l0 l1 p0 m. let x = c.in-Err.ensures.err in ends_unwritten _ _ _ _ (g.met.P.LineProgram.whole a) l0 l1 p0 _ _ c.args.text.now.items x.0 m x.1
