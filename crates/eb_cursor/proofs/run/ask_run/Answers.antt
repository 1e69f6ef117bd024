use Rattle.eb_cursor.proofs.Tellings.{told_as}
use Rattle.eb_cursor.proofs.run.ask_run.Goals as goal

pub returns-clause-found : goal.returns-clause-found
returns-clause-found g c = λ docs ts end r. told_as g.met.P.Port.lawful (c.leap_run.ensures.found docs ts end r) (λ m p. (p.0, tt)) (λ m n w p x. x)
