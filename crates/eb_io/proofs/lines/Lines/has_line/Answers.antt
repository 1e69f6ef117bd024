use Rattle.std.proofs.Common.{refl}
use Rattle.eb_io.proofs.Given.{lf_contained, uncut_contains}
use Rattle.eb_io.proofs.lines.Lines.has_line.Goals as goal

pub returns-in-Some : goal.returns-in-Some
returns-in-Some c = (λ _. lf_contained c.args.self.now.rest c.in-Some.field-0 c.in-Some.ensures.place, λ _. refl)

pub returns-in-None : goal.returns-in-None
returns-in-None c = (λ e. let no : ⊥ = cc in absurd no, λ lf. absurd (uncut_contains c.args.self.now.rest c.in-None.ensures.place lf))
