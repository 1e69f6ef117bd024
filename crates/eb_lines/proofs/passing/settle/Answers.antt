use Rattle.std.proofs.Common.{◌++◌, sym, ap, ◌∙◌, append-nil}
use Rattle.eb_lines.proofs.PassingLines.{at_on, at_written, stop_on, ends_unwritten}
use Rattle.eb_lines.proofs.passing.settle.Goals as goal

pub settle-requires : goal.settle-requires
settle-requires g c = let r = c.requires.1 in let s = r.3 in (r.0, s.given, s.so_far, s.works)

pub returns-in_default-clause-next : goal.returns-in_default-clause-next
returns-in_default-clause-next g c = λ a l0 l1 p0 at. c.give_up.ensures.ends a l0 l1 p0
    (stop_on g.P.LineProgram.has_run g.P.LineProgram.prints g.met.P.LineProgram.printed_first a l0 l1 p0 _ c.args.lines.now
    c.args.program.now c.settle.new.self c.args.text.now.items c.settle.new.text.items at c.settle.ensures)

pub returns-in-Ok-write_gathered-clause-next : goal.returns-in-Ok-write_gathered-clause-next
returns-in-Ok-write_gathered-clause-next g c = λ a l0 l1 p0 at.
    let t = c.settle.new.text.items in
    let x = c.in-Ok-write_gathered.ensures.ok in
    at_written g.P.LineProgram.has_run g.P.LineProgram.prints g.met.P.LineProgram.printed_first a l0 l1 p0 _ c.args.lines.now c.settle.new.self t
    (at_on g.P.LineProgram.has_run g.P.LineProgram.prints g.met.P.LineProgram.printed_first a l0 l1 p0 _
    c.args.lines.now c.args.program.now c.args.text.now.items at c.settle.new.self t c.settle.ensures)
    _ t c.write_gathered.new.text.items x.0 (sym (append-nil t) ∙ ap (λ r. t ++ r) (sym x.1))

pub returns-in-Err-clause-next : goal.returns-in-Err-clause-next
returns-in-Err-clause-next g c = λ a l0 l1 p0 at.
    let t = c.settle.new.text.items in
    let x = c.in-Err.ensures.err in
    ends_unwritten _ _ _ _ (g.met.P.LineProgram.whole a) l0 l1 p0 _ _ t x.0
    (stop_on g.P.LineProgram.has_run g.P.LineProgram.prints g.met.P.LineProgram.printed_first a l0 l1 p0 _
    c.args.lines.now c.args.program.now c.settle.new.self c.args.text.now.items t at c.settle.ensures) x.1
