use Rattle.std.proofs.Common.{List, ℕ, OnOk, sym, ap, subst, ◌∙◌, arith}
use Rattle.eb_io.specs.Lines.{line, long_line}
use Rattle.eb_lines.specs.Programs.{WorksOnGiven, WorksOn}
use Rattle.eb_lines.specs.declared.passing.Upcoming.{Upcoming}
use Rattle.eb_lines.specs.Passing.{Comes}
use Rattle.eb_lines.proofs.PassingLines.{few_lines, at_line, stop_line, at_end, at_fault, at_limit, took, took_number, goes_number}
use Rattle.eb_lines.proofs.passing.take_next.Goals as goal

pub take_line-requires-clause-state : goal.take_line-requires-clause-state
take_line-requires-clause-state g c = let r = c.requires.1 in let s = r.3 in (r.0, s.given, s.so_far, s.works)

pub take_line-requires-clause-number : goal.take_line-requires-clause-number
take_line-requires-clause-number g c =
    let r = c.requires.1 in
    let few = few_lines g.P.LineProgram.has_run g.P.LineProgram.number g.met.P.LineProgram.counts r.0 r.1 _ r.2 c.requires.0 _ _ _ r.3 in
    omega (arith, few)

pub take_long-requires-clause-state : goal.take_long-requires-clause-state
take_long-requires-clause-state g c = let r = c.requires.1 in let s = r.3 in (r.0, s.given, s.so_far, s.works)

pub take_long-requires-clause-number : goal.take_long-requires-clause-number
take_long-requires-clause-number g c =
    let r = c.requires.1 in
    let few = few_lines g.P.LineProgram.has_run g.P.LineProgram.number g.met.P.LineProgram.counts r.0 r.1 _ r.2 c.requires.0 _ _ _ r.3 in
    omega (arith, few)

pub returns-in-Line-clause-next : goal.returns-in-Line-clause-next
returns-in-Line-clause-next g c = λ a l0 p0 p1 at.
    let h = c.args.lines.now in
    let lines = c.next_line.new.self in
    let run = c.args.program.now in
    let text = c.args.text.now.items in
    let n = c.in-Line.ensures in
    let t = n.told at.taken at.given at.lines in
    let new = c.take_line.new.self in
    let more = c.take_line.new.text.items in
    let runs = g.P.LineProgram.has_run in
    let says = g.P.LineProgram.prints in
    let first = g.met.P.LineProgram.printed_first in
    let C : Upcoming → Type 0 = λ u. Comes runs says u a l0 (g.S.Source.left c.next_line.new.source) p0 p1 lines new more in
    let G : List ℕ → Type 0 = λ b. OnOk c.take_line.result (WorksOnGiven runs run new text more (line b)) in
    subst C (sym c.say_taken.ensures) (took runs says first a c.take_line.result l0 _ p0 p1 lines new more (WorksOnGiven runs run new text more (line lines.line)) (WorksOn runs run new text more)
    (subst G c.line.ensures c.take_line.ensures.ok) c.take_line.ensures.err
    (λ goes. at_line runs says first a l0 _ _ p0 p1 h lines run text at t.0 t.1 n.end (λ e. ap g.S.Source.left (n.ended e)) n.limit n.within new more (line lines.line) t.2 goes)
    (λ on. stop_line runs says first a l0 _ _ p0 p1 h lines run text at t.0 t.1 n.end (λ e. ap g.S.Source.left (n.ended e)) n.limit n.within new more (line lines.line) t.2 on))

pub returns-in-Line-clause-number : goal.returns-in-Line-clause-number
returns-in-Line-clause-number g c = λ e.
    let r = c.requires.1 in
    let s = r.3 in
    let run = c.args.program.now in
    let new = c.take_line.new.self in
    let runs = g.P.LineProgram.has_run in
    took_number runs g.P.LineProgram.number g.met.P.LineProgram.counts c.take_line.result run new
    (WorksOnGiven runs run new c.args.text.now.items c.take_line.new.text.items (line c.line.result.now)) c.take_line.ensures.ok
    (λ goes. goes_number runs g.P.LineProgram.number g.met.P.LineProgram.counts run new c.args.text.now.items c.take_line.new.text.items
    (line c.line.result.now) (r.0, s.given, s.so_far, s.works) goes)
    (sym c.say_taken.ensures ∙ e)

pub returns-in-LongLine-clause-next : goal.returns-in-LongLine-clause-next
returns-in-LongLine-clause-next g c = λ a l0 p0 p1 at.
    let h = c.args.lines.now in
    let lines = c.next_line.new.self in
    let run = c.args.program.now in
    let text = c.args.text.now.items in
    let n = c.in-LongLine.ensures in
    let t = n.told at.taken at.given at.lines in
    let new = c.take_long.new.self in
    let more = c.take_long.new.text.items in
    let runs = g.P.LineProgram.has_run in
    let says = g.P.LineProgram.prints in
    let first = g.met.P.LineProgram.printed_first in
    let C : Upcoming → Type 0 = λ u. Comes runs says u a l0 (g.S.Source.left c.next_line.new.source) p0 p1 lines new more in
    subst C (sym c.say_taken-in-LongLine.ensures) (took runs says first a c.take_long.result l0 _ p0 p1 lines new more (WorksOnGiven runs run new text more long_line) (WorksOn runs run new text more)
    c.take_long.ensures.ok c.take_long.ensures.err
    (λ goes. at_line runs says first a l0 _ _ p0 p1 h lines run text at t.0 t.1 n.end (λ e. ap g.S.Source.left (n.ended e)) n.limit n.within new more long_line t.2 goes)
    (λ on. stop_line runs says first a l0 _ _ p0 p1 h lines run text at t.0 t.1 n.end (λ e. ap g.S.Source.left (n.ended e)) n.limit n.within new more long_line t.2 on))

pub returns-in-LongLine-clause-number : goal.returns-in-LongLine-clause-number
returns-in-LongLine-clause-number g c = λ e.
    let r = c.requires.1 in
    let s = r.3 in
    let run = c.args.program.now in
    let new = c.take_long.new.self in
    let runs = g.P.LineProgram.has_run in
    took_number runs g.P.LineProgram.number g.met.P.LineProgram.counts c.take_long.result run new
    (WorksOnGiven runs run new c.args.text.now.items c.take_long.new.text.items long_line) c.take_long.ensures.ok
    (λ goes. goes_number runs g.P.LineProgram.number g.met.P.LineProgram.counts run new c.args.text.now.items c.take_long.new.text.items long_line (r.0, s.given, s.so_far, s.works) goes)
    (sym c.say_taken-in-LongLine.ensures ∙ e)

pub returns-in-End-clause-next : goal.returns-in-End-clause-next
returns-in-End-clause-next g c = λ a l0 p0 p1 at.
    let n = c.in-End.ensures in
    let t = n.told at.taken at.given at.lines in
    at_end g.P.LineProgram.has_run g.P.LineProgram.prints g.met.P.LineProgram.printed_first a l0 _ _ p0
    p1 c.args.lines.now c.next_line.new.self c.args.program.now c.args.text.now.items at t.0 t.1 n.end
    (λ e. ap g.S.Source.left (n.ended e)) n.limit n.within t.2.0 t.2.1

pub returns-in-ReadFault-clause-next : goal.returns-in-ReadFault-clause-next
returns-in-ReadFault-clause-next g c = λ a l0 p0 p1 at.
    let n = c.in-ReadFault.ensures in
    let t = n.told at.taken at.given at.lines in
    at_fault g.P.LineProgram.has_run g.P.LineProgram.prints g.met.P.LineProgram.printed_first a l0 _ _ p0
    p1 c.args.lines.now c.next_line.new.self c.args.program.now c.args.text.now.items at t.0 t.1 n.end
    (λ e. ap g.S.Source.left (n.ended e)) n.limit n.within t.2.0 t.2.1

pub returns-in-InputTooLong-clause-next : goal.returns-in-InputTooLong-clause-next
returns-in-InputTooLong-clause-next g c = λ a l0 p0 p1 at.
    let n = c.in-InputTooLong.ensures in
    let t = n.told at.taken at.given at.lines in
    at_limit g.P.LineProgram.has_run g.P.LineProgram.prints g.met.P.LineProgram.printed_first a l0 _ _ p0
    p1 c.args.lines.now c.next_line.new.self c.args.program.now c.args.text.now.items at t.0 t.1 n.end
    (λ e. ap g.S.Source.left (n.ended e)) n.limit n.within t.2.0 t.2.1
