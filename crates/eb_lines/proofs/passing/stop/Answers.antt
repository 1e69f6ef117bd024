use Rattle.eb_lines.proofs.PassingLines.{at_of, stop_on, ends_unwritten, ends_stopped}
use Rattle.eb_lines.proofs.passing.stop.Goals as goal

pub settle_all-requires : goal.settle_all-requires
settle_all-requires g c = let r = c.requires.2 in let s = r.3 in (r.0, s.given, s.so_far, s.works)

pub returns-in_default-clause-ends : goal.returns-in_default-clause-ends
returns-in_default-clause-ends g c = λ a l0 l1 p0 held s. c.give_up.ensures.ends a l0 l1 p0
    (stop_on g.P.LineProgram.has_run g.P.LineProgram.prints g.met.P.LineProgram.printed_first a l0 l1 p0
    _ held c.args.program.now c.settle_all.new.self c.args.text.now.items c.settle_all.new.text.items
    (at_of g.P.LineProgram.has_run g.P.LineProgram.prints g.met.P.LineProgram.printed_first a c.args.status l0 l1 p0 _ held c.args.program.now c.args.text.now.items s) c.settle_all.ensures.on)

pub returns-in-Ok-write_gathered-clause-ends : goal.returns-in-Ok-write_gathered-clause-ends
returns-in-Ok-write_gathered-clause-ends g c = λ a l0 l1 p0 held s.
    ends_stopped g.P.LineProgram.has_run g.P.LineProgram.prints g.P.LineProgram.ends_with g.P.LineProgram.refuses g.P.LineProgram.accepts a l0 l1 p0 _ _ held c.args.program.now c.settle_all.new.self
    c.args.text.now.items c.settle_all.new.text.items c.settle_all.ensures.on c.in-Ok.ensures.printed c.args.status s c.in-Ok-write_gathered.ensures.ok.0

pub returns-in-Err-clause-ends : goal.returns-in-Err-clause-ends
returns-in-Err-clause-ends g c = λ a l0 l1 p0 held s.
    let t = c.settle_all.new.text.items in
    let x = c.in-Err.ensures.err in
    ends_unwritten _ _ _ _ (g.met.P.LineProgram.whole a) l0 l1 p0 _ _ t x.0
    (stop_on g.P.LineProgram.has_run g.P.LineProgram.prints g.met.P.LineProgram.printed_first a l0 l1 p0 _ held c.args.program.now c.settle_all.new.self c.args.text.now.items t
    (at_of g.P.LineProgram.has_run g.P.LineProgram.prints g.met.P.LineProgram.printed_first a c.args.status l0 l1 p0 _ held c.args.program.now c.args.text.now.items s) c.settle_all.ensures.on) x.1
