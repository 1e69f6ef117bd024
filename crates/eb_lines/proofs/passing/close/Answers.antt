use Rattle.std.proofs.Common.{List, ℕ, sym, subst}
use Rattle.eb_lines.specs.Passing.{MayStop}
use Rattle.eb_lines.proofs.PassingLines.{stop_on, running_on, ends_closed, ends_unclosed}
use Rattle.eb_lines.proofs.passing.close.Goals as goal

pub settle_all-requires : goal.settle_all-requires
settle_all-requires g c = let r = c.requires.2 in let s = r.3 in (r.0, s.given, s.so_far, s.works)

pub finish-requires-clause-running : goal.finish-requires-clause-running
finish-requires-clause-running g c =
    let r = c.requires.2 in
    let s = r.3 in
    running_on g.P.LineProgram.has_run c.args.program.now c.settle_all.new.self c.args.text.now.items c.settle_all.new.text.items (r.0, s.given, s.so_far, s.works) c.settle_all.ensures.on

pub returns-in_default-clause-ends : goal.returns-in_default-clause-ends
returns-in_default-clause-ends g c = λ a l0 l1 p0 held s. c.give_up.ensures.ends a l0 l1 p0
    (stop_on g.P.LineProgram.has_run g.P.LineProgram.prints g.met.P.LineProgram.printed_first a l0 l1 p0 _
    held c.args.program.now c.settle_all.new.self c.args.text.now.items c.settle_all.new.text.items s.0
    c.settle_all.ensures.on)

pub returns-in_default-finish-clause-ends : goal.returns-in_default-finish-clause-ends
returns-in_default-finish-clause-ends g c = λ a l0 l1 p0 held s.
    let M : List ℕ → Type 0 = λ t. MayStop (g.P.LineProgram.prints a) l0 l1 p0 (g.K.Sink.taken c.args.out.now) t in
    c.give_up-in_default-finish.ensures.ends a l0 l1 p0 (subst M (sym c.in_default-finish.ensures.err)
    (stop_on g.P.LineProgram.has_run g.P.LineProgram.prints g.met.P.LineProgram.printed_first a l0 l1 p0 _
    held c.args.program.now c.settle_all.new.self c.args.text.now.items c.settle_all.new.text.items s.0
    c.settle_all.ensures.on))

pub returns-in_default-write_gathered-clause-ends : goal.returns-in_default-write_gathered-clause-ends
returns-in_default-write_gathered-clause-ends g c = λ a l0 l1 p0 held s.
    let x = c.in_default-write_gathered.ensures.err in
    ends_unclosed g.P.LineProgram.has_run g.P.LineProgram.prints g.P.LineProgram.ends_with g.P.LineProgram.refuses g.P.LineProgram.accepts a l0 l1 p0 _ _ held c.args.program.now c.settle_all.new.self
    c.args.text.now.items c.settle_all.new.text.items c.settle_all.ensures.on c.in-Ok.ensures.printed s _ c.finish.new.text.items (c.in-Ok-finish.ensures.ok a) x.0 x.1

pub returns-clause-ends : goal.returns-clause-ends
returns-clause-ends g c = λ a l0 l1 p0 held s.
    ends_closed g.P.LineProgram.has_run g.P.LineProgram.prints g.P.LineProgram.ends_with g.P.LineProgram.refuses g.P.LineProgram.accepts a l0 l1 p0 _ _ held c.args.program.now c.settle_all.new.self
    c.args.text.now.items c.settle_all.new.text.items c.settle_all.ensures.on c.in-Ok.ensures.printed s _ c.finish.new.text.items (c.in-Ok-finish.ensures.ok a) c.status_of.result
    c.status_of.ensures.some c.status_of.ensures.none c.in-Ok-write_gathered.ensures.ok.0
