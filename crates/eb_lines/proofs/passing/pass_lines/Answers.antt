use Rattle.std.proofs.Common.{◌++◌, refl, ap, le_refl, le_trans, arith}
use Rattle.eb_io.specs.Held.{Held}
use Rattle.eb_lines.proofs.PassingLines.{at_start, few_lines, at_written, may_stop, prints_none, ends_at_once, ends_unwritten}
use Rattle.eb_lines.proofs.passing.pass_lines.Goals as goal

pub returns-in_default-clause-ends : goal.returns-in_default-clause-ends
returns-in_default-clause-ends g c = λ a h.
    let none = prints_none g.P.LineProgram.has_run g.P.LineProgram.prints g.met.P.LineProgram.printed_first a c.args.program.now c.args.text.items h in
    ends_at_once _ _ _ _ (g.met.P.LineProgram.whole a) _ _ (c.args.text.items ++ none.0) none.1

pub lines-init : goal.lines-init
lines-init g c =
    let fresh = c.in-Ok.ensures.fresh in
    record {
      at = λ a h. at_start g.P.LineProgram.has_run g.P.LineProgram.prints g.met.P.LineProgram.printed_first a _ _ c.in-Ok.lines c.args.program.now c.args.text.items c.in-Ok.ensures.given
          (ap (λ (x : Held). x.limit) fresh) (ap (λ (x : Held). x.taken) fresh) (ap (λ (x : Held). x.is_ended) fresh) h;
      source = le_refl _;
      sink = le_refl _;
    }

pub settle-requires : goal.settle-requires
settle-requires g c =
    let r = c.requires in
    (g.S.Source.left c.lines.source, (r.0, g.S.Source.left c.args.source.now, g.K.Sink.taken c.args.out.now, c.lines.invariant.at r.0 r.1))

pub returns-in-Err-clause-ends : goal.returns-in-Err-clause-ends
returns-in-Err-clause-ends g c = λ a h. c.in-Err.ensures.next a (g.S.Source.left c.args.source.now) (g.S.Source.left c.lines.source) (g.K.Sink.taken c.args.out.now) (c.lines.invariant.at a h)

pub take_next-requires : goal.take_next-requires
take_next-requires g c =
    let r = c.requires in
    let l0 = g.S.Source.left c.args.source.now in
    let p0 = g.K.Sink.taken c.args.out.now in
    let at = c.in_default-settle.ensures.next r.0 l0 (g.S.Source.left c.lines.source) p0 (c.lines.invariant.at r.0 r.1) in
    (g.K.Sink.taken c.settle.new.out, (r.0, l0, p0, at))

pub returns-in-End-clause-ends : goal.returns-in-End-clause-ends
returns-in-End-clause-ends g c = λ a h.
    let l0 = g.S.Source.left c.args.source.now in
    let p0 = g.K.Sink.taken c.args.out.now in
    let at = c.in_default-settle.ensures.next a l0 (g.S.Source.left c.lines.source) p0 (c.lines.invariant.at a h) in
    c.close.ensures.ends a l0 _ p0 c.take_next.new.lines (c.in-End.ensures.next a l0 p0 _ at)

pub returns-in-ReadFault-clause-ends : goal.returns-in-ReadFault-clause-ends
returns-in-ReadFault-clause-ends g c = λ a h.
    let l0 = g.S.Source.left c.args.source.now in
    let p0 = g.K.Sink.taken c.args.out.now in
    let at = c.in_default-settle.ensures.next a l0 (g.S.Source.left c.lines.source) p0 (c.lines.invariant.at a h) in
    c.stop.ensures.ends a l0 _ p0 c.take_next.new.lines (c.in-ReadFault.ensures.next a l0 p0 _ at)

pub returns-in-InputTooLong-clause-ends : goal.returns-in-InputTooLong-clause-ends
returns-in-InputTooLong-clause-ends g c = λ a h.
    let l0 = g.S.Source.left c.args.source.now in
    let p0 = g.K.Sink.taken c.args.out.now in
    let at = c.in_default-settle.ensures.next a l0 (g.S.Source.left c.lines.source) p0 (c.lines.invariant.at a h) in
    c.stop-in-InputTooLong.ensures.ends a l0 _ p0 c.take_next.new.lines (c.in-InputTooLong.ensures.next a l0 p0 _ at)

pub returns-in-NoMemory-clause-ends : goal.returns-in-NoMemory-clause-ends
returns-in-NoMemory-clause-ends g c = λ a h.
    let l0 = g.S.Source.left c.args.source.now in
    let p0 = g.K.Sink.taken c.args.out.now in
    let at = c.in_default-settle.ensures.next a l0 (g.S.Source.left c.lines.source) p0 (c.lines.invariant.at a h) in
    c.give_up.ensures.ends a l0 _ p0 (c.in-NoMemory.ensures.next a l0 p0 _ at)

pub close-requires : goal.close-requires
close-requires g c =
    let r = c.requires in
    let l0 = g.S.Source.left c.args.source.now in
    let p0 = g.K.Sink.taken c.args.out.now in
    let at = c.in_default-settle.ensures.next r.0 l0 (g.S.Source.left c.lines.source) p0 (c.lines.invariant.at r.0 r.1) in
    let end = c.in-End.ensures.next r.0 l0 p0 _ at in
    (c.take_next.new.lines, g.S.Source.left c.take_next.new.source, (r.0, l0, p0, end.0))

pub stop-requires : goal.stop-requires
stop-requires g c =
    let r = c.requires in
    let l0 = g.S.Source.left c.args.source.now in
    let p0 = g.K.Sink.taken c.args.out.now in
    let at = c.in_default-settle.ensures.next r.0 l0 (g.S.Source.left c.lines.source) p0 (c.lines.invariant.at r.0 r.1) in
    let end = c.in-ReadFault.ensures.next r.0 l0 p0 _ at in
    (c.take_next.new.lines, g.S.Source.left c.take_next.new.source, (r.0, l0, p0, end.0))

pub stop-requires-in-InputTooLong : goal.stop-requires-in-InputTooLong
stop-requires-in-InputTooLong g c =
    let r = c.requires in
    let l0 = g.S.Source.left c.args.source.now in
    let p0 = g.K.Sink.taken c.args.out.now in
    let at = c.in_default-settle.ensures.next r.0 l0 (g.S.Source.left c.lines.source) p0 (c.lines.invariant.at r.0 r.1) in
    let end = c.in-InputTooLong.ensures.next r.0 l0 p0 _ at in
    (c.take_next.new.lines, g.S.Source.left c.take_next.new.source, (r.0, l0, p0, end.0))

pub returns-in_default-write_much-clause-ends : goal.returns-in_default-write_much-clause-ends
returns-in_default-write_much-clause-ends g c = λ a h.
    let l0 = g.S.Source.left c.args.source.now in
    let p0 = g.K.Sink.taken c.args.out.now in
    let at = c.in_default-settle.ensures.next a l0 (g.S.Source.left c.lines.source) p0 (c.lines.invariant.at a h) in
    let x = c.in_default-write_much.ensures.err in
    let now = c.in-Line.ensures.next a l0 p0 _ at in
    ends_unwritten _ _ _ _ (g.met.P.LineProgram.whole a) l0 _ p0 _ _ c.take_next.new.text.items x.0
    (may_stop g.P.LineProgram.has_run g.P.LineProgram.prints g.met.P.LineProgram.printed_first a l0 _ p0 _ c.take_next.new.lines c.take_next.new.program c.take_next.new.text.items now) x.1

pub lines-preserved : goal.lines-preserved
lines-preserved g c =
    let l0 = g.S.Source.left c.args.source.now in
    let p0 = g.K.Sink.taken c.args.out.now in
    let x = c.in-Ok-write_much.ensures.ok in
    record {
      at = λ a h.
          let at = c.in_default-settle.ensures.next a l0 (g.S.Source.left c.lines.source) p0 (c.lines.invariant.at a h) in
          let now = c.in-Line.ensures.next a l0 p0 _ at in
          at_written g.P.LineProgram.has_run g.P.LineProgram.prints g.met.P.LineProgram.printed_first a l0 _ p0 _ c.take_next.new.lines c.take_next.new.program c.take_next.new.text.items now _ x.0
          c.write_much.new.text.items x.1 x.2;
      source = le_trans c.lines.invariant.source c.take_next.ensures.later;
      sink = le_trans c.lines.invariant.sink (le_trans c.settle.ensures.later c.write_much.ensures.later);
    }

pub lines-smaller : goal.lines-smaller
lines-smaller g c =
    let r = c.requires in
    let l0 = g.S.Source.left c.args.source.now in
    let p0 = g.K.Sink.taken c.args.out.now in
    let at = c.in_default-settle.ensures.next r.0 l0 (g.S.Source.left c.lines.source) p0 (c.lines.invariant.at r.0 r.1) in
    let now = c.in-Line.ensures.next r.0 l0 p0 _ at in
    let few = few_lines g.P.LineProgram.has_run g.P.LineProgram.number g.met.P.LineProgram.counts r.0 l0 _ p0 _ c.take_next.new.lines c.take_next.new.program c.take_next.new.text.items now in
    let more = c.in-Line.ensures.number refl in
    let same = c.in_default-settle.ensures.number in
    omega (arith, few, more, same)
