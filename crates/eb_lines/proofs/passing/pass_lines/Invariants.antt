use Rattle.std.proofs.Common.{◌-◌, ◌≤◌, []}
use Rattle.eb_lines.specs.Passing.{IsAt}
use Rattle.eb_lines.proofs.passing.pass_lines.Given as goal

abbrev pub invariant-lines : goal.invariant-lines
invariant-lines g l = record {
  at : (a : g.P.LineProgram.Asked) → g.P.LineProgram.has_run l.fn.program a [] l.fn.text.items
      → IsAt g.P.LineProgram.has_run a (g.S.Source.left l.initial.source) (g.S.Source.left l.source) (g.K.Sink.taken l.initial.out) (g.K.Sink.taken l.out) l.lines l.program l.text.items;
  source : g.S.Source.faults l.initial.source ≤ g.S.Source.faults l.source;
  sink : g.K.Sink.faults l.initial.out ≤ g.K.Sink.faults l.out;
}

abbrev pub decreases-lines : goal.decreases-lines
decreases-lines g l = 1099511627776 - g.P.LineProgram.number l.program
