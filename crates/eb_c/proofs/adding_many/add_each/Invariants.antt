use Rattle.eb_c.specs.declared.held.Held.TheVariants.{Writer, Leader}
use Rattle.eb_c.specs.AddingMany.{WriterAddsText, LeaderAddsText}
use Rattle.eb_c.proofs.UnderWay.{IsUnderWay}
use Rattle.eb_c.proofs.adding_many.add_each.Given as goal

abbrev pub invariant-loop-at : goal.invariant-loop-at
invariant-loop-at l = record {
  writer : IsUnderWay Writer (WriterAddsText l.how) l.texts l.at l.initial.held l.held;
  leader : IsUnderWay Leader (LeaderAddsText l.how) l.texts l.at l.initial.held l.held;
}
