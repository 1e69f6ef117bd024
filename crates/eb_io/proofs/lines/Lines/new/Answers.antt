use Rattle.std.proofs.Common.{arith, rules}
use Rattle.eb_io.proofs.lines.Lines.new.Goals as goal

pub invariant_of-result : goal.invariant_of-result
invariant_of-result c = record {
  order = search rules;
  within = search rules;
  piece = search rules;
  end = λ k d few at. omega (arith, few);
  part = search rules;
  part_room = search rules;
  given_room = search rules;
  long = search rules;
  limit = omega arith;
  ended = λ e. let no : ⊥ = cc in absurd no;
}
