use Rattle.std.proofs.Common.{◌≡◌, ◌+◌, ◌≤◌, ◌++◌}
use Rattle.std.specs.Prelude.{vec_len, vec_capacity}
use Rattle.eb_blend.specs.Adding.{writers_of}
use Rattle.eb_blend.proofs.adding.end_turns.Given as goal

abbrev pub invariant-loop-turns : goal.invariant-loop-turns
invariant-loop-turns l = record {
  writers : l.writers.items ++ writers_of l.turns.items ≡ writers_of l.fn.turns.items;
  room : vec_len l.writers + vec_len l.turns ≤ vec_capacity l.writers;
}

abbrev pub decreases-loop-turns : goal.decreases-loop-turns
decreases-loop-turns l = vec_len l.turns
