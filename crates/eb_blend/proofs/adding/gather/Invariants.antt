use Rattle.std.proofs.Common.{◌≡◌, ◌+◌, ◌≤◌, ◌++◌, take}
use Rattle.std.specs.Prelude.{vec_len, vec_capacity}
use Rattle.eb_blend.specs.Adding.{fulls_of, told_from, last_from}
use Rattle.eb_blend.proofs.adding.gather.Given as goal

abbrev pub invariant-loop-at : goal.invariant-loop-at
invariant-loop-at g l = record {
  outcomes : l.outcomes.items ≡ l.fn.outcomes.items ++ told_from (fulls_of l.turns) 0 (take l.at l.items);
  len : vec_len l.outcomes ≡ vec_len l.fn.outcomes + l.at;
  capacity : vec_capacity l.fn.outcomes ≤ vec_capacity l.outcomes;
  last : l.last ≡ last_from (fulls_of l.turns) 0 l.fn.last (take l.at l.items);
}
