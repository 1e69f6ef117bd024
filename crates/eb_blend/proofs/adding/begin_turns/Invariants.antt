use Rattle.std.proofs.Common.{◌≡◌, ◌+◌, ◌≤◌, ◌++◌, ℕ, length}
use Rattle.std.specs.Prelude.{vec_len, vec_capacity}
use Rattle.std.specs.List.{All}
use Rattle.eb_blend.specs.Adding.{writers_of}
use Rattle.eb_blend.proofs.adding.begin_turns.Given as goal

abbrev pub invariant-loop-full : goal.invariant-loop-full
invariant-loop-full l = record {
  writers : writers_of l.turns.items ++ l.writers.items ≡ l.fn.writers.items;
  same : vec_len l.rooms ≡ vec_len l.writers;
  room : vec_len l.turns + vec_len l.writers ≤ vec_capacity l.turns;
  rooms : (n : ℕ) → All (λ full. length full.items ≡ n) l.fn.rooms.items → All (λ full. length full.items ≡ n) l.rooms.items;
  long : (n : ℕ) → All (λ full. length full.items ≡ n) l.fn.rooms.items → All (λ t. n ≤ length t.full.items) l.turns.items;
}

abbrev pub decreases-loop-full : goal.decreases-loop-full
decreases-loop-full l = vec_len l.rooms
