use Rattle.std.proofs.Common.{◌≡◌, ◌+◌, ◌≤◌, ◌++◌, length}
use Rattle.std.specs.Prelude.{vec_len, vec_capacity}
use Rattle.std.specs.List.{All}
use Rattle.eb_base.specs.Setting.{Setting}
use Rattle.eb_blend.specs.Parts.{indexes_of}
use Rattle.eb_blend.specs.Adding.{writers_of, turns_writer, with_items, outcomes_of}
use Rattle.eb_blend.proofs.adding.add_items.Given as goal

abbrev pub invariant-runs : goal.invariant-runs
invariant-runs g l = record {
  writers : (σ : Setting) → All (λ w. w.setting ≡ σ) l.indexes → with_items σ (turns_writer l.turns l.last) l.rest ≡ with_items σ (turns_writer l.fn.turns l.fn.last) l.items;
  outcomes : (σ : Setting) → All (λ w. w.setting ≡ σ) l.indexes
      → l.outcomes.items ++ outcomes_of σ (turns_writer l.turns l.last) l.rest ≡ l.fn.outcomes.items ++ outcomes_of σ (turns_writer l.fn.turns l.fn.last) l.items;
  made : indexes_of (writers_of l.turns) ≡ l.indexes;
  number : length l.turns ≡ length l.fn.turns;
  long : All (λ t. length l.rest ≤ length t.full.items) l.turns;
  room : vec_len l.outcomes + length l.rest ≤ vec_capacity l.outcomes;
}

abbrev pub decreases-runs : goal.decreases-runs
decreases-runs g l = length l.rest
