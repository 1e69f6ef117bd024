use Rattle.std.proofs.Common.{◌≡◌, ℕ, ◌<◌, ◌≤◌, ◌^◌}
use Rattle.eb_base.proofs.config.are_terms.Given as goal

abbrev pub invariant-loop-bits : goal.invariant-loop-bits
invariant-loop-bits l = (k : ℕ) → 10 ≤ k → k < l.bits → l.terms ≡ 2 ^ k → ⊥
