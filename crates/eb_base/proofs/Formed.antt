-- That a query is well formed has one proof at most.
use Rattle.std.proofs.Common.{ℕ, ◌≤◌}
use Rattle.std.proofs.Props.{props}
use mathlib.Core.HLevel.{Unit-prop, ⊥_prop, ×_prop}
use Rattle.eb_base.specs.Query.{Tree, word, phrase, window, since, negation, conjunction, disjunction, Trees, no_trees, trees, size, IsFormed, AreFormed, AreSeveral, IsWellFormed, most_size}

le_prop : (m n : ℕ) → IsProp (m ≤ n)
le_prop m n = Prim.hlevel props

several_prop : (ts : Trees) → IsProp (AreSeveral ts)
several_prop no_trees = ⊥_prop
several_prop (trees t no_trees) = ⊥_prop
several_prop (trees t (trees u ts)) = Unit-prop

mutual
  formed_prop : (t : Tree) → IsProp (IsFormed t)
  formed_prop (word t) = Unit-prop
  formed_prop (phrase ts) = Prim.hlevel props
  formed_prop (window ts w) = Prim.hlevel props
  formed_prop (since x) = Unit-prop
  formed_prop (negation t) = formed_prop t
  formed_prop (conjunction ts) = ×_prop (several_prop ts) (each_prop ts)
  formed_prop (disjunction ts) = ×_prop (several_prop ts) (each_prop ts)

  each_prop : (ts : Trees) → IsProp (AreFormed ts)
  each_prop no_trees = Unit-prop
  each_prop (trees t ts) = ×_prop (formed_prop t) (each_prop ts)

pub well_formed_prop : (t : Tree) → IsProp (IsWellFormed t)
well_formed_prop t x y = λ i. record { formed = formed_prop t x.formed y.formed i; within = le_prop (size t) most_size x.within y.within i }
