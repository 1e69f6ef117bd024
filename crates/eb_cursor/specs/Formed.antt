-- That a query is well formed is one fact, however it is shown.
use Rattle.std.specs.Coded.{×_prop, Unit-prop, le_prop}
use Rattle.eb_base.specs.Query.{Tree, Trees, word, phrase, window, since, negation, conjunction, disjunction, no_trees, trees, AreSeveral, IsFormed, AreFormed}

several_prop : (qs : Trees) → IsProp (AreSeveral qs)
several_prop no_trees = λ h k. absurd h
several_prop (trees q no_trees) = λ h k. absurd h
several_prop (trees q (trees r qs)) = Unit-prop

mutual
  pub formed_prop : (q : Tree) → IsProp (IsFormed q)
  formed_prop (word t) = Unit-prop
  formed_prop (phrase ts) = le_prop
  formed_prop (window ts w) = λ h k i. (le_prop h.0 k.0 i, le_prop h.1 k.1 i, le_prop h.2 k.2 i)
  formed_prop (since x) = Unit-prop
  formed_prop (negation q) = formed_prop q
  formed_prop (conjunction qs) = ×_prop (several_prop qs) (all_formed_prop qs)
  formed_prop (disjunction qs) = ×_prop (several_prop qs) (all_formed_prop qs)

  pub all_formed_prop : (qs : Trees) → IsProp (AreFormed qs)
  all_formed_prop no_trees = Unit-prop
  all_formed_prop (trees q qs) = ×_prop (formed_prop q) (all_formed_prop qs)
