-- What a query asks, in numbers: two that ask otherwise have other numbers.
use Rattle.std.specs.Prelude.{ℕ, List, [], ◌∷◌, ◌++◌, length}
use Rattle.eb_base.specs.Query.{Tree, Trees, word, phrase, window, since, negation, conjunction, disjunction, no_trees, trees}

-- words in numbers, and then other numbers
abbrev pub words_before : List (List ℕ) → List ℕ → List ℕ
words_before [] more = 0 ∷ more
words_before (w ∷ ws) more = 1 ∷ length w ∷ (w ++ words_before ws more)

-- a query in numbers, and then other numbers
abbrev mutual
  pub tree_before : Tree → List ℕ → List ℕ
  tree_before (word w) more = 0 ∷ length w ∷ (w ++ more)
  tree_before (phrase ws) more = 1 ∷ words_before ws more
  tree_before (window ws reach) more = 2 ∷ reach ∷ words_before ws more
  tree_before (since id) more = 3 ∷ id ∷ more
  tree_before (negation t) more = 4 ∷ tree_before t more
  tree_before (conjunction ts) more = 5 ∷ trees_before ts more
  tree_before (disjunction ts) more = 6 ∷ trees_before ts more

  pub trees_before : Trees → List ℕ → List ℕ
  trees_before no_trees more = 0 ∷ more
  trees_before (trees t ts) more = 1 ∷ tree_before t (trees_before ts more)

-- what is asked by a query with this k
abbrev pub asks_of : Tree → ℕ → List ℕ
asks_of t k = tree_before t (k ∷ [])
