-- Queries as plain trees: what a query asks, whatever its form in memory.
use Rattle.std.specs.Prelude.{◌≡◌, ℕ, ◌+◌, ◌<◌, ◌≤◌, List, [], ◌∷◌, length, map, Option, Some, None}
use Rattle.eb_base.specs.declared.query.Query.{Query, fold-Query}
use Rattle.eb_base.specs.declared.query.Query.TheOpen.{Query-F, Queries-F}
use Rattle.eb_base.specs.declared.query.Queries.{Queries}

-- what a query is, whatever its form in memory
mutual
  pub data Tree : Type 0 where
    word : List ℕ → Tree
    phrase : List (List ℕ) → Tree
    window : List (List ℕ) → ℕ → Tree
    since : ℕ → Tree
    negation : Tree → Tree
    conjunction : Trees → Tree
    disjunction : Trees → Tree

  pub data Trees : Type 0 where
    no_trees : Trees
    trees : Tree → Trees → Trees

-- a list of trees as parts
abbrev pub trees_of : List Tree → Trees
trees_of [] = no_trees
trees_of (t ∷ ts) = trees t (trees_of ts)

-- one level, with each part already seen as its tree
abbrev pub tree_step : Query-F Tree Trees → Tree
tree_step (Query-F.Word t) = word t
tree_step (Query-F.Phrase ts) = phrase ts
tree_step (Query-F.Window ts w) = window ts w
tree_step (Query-F.Since x) = since x
tree_step (Query-F.Not q) = negation q.value
tree_step (Query-F.And qs) = conjunction qs
tree_step (Query-F.Or qs) = disjunction qs

abbrev pub parts_step : Queries-F Tree Trees → Trees
parts_step qs = trees_of qs.parts.items

abbrev pub tree : Query → Tree
tree = fold-Query Tree Trees tree_step parts_step

-- the queries in order
abbrev pub queries_of : Queries → List Query
queries_of qs = qs.parts.items

-- the parts in order
abbrev pub parts_of : Queries → List Tree
parts_of qs = map tree qs.parts.items

-- what an and or an or of these parts is; of one part it is that part
abbrev pub and_of : List Tree → Tree
and_of [] = conjunction no_trees
and_of (t ∷ []) = t
and_of (t ∷ u ∷ ts) = conjunction (trees t (trees u (trees_of ts)))

abbrev pub or_of : List Tree → Tree
or_of [] = disjunction no_trees
or_of (t ∷ []) = t
or_of (t ∷ u ∷ ts) = disjunction (trees t (trees u (trees_of ts)))

abbrev mutual
  pub size : Tree → ℕ
  size (word t) = 1
  size (phrase ts) = length ts
  size (window ts w) = length ts
  size (since x) = 1
  size (negation t) = 1 + size t
  size (conjunction ts) = 1 + sizes ts
  size (disjunction ts) = 1 + sizes ts

  -- the sizes of all of them
  pub sizes : Trees → ℕ
  sizes no_trees = 0
  sizes (trees t ts) = size t + sizes ts

-- two or more
abbrev pub AreSeveral : Trees → Type 0
AreSeveral no_trees = ⊥
AreSeveral (trees t no_trees) = ⊥
AreSeveral (trees t (trees u ts)) = Unit {0}

-- the greatest size of a query
abbrev pub most_size : ℕ
most_size = 64

-- the greatest reach of a window
abbrev pub most_reach : ℕ
most_reach = 1023

-- phrases and windows have at least two terms, windows a reach from 1 to 1,023, and ands and ors at
-- least two parts
abbrev mutual
  pub IsFormed : Tree → Type 0
  IsFormed (word t) = Unit {0}
  IsFormed (phrase ts) = 2 ≤ length ts
  IsFormed (window ts w) = (2 ≤ length ts) × (1 ≤ w) × (w ≤ most_reach)
  IsFormed (since x) = Unit {0}
  IsFormed (negation t) = IsFormed t
  IsFormed (conjunction ts) = AreSeveral ts × AreFormed ts
  IsFormed (disjunction ts) = AreSeveral ts × AreFormed ts

  pub AreFormed : Trees → Type 0
  AreFormed no_trees = Unit {0}
  AreFormed (trees t ts) = IsFormed t × AreFormed ts

pub record IsWellFormed (t : Tree) : Type 0 where
  pub formed : IsFormed t
  pub within : size t ≤ most_size

-- what is left of the room when F holds and takes n of it: nothing where F fails or there is less
-- room
abbrev pub IsLeft : Type 0 → ℕ → ℕ → Option ℕ → Type 0
IsLeft F n room None = F → room < n
IsLeft F n room (Some left) = F × (n + left ≡ room)

-- what a text with these terms asks: nothing where there is no term
abbrev pub leaf_of : List (List ℕ) → Option Tree
leaf_of [] = None
leaf_of (t ∷ []) = Some (word t)
leaf_of (t ∷ u ∷ ts) = Some (phrase (t ∷ u ∷ ts))

-- what a window text with these terms and this reach asks: one term is a word; no term is no query
abbrev pub window_of : List (List ℕ) → ℕ → Option Tree
window_of [] w = None
window_of (t ∷ []) w = Some (word t)
window_of (t ∷ u ∷ ts) w = Some (window (t ∷ u ∷ ts) w)
