-- In which segments a query may match, by what is noted in their filters.
use Rattle.std.specs.Prelude.{ℕ, ◌&&◌, ◌||◌, Bool, true, false}
use Rattle.std.specs.List.{list_all}
use Rattle.eb_base.specs.Query.{Tree, Trees, word, phrase, window, since, negation, conjunction, disjunction, no_trees, trees}
use Rattle.eb_bloom.specs.Bits.{Bits, is_noted}

-- whether a query may match a document of the segment: a word, a phrase and a window where all
-- their terms are noted in its filter, an And where each part may match, an Or where some part may,
-- a bound and a Not in any case
abbrev mutual
  pub may_match : Bits → ℕ → Tree → Bool
  may_match b s (word t) = is_noted b s t
  may_match b s (phrase ts) = list_all (is_noted b s) ts
  may_match b s (window ts w) = list_all (is_noted b s) ts
  may_match b s (since x) = true
  may_match b s (negation q) = true
  may_match b s (conjunction qs) = each_may_match b s qs
  may_match b s (disjunction qs) = some_may_match b s qs

  pub each_may_match : Bits → ℕ → Trees → Bool
  each_may_match b s no_trees = true
  each_may_match b s (trees q qs) = may_match b s q && each_may_match b s qs

  pub some_may_match : Bits → ℕ → Trees → Bool
  some_may_match b s no_trees = false
  some_may_match b s (trees q qs) = may_match b s q || some_may_match b s qs
