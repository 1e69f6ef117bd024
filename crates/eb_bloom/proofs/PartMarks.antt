-- The parts of a query, one after another, and in which segments each may match.
use Rattle.std.proofs.Common.{◌≡◌, ℕ, ◌+◌, ◌<◌, ◌&&◌, ◌||◌, List, map, drop, length, get_or, add-one, drop-cons, rules, Box, Global}
use Rattle.eb_base.specs.Query.{tree, trees_of, since, negation}
use Rattle.eb_base.specs.declared.query.Query.{Query, Since, Not, the_lemmas}
use Rattle.eb_bloom.specs.Bits.{Bits}
use Rattle.eb_bloom.specs.Likely.{may_match, each_may_match, some_may_match}

pub tree_Since : (x : ℕ) → tree (Since x) ≡ since x
tree_Since x = search (rules, the_lemmas)

pub tree_Not : (q : Box Query Global) → tree (Not q) ≡ negation (tree q.value)
tree_Not q = search (rules, the_lemmas)

pub each_next : (qs : List Query) (i : ℕ) (q : Query) (b : Bits) (s : ℕ) → i < length qs → q ≡ get_or qs i q
    → each_may_match b s (trees_of (map tree (drop i qs))) ≡ (may_match b s (tree q) && each_may_match b s (trees_of (map tree (drop (i + 1) qs))))
each_next qs i q b s h e = rw (add-one, drop-cons qs i q, ← e)

pub some_next : (qs : List Query) (i : ℕ) (q : Query) (b : Bits) (s : ℕ) → i < length qs → q ≡ get_or qs i q
    → some_may_match b s (trees_of (map tree (drop i qs))) ≡ (may_match b s (tree q) || some_may_match b s (trees_of (map tree (drop (i + 1) qs))))
some_next qs i q b s h e = rw (add-one, drop-cons qs i q, ← e)
