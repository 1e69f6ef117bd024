-- The parts of a query, one after another.
use Rattle.std.proofs.Common.{◌≡◌, ℕ, ◌+◌, ◌<◌, ◌&&◌, ◌||◌, List, map, drop, length, get_or, drop-cons, add-one}
use Rattle.eb_base.specs.Document.{Doc}
use Rattle.eb_base.specs.Query.{tree, trees_of}
use Rattle.eb_base.specs.Match.{is_match, each_matches, some_matches}
use Rattle.eb_base.specs.declared.query.Query.{Query}

pub each_next : (qs : List Query) (i : ℕ) (q : Query) (d : Doc) → i < length qs → q ≡ get_or qs i q
    → each_matches (trees_of (map tree (drop i qs))) d ≡ (is_match (tree q) d && each_matches (trees_of (map tree (drop (i + 1) qs))) d)
each_next qs i q d h e = rw (add-one, drop-cons qs i q, ← e)

pub some_next : (qs : List Query) (i : ℕ) (q : Query) (d : Doc) → i < length qs → q ≡ get_or qs i q
    → some_matches (trees_of (map tree (drop i qs))) d ≡ (is_match (tree q) d || some_matches (trees_of (map tree (drop (i + 1) qs))) d)
some_next qs i q d h e = rw (add-one, drop-cons qs i q, ← e)
