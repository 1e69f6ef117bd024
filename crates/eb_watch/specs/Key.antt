-- The key of a query: terms of which each document that matches it has one.
use Rattle.std.specs.Prelude.{ℕ, Bool, false, ◌||◌, List, [], ◌∷◌, ◌++◌, bytes_eq, Option, None, Some, option_map}
use Rattle.std.specs.Option.{option_or, is_none}
use Rattle.std.specs.List.{list_any}
use Rattle.eb_base.specs.Document.{Doc}
use Rattle.eb_base.specs.Query.{Tree, Trees, word, phrase, window, since, negation, conjunction, disjunction, no_trees, trees}

-- the first term alone
abbrev pub first_term : List (List ℕ) → Option (List (List ℕ))
first_term [] = None
first_term (t ∷ ts) = Some (t ∷ [])

-- the terms of two keys, where both are there
abbrev pub joined_keys : Option (List (List ℕ)) → Option (List (List ℕ)) → Option (List (List ℕ))
joined_keys None other = None
joined_keys (Some ts) other = option_map (λ us. ts ++ us) other

-- the key of a query, a list of terms or nothing
--   word: its term; phrase and window: the first term; since and negation: nothing
--   conjunction: the key of the first part that has one
--   disjunction: the terms of all parts' keys, where each part has one
abbrev mutual
  pub watch_key : Tree → Option (List (List ℕ))
  watch_key (word t) = Some (t ∷ [])
  watch_key (phrase ts) = first_term ts
  watch_key (window ts w) = first_term ts
  watch_key (since x) = None
  watch_key (negation q) = None
  watch_key (conjunction qs) = first_key qs
  watch_key (disjunction qs) = all_keys qs

  pub first_key : Trees → Option (List (List ℕ))
  first_key no_trees = None
  first_key (trees q qs) = option_or (watch_key q) (first_key qs)

  pub all_keys : Trees → Option (List (List ℕ))
  all_keys no_trees = Some []
  all_keys (trees q qs) = joined_keys (watch_key q) (all_keys qs)

-- the query has no key
abbrev pub is_keyless : Tree → Bool
is_keyless q = is_none (watch_key q)

-- the term is in the key
abbrev pub key_has : Option (List (List ℕ)) → List ℕ → Bool
key_has None t = false
key_has (Some ts) t = list_any (bytes_eq t) ts

-- the query has no key, or one of the document's terms is in its key: no other query can match the
-- document
abbrev pub is_candidate : Tree → Doc → Bool
is_candidate q d = is_keyless q || list_any (key_has (watch_key q)) d.terms
