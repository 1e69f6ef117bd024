-- Which documents a query matches, and what the answer to a query is.
use Rattle.std.specs.Prelude.{◌≡◌, ℕ, ◌+◌, ◌<◌, ◌≤◌, nat_lt, Bool, true, false, not, ◌&&◌, ◌||◌, ◌⊎◌, if◌then◌else◌, List, [], ◌∷◌, map, reverse, take, drop, filter, length, slice_get, Some, bytes_eq}
use Rattle.std.specs.List.{Contains, list_any, starts_with}
use Rattle.eb_base.specs.Document.{Doc}
use Rattle.eb_base.specs.Query.{Tree, Trees, word, phrase, window, since, negation, conjunction, disjunction, no_trees, trees}

-- the terms of the list `ts` occur in `terms` at places that rise, the first of them at `first` and
-- the last at `last`
abbrev pub Stand : List (List ℕ) → List (List ℕ) → ℕ → ℕ → Type 0
Stand terms [] first last = ⊥
Stand terms (t ∷ []) first last = (slice_get terms first ≡ Some t) × (last ≡ first)
Stand terms (t ∷ u ∷ ts) first last = (slice_get terms first ≡ Some t) × ((next : ℕ) × (first < next) × Stand terms (u ∷ ts) next last)

-- the query matches the document
--   word: the term is one of the document's
--   phrase: from some place of the document on its terms follow one another
--   window: its terms occur in their order, the last at most `w` places after the first
--   since: the document's id is greater
--   negation: its part doesn't match; conjunction: each part does; disjunction: some part does
abbrev mutual
  pub Matches : Tree → Doc → Type 0
  Matches (word t) d = Contains d.terms t
  Matches (phrase ts) d = (i : ℕ) × (take (length ts) (drop i d.terms) ≡ ts)
  Matches (window ts w) d = (first : ℕ) × (last : ℕ) × Stand d.terms ts first last × (last ≤ first + w)
  Matches (since x) d = x < d.id
  Matches (negation q) d = Matches q d → ⊥
  Matches (conjunction qs) d = EachMatches qs d
  Matches (disjunction qs) d = SomeMatches qs d

  pub EachMatches : Trees → Doc → Type 0
  EachMatches no_trees d = Unit {0}
  EachMatches (trees q qs) d = Matches q d × EachMatches qs d

  pub SomeMatches : Trees → Doc → Type 0
  SomeMatches no_trees d = ⊥
  SomeMatches (trees q qs) d = Matches q d ⊎ SomeMatches qs d

-- the phrase begins at some place of the list
abbrev pub has_phrase : List (List ℕ) → List (List ℕ) → Bool
has_phrase p [] = starts_with bytes_eq [] p
has_phrase p (t ∷ ts) = starts_with bytes_eq (t ∷ ts) p || has_phrase p ts

-- the terms of the first list occur in the second in their order
abbrev pub has_in_order : List (List ℕ) → List (List ℕ) → Bool
has_in_order [] terms = true
has_in_order (t ∷ ts) [] = false
has_in_order (t ∷ ts) (u ∷ us) = if bytes_eq t u then has_in_order ts us else has_in_order (t ∷ ts) us

-- the window begins at some place of the list: its further terms occur in their order in the next
-- `w` places
abbrev pub has_window : List (List ℕ) → ℕ → List (List ℕ) → Bool
has_window [] w terms = false
has_window (t ∷ ts) w [] = false
has_window (t ∷ ts) w (u ∷ us) = (bytes_eq t u && has_in_order ts (take w us)) || has_window (t ∷ ts) w us

-- `Matches` as a test
abbrev mutual
  pub is_match : Tree → Doc → Bool
  is_match (word t) d = list_any (bytes_eq t) d.terms
  is_match (phrase ts) d = has_phrase ts d.terms
  is_match (window ts w) d = has_window ts w d.terms
  is_match (since x) d = nat_lt x d.id
  is_match (negation q) d = not (is_match q d)
  is_match (conjunction qs) d = each_matches qs d
  is_match (disjunction qs) d = some_matches qs d

  pub each_matches : Trees → Doc → Bool
  each_matches no_trees d = true
  each_matches (trees q qs) d = is_match q d && each_matches qs d

  pub some_matches : Trees → Doc → Bool
  some_matches no_trees d = false
  some_matches (trees q qs) d = is_match q d || some_matches qs d

-- the documents that match, newest first
abbrev pub matches : Tree → List Doc → List Doc
matches q docs = reverse (filter (is_match q) docs)

-- the most matches that can be asked for
abbrev pub most_matches : ℕ
most_matches = 1000

-- the answer: the ids of the newest k documents that match, newest first
unfoldable pub answer : Tree → ℕ → List Doc → List ℕ
answer q k docs = map (λ d. d.id) (take k (matches q docs))
