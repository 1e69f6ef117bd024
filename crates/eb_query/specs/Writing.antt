-- How a query is written as a line. Text is its bytes: 32 is a space, 34 the quotation mark, 40
-- and 41 the parentheses, 45 the minus, 63 the question mark, 126 the tilde, and 79 82 is `OR`.
use Rattle.std.specs.Prelude.{◌≡◌, ℕ, ◌≤◌, ◌≢◌, List, [], ◌∷◌, ◌++◌, codes, decimal}
use Rattle.std.specs.List.{AllByRecursion}
use Rattle.eb_fields.specs.Ids.{most_id}
use Rattle.eb_base.specs.Query.{Tree, word, phrase, window, since, negation, conjunction, disjunction, Trees, no_trees, trees}
use Rattle.eb_text.specs.Tokens.{tokens_of}

-- terms with one space between
abbrev pub spaced_terms : List (List ℕ) → List ℕ
spaced_terms [] = []
spaced_terms (t ∷ []) = t
spaced_terms (t ∷ u ∷ ts) = t ++ 32 ∷ spaced_terms (u ∷ ts)

-- the text between two quotation marks
abbrev pub in_quotes : List ℕ → List ℕ
in_quotes text = 34 ∷ text ++ 34 ∷ []

-- the quoted terms of a window, a tilde and the reach in decimal
abbrev pub window_text : List (List ℕ) → ℕ → List ℕ
window_text ts w = in_quotes (spaced_terms ts) ++ 126 ∷ decimal w

-- `since:` and the number of a bound in decimal
abbrev pub since_text : ℕ → List ℕ
since_text x = codes "since:" ++ decimal x

-- the text between parentheses
abbrev pub in_parentheses : List ℕ → List ℕ
in_parentheses text = 40 ∷ text ++ 41 ∷ []

abbrev mutual
  -- a query as a part of an and, and after a minus: an and and an or are in parentheses
  pub unary_text : Tree → List ℕ
  unary_text (word t) = in_quotes t
  unary_text (phrase ts) = in_quotes (spaced_terms ts)
  unary_text (window ts w) = window_text ts w
  unary_text (since x) = since_text x
  unary_text (negation t) = 45 ∷ unary_text t
  unary_text (conjunction ts) = in_parentheses (and_text ts)
  unary_text (disjunction ts) = in_parentheses (or_text ts)

  -- a query as a part of an or: only an or is in parentheses
  pub part_text : Tree → List ℕ
  part_text (word t) = in_quotes t
  part_text (phrase ts) = in_quotes (spaced_terms ts)
  part_text (window ts w) = window_text ts w
  part_text (since x) = since_text x
  part_text (negation t) = 45 ∷ unary_text t
  part_text (conjunction ts) = and_text ts
  part_text (disjunction ts) = in_parentheses (or_text ts)

  -- the parts of an and, with a space between
  pub and_text : Trees → List ℕ
  and_text no_trees = []
  and_text (trees t ts) = unary_text t ++ and_more_text ts

  -- the further parts of an and, each after a space
  pub and_more_text : Trees → List ℕ
  and_more_text no_trees = []
  and_more_text (trees t ts) = 32 ∷ unary_text t ++ and_more_text ts

  -- the parts of an or, with ` OR ` between
  pub or_text : Trees → List ℕ
  or_text no_trees = []
  or_text (trees t ts) = part_text t ++ or_more_text ts

  -- the further parts of an or, each after ` OR `
  pub or_more_text : Trees → List ℕ
  or_more_text no_trees = []
  or_more_text (trees t ts) = 32 ∷ 79 ∷ 82 ∷ 32 ∷ part_text t ++ or_more_text ts

-- a query alone: no parentheses round it
abbrev pub query_text : Tree → List ℕ
query_text (word t) = in_quotes t
query_text (phrase ts) = in_quotes (spaced_terms ts)
query_text (window ts w) = window_text ts w
query_text (since x) = since_text x
query_text (negation t) = 45 ∷ unary_text t
query_text (conjunction ts) = and_text ts
query_text (disjunction ts) = or_text ts

-- the line: a question mark, the number in decimal, a space and the query
abbrev pub line_text : ℕ → Tree → List ℕ
line_text k t = 63 ∷ decimal k ++ 32 ∷ query_text t

-- the text can be named in a query: it has no quotation mark, and exactly these terms as its tokens
pub record IsNamed (text : List ℕ) (terms : List (List ℕ)) : Type 0 where
  pub unquoted : AllByRecursion (λ b. b ≢ 34) text
  pub tokens : tokens_of text ≡ terms

abbrev mutual
  -- the text of each word, phrase and window can be named, and each bound is on an id that can be
  pub AreNamed : Tree → Type 0
  AreNamed (word t) = IsNamed t (t ∷ [])
  AreNamed (phrase ts) = IsNamed (spaced_terms ts) ts
  AreNamed (window ts w) = IsNamed (spaced_terms ts) ts
  AreNamed (since x) = x ≤ most_id
  AreNamed (negation t) = AreNamed t
  AreNamed (conjunction ts) = AllNamed ts
  AreNamed (disjunction ts) = AllNamed ts

  -- and so in each of these parts
  pub AllNamed : Trees → Type 0
  AllNamed no_trees = Unit {0}
  AllNamed (trees t ts) = AreNamed t × AllNamed ts
