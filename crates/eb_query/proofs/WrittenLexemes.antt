-- The lexemes of a written query.
use Rattle.std.proofs.Common.{List, [], ◌∷◌, ◌++◌}
use Rattle.eb_base.specs.Query.{Tree, word, phrase, window, since, negation, conjunction, disjunction, Trees, no_trees, trees}
use Rattle.eb_query.specs.Grammar.{Lexeme, opening, closing, minus, or_word, leaf}

abbrev mutual
  -- in the forms of the text
  pub unary_lexemes : Tree → List Lexeme
  unary_lexemes (word t) = leaf (word t) ∷ []
  unary_lexemes (phrase ts) = leaf (phrase ts) ∷ []
  unary_lexemes (window ts w) = leaf (window ts w) ∷ []
  unary_lexemes (since x) = leaf (since x) ∷ []
  unary_lexemes (negation t) = minus ∷ unary_lexemes t
  unary_lexemes (conjunction ts) = opening ∷ and_lexemes ts ++ closing ∷ []
  unary_lexemes (disjunction ts) = opening ∷ or_lexemes ts ++ closing ∷ []

  pub part_lexemes : Tree → List Lexeme
  part_lexemes (word t) = leaf (word t) ∷ []
  part_lexemes (phrase ts) = leaf (phrase ts) ∷ []
  part_lexemes (window ts w) = leaf (window ts w) ∷ []
  part_lexemes (since x) = leaf (since x) ∷ []
  part_lexemes (negation t) = minus ∷ unary_lexemes t
  part_lexemes (conjunction ts) = and_lexemes ts
  part_lexemes (disjunction ts) = opening ∷ or_lexemes ts ++ closing ∷ []

  pub and_lexemes : Trees → List Lexeme
  and_lexemes no_trees = []
  and_lexemes (trees t ts) = unary_lexemes t ++ and_lexemes ts

  pub or_lexemes : Trees → List Lexeme
  or_lexemes no_trees = []
  or_lexemes (trees t ts) = part_lexemes t ++ or_more_lexemes ts

  pub or_more_lexemes : Trees → List Lexeme
  or_more_lexemes no_trees = []
  or_more_lexemes (trees t ts) = or_word ∷ part_lexemes t ++ or_more_lexemes ts

-- of a query alone
abbrev pub query_lexemes : Tree → List Lexeme
query_lexemes (word t) = leaf (word t) ∷ []
query_lexemes (phrase ts) = leaf (phrase ts) ∷ []
query_lexemes (window ts w) = leaf (window ts w) ∷ []
query_lexemes (since x) = leaf (since x) ∷ []
query_lexemes (negation t) = minus ∷ unary_lexemes t
query_lexemes (conjunction ts) = and_lexemes ts
query_lexemes (disjunction ts) = or_lexemes ts
