-- Queries whose phrases and windows are of texts.
use Rattle.std.specs.Prelude.{◌≡◌, ℕ, List}
use Rattle.std.specs.Str.{IsUtf8}
use Rattle.eb_base.specs.Query.{Tree, word, phrase, window, since, negation, conjunction, disjunction, Trees, no_trees, trees}
use Rattle.eb_text.specs.Pieces.{tokens_by}
use Rattle.eb_text.specs.declared.cutting.Cut.{Cut}

-- the terms are the tokens of some text, however it is cut
abbrev pub AreOfText : List (List ℕ) → Type 0
AreOfText terms = (cut : Cut) × (text : List ℕ) × IsUtf8 text × (terms ≡ tokens_by cut text)

abbrev mutual
  -- the terms of each phrase and each window of the query are
  pub IsApart : Tree → Type 0
  IsApart (word t) = Unit {0}
  IsApart (phrase ts) = AreOfText ts
  IsApart (window ts w) = AreOfText ts
  IsApart (since x) = Unit {0}
  IsApart (negation t) = IsApart t
  IsApart (conjunction ts) = AreApart ts
  IsApart (disjunction ts) = AreApart ts

  -- and so in each of these parts
  pub AreApart : Trees → Type 0
  AreApart no_trees = Unit {0}
  AreApart (trees t ts) = IsApart t × AreApart ts
