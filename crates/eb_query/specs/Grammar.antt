-- The grammar of query texts, as relations on lists of lexemes.
use Rattle.std.specs.Prelude.{◌≡◌, List, [], ◌∷◌, ◌++◌}
use Rattle.eb_base.specs.Query.{Tree, negation, and_of, or_of}

-- A lexeme of a query text. A bare word, a quoted text, a window text and a bound are leaves, each
-- with what it asks. A quote that isn't closed, a text without a token, a window text without a
-- reach and a bound without an id are broken: no rule has them.
pub data Lexeme : Type 0 where
  opening : Lexeme
  closing : Lexeme
  minus : Lexeme
  or_word : Lexeme
  leaf : Tree → Lexeme
  broken : Lexeme

-- The rules, each for the prefix of a list of lexemes and what follows that prefix:
--   unary := leaf | "-" unary | "(" or ")"
--   and   := unary+
--   or    := and ("OR" and)*
-- A minus negates, parentheses add nothing, and one part alone is that part.
mutual
  -- ls begins with a unary that asks t, and rest follows it
  pub data IsUnary : List Lexeme → Tree → List Lexeme → Type 0 where
    a_leaf : {t : Tree} {rest : List Lexeme} → IsUnary (leaf t ∷ rest) t rest
    a_minus : {ls rest : List Lexeme} {t : Tree} → IsUnary ls t rest → IsUnary (minus ∷ ls) (negation t) rest
    a_group : {ls rest : List Lexeme} {ts : List Tree} → IsOr ls ts (closing ∷ rest)
        → IsUnary (opening ∷ ls) (or_of ts) rest

  -- ls begins with an and of the parts ts, and rest follows it
  pub data IsAnd : List Lexeme → List Tree → List Lexeme → Type 0 where
    last : {ls rest : List Lexeme} {t : Tree} → IsUnary ls t rest → IsAnd ls (t ∷ []) rest
    beside : {ls mid rest : List Lexeme} {t : Tree} {ts : List Tree} → IsUnary ls t mid → IsAnd mid ts rest
        → IsAnd ls (t ∷ ts) rest

  -- ls begins with an or of the parts ts, and rest follows it
  pub data IsOr : List Lexeme → List Tree → List Lexeme → Type 0 where
    final : {ls rest : List Lexeme} {ts : List Tree} → IsAnd ls ts rest → IsOr ls (and_of ts ∷ []) rest
    either : {ls mid rest : List Lexeme} {ts us : List Tree} → IsAnd ls ts (or_word ∷ mid) → IsOr mid us rest
        → IsOr ls (and_of ts ∷ us) rest

-- the whole list is an or, and this is what it asks
abbrev pub GivesTree : List Lexeme → Tree → Type 0
GivesTree ls t = (ts : List Tree) × IsOr ls ts [] × (t ≡ or_of ts)

-- some lexemes complete the list
abbrev pub Continues : List Lexeme → Type 0
Continues ls = (more : List Lexeme) × (t : Tree) × GivesTree (ls ++ more) t
