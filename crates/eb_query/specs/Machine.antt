-- The machine of the reader, which takes lexemes one by one over a stack of open groups. It is for
-- the contracts of the reader's private functions; Reading alone says what a line asks.
use Rattle.std.specs.Prelude.{ℕ, zero, suc, ◌+◌, nat_lt, Bool, true, false, cond, List, [], ◌∷◌, ◌++◌, length, Option, Some, None, option_and_then, nat_le}
use Rattle.eb_base.specs.Query.{Tree, negation, and_of, or_of, size, most_size}
use Rattle.eb_query.specs.Grammar.{Lexeme, opening, closing, minus, or_word, leaf, broken}
use Rattle.eb_query.specs.Lexemes.{Placed}
use Rattle.eb_query.specs.declared.ask.Ask.{Ask}
use Rattle.eb_query.specs.Reading.{Outcome, asks, bad_query, too_deep, too_many_nodes}
use Rattle.eb_query.specs.Nesting.{most_open}

-- an open group: its parts so far, the parts of the current one, and the minuses before the next
pub data Level : Type 0 where
  level : (ors ands : List Tree) (minuses : ℕ) → Level

-- the innermost group, and those round it, the next first
pub data State : Type 0 where
  state : Level → List Level → State

-- the tree after n minuses
abbrev pub negated : ℕ → Tree → Tree
negated zero t = t
negated (suc n) t = negated n (negation t)

-- the group with one more operand
abbrev pub taken : Tree → Level → Level
taken t (level ors ands m) = level ors (ands ++ negated m t ∷ []) 0

-- the parts of a group that ends now
abbrev pub parts : List Tree → List Tree → List Tree
parts ors ands = ors ++ and_of ands ∷ []

-- the state after a lexeme, if it may come there
abbrev pub step : Lexeme → State → Option State
step opening (state l below) = Some (state (level [] [] 0) (l ∷ below))
step minus (state (level ors ands m) below) = Some (state (level ors ands (suc m)) below)
step (leaf t) (state l below) = Some (state (taken t l) below)
step broken s = None
step or_word (state (level ors [] m) below) = None
step or_word (state (level ors (t ∷ ts) (suc m)) below) = None
step or_word (state (level ors (t ∷ ts) zero) below) = Some (state (level (parts ors (t ∷ ts)) [] 0) below)
step closing (state l []) = None
step closing (state (level ors [] m) (b ∷ below)) = None
step closing (state (level ors (t ∷ ts) (suc m)) (b ∷ below)) = None
step closing (state (level ors (t ∷ ts) zero) (b ∷ below)) = Some (state (taken (or_of (parts ors (t ∷ ts))) b) below)

-- the state after these lexemes
abbrev pub run : List Lexeme → State → Option State
run [] s = Some s
run (l ∷ ls) s = option_and_then (run ls) (step l s)

-- what is asked where the text ends here
abbrev pub finish : State → Option Tree
finish (state (level ors [] m) below) = None
finish (state (level ors (t ∷ ts) (suc m)) below) = None
finish (state (level ors (t ∷ ts) zero) (b ∷ below)) = None
finish (state (level ors (t ∷ ts) zero) []) = Some (or_of (parts ors (t ∷ ts)))

-- nothing is read yet
abbrev pub start : State
start = state (level [] [] 0) []

-- how many parentheses and minuses are open in these groups
abbrev pub depth : List Level → ℕ
depth [] = 0
depth (level ors ands m ∷ below) = 1 + m + depth below

-- how many are open in all
abbrev pub nest : State → ℕ
nest (state (level ors ands m) below) = m + depth below

-- a `(` or a minus
abbrev pub is_opener : Lexeme → Bool
is_opener opening = true
is_opener minus = true
is_opener closing = false
is_opener or_word = false
is_opener (leaf t) = false
is_opener broken = false

-- the lexeme opens where as many are open as may be
abbrev pub is_deep : Lexeme → State → Bool
is_deep l s = cond (is_opener l) (nat_le most_open (nest s)) false

-- the outcome of a whole query
abbrev pub sized : Ask → Tree → Outcome
sized a t = cond (nat_lt most_size (size t)) too_many_nodes (asks a t)

-- the outcome at the end of the line
abbrev pub ending : List ℕ → Ask → Option Tree → Outcome
ending line a None = bad_query (length line + 1)
ending line a (Some t) = sized a t

-- the outcome after a step, which is too deep where the flag says so
abbrev pub stepped : (State → Outcome) → ℕ → Bool → Option State → Outcome
stepped more column deep None = bad_query column
stepped more column true (Some s) = too_deep
stepped more column false (Some s) = more s

-- the outcome of these lexemes of the line, which asks this of its query
abbrev pub outcome : List ℕ → Ask → List Placed → State → Outcome
outcome line a [] s = ending line a (finish s)
outcome line a (p ∷ ps) s = stepped (outcome line a ps) p.column (is_deep p.lexeme s) (step p.lexeme s)
