-- How deep a place of a query text is nested.
use Rattle.std.specs.Prelude.{◌≡◌, ℕ, ◌≤◌, List, [], ◌∷◌, ◌++◌, length}
use Rattle.eb_query.specs.Grammar.{Lexeme, opening, closing, minus, or_word, leaf, broken}

-- a `(` that is open, or a minus whose operand isn't complete
pub data Open : Type 0 where
  group : Open
  negation : Open

-- an operand is complete, and with it the minuses right before it
abbrev pub completed : List Open → List Open
completed [] = []
completed (group ∷ os) = group ∷ os
completed (negation ∷ os) = completed os

-- the innermost group is complete
abbrev pub closed : List Open → List Open
closed [] = []
closed (group ∷ os) = completed os
closed (negation ∷ os) = closed os

-- what is open after these lexemes, the innermost first, where os was open before them
abbrev pub open_after : List Lexeme → List Open → List Open
open_after [] os = os
open_after (opening ∷ ls) os = open_after ls (group ∷ os)
open_after (minus ∷ ls) os = open_after ls (negation ∷ os)
open_after (leaf t ∷ ls) os = open_after ls (completed os)
open_after (closing ∷ ls) os = open_after ls (closed os)
open_after (or_word ∷ ls) os = open_after ls os
open_after (broken ∷ ls) os = open_after ls os

-- the most that may be open at a place
abbrev pub most_open : ℕ
most_open = 16

-- how many are open after these lexemes
abbrev pub nesting : List Lexeme → ℕ
nesting ls = length (open_after ls [])

-- the lexeme opens: a `(` or a minus
abbrev pub IsOpener : Lexeme → Type 0
IsOpener opening = Unit {0}
IsOpener minus = Unit {0}
IsOpener closing = ⊥
IsOpener or_word = ⊥
IsOpener (leaf t) = ⊥
IsOpener broken = ⊥

-- at no place of these lexemes are more open than may be
abbrev pub NestsWithin : List Lexeme → Type 0
NestsWithin ls = (before after : List Lexeme) → ls ≡ before ++ after → nesting before ≤ most_open
