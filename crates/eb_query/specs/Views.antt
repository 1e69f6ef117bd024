-- What the values of the reader represent in its machine.
use Rattle.std.specs.Prelude.{◌≡◌, ◌≤◌, true, false, List, [], ◌∷◌, map, reverse, Some, None, Result, Ok, Err}
use Rattle.eb_base.specs.Query.{Tree, tree, parts_of}
use Rattle.eb_base.specs.declared.query.Query.{Query}
use Rattle.eb_query.specs.Grammar.{Lexeme, opening, closing, minus, or_word, leaf, broken}
use Rattle.eb_query.specs.declared.ask.Ask.{Ask}
use Rattle.eb_query.specs.Reading.{Outcome, asks, bad_query, too_deep, too_many_nodes}
use Rattle.eb_query.specs.Machine.{Level, level, State, state, step, nest, is_deep}
use Rattle.eb_query.specs.declared.lexeme.Lexeme as found
use Rattle.eb_query.specs.declared.lexeme.Lexeme.TheVariants as variants
use Rattle.eb_query.specs.declared.operands.Operands.{Operands}
use Rattle.eb_query.specs.declared.operands.Operands.TheVariants as operands
use Rattle.eb_query.specs.declared.reader.Group.{Group}
use Rattle.eb_query.specs.declared.reader.Reader.{Reader}
use Rattle.eb_query.specs.declared.reader.Step.{Step}
use Rattle.eb_query.specs.declared.reader.Step.TheVariants.{Stood, Misplaced, Deep}
use Rattle.eb_query.specs.declared.read.QueryFault.{QueryFault}
use Rattle.eb_query.specs.declared.read.QueryFault.TheVariants as faults
use Rattle.eb_query.specs.Nesting.{most_open}

-- the lexeme of the grammar
abbrev pub lexeme_of : found.Lexeme → Lexeme
lexeme_of variants.Opening = opening
lexeme_of variants.Closing = closing
lexeme_of variants.Minus = minus
lexeme_of variants.OrWord = or_word
lexeme_of (variants.Leaf q) = leaf (tree q)
lexeme_of variants.Broken = broken

-- the operands of the part that is read now
abbrev pub operands_of : Operands → List Tree
operands_of (operands.One q) = tree q ∷ []
operands_of (operands.Listed qs) = parts_of qs

-- the group of the machine
abbrev pub level_of : Group → Level
level_of g = level (parts_of g.ors) (operands_of g.ands) g.minuses

-- the state of the machine
abbrev pub state_of : Reader → State
state_of r = state (level_of r.group) (reverse (map level_of r.outer.items))

-- the count of what is open is right, and within the deepest nesting
pub record IsCounted (r : Reader) : Type 0 where
  pub nesting : r.nesting ≡ nest (state_of r)
  pub within : r.nesting ≤ most_open

-- what a step from s to t says of the machine
abbrev pub Steps : Step → Lexeme → State → State → Type 0
Steps Stood l s t = (step l s ≡ Some t) × (is_deep l s ≡ false)
Steps Misplaced l s t = step l s ≡ None
Steps Deep l s t = (r : State) × (step l s ≡ Some r) × (is_deep l s ≡ true)

-- the query text has this outcome, where the line asks this of its query, unless memory ran out
abbrev pub Finds : Ask → Outcome → Result Query QueryFault → Type 0
Finds a o (Ok q) = o ≡ asks a (tree q)
Finds a o (Err faults.BadNumber) = ⊥
Finds a o (Err (faults.BadQuery c)) = o ≡ bad_query c
Finds a o (Err faults.TooDeep) = o ≡ too_deep
Finds a o (Err faults.TooManyNodes) = o ≡ too_many_nodes
Finds a o (Err faults.NoMemory) = Unit {0}
