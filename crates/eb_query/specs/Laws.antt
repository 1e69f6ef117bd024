-- What holds of reading and writing, over the definitions alone.
use Rattle.eb_fields.specs.Dialect.{Dialect, plain}
use Rattle.std.specs.Prelude.{◌≡◌, ◌⊎◌, ℕ, ◌≤◌, false, List, map}
use Rattle.std.specs.Str.{IsUtf8}
use Rattle.eb_base.specs.Query.{Tree, IsWellFormed}
use Rattle.eb_query.specs.Grammar.{Lexeme}
use Rattle.eb_query.specs.Nesting.{NestsWithin}
use Rattle.eb_query.specs.Lexemes.{Placed, first, first_with}
use Rattle.eb_query.specs.Number.{lexemes_of_line}
use Rattle.eb_query.specs.declared.ask.Ask.{Ask}
use Rattle.eb_query.specs.declared.ask.Ask.TheVariants.{Newest}
use Rattle.eb_query.specs.Reading.{Outcome, asks, ReadsWith, ReadsAs}
use Rattle.eb_query.specs.WatchLine.{WatchOutcome, reads, ReadsWatchWith}
use Rattle.eb_query.specs.Apart.{IsApart}
use Rattle.eb_query.specs.Writing.{AreNamed, line_text}
use Rattle.eb_base.specs.Match.{most_matches}

-- the rules leave no line out, whatever fields are read: each line asks something or is refused
abbrev pub SomeReading : Type 0
SomeReading = (how : Dialect) (line : List ℕ) → (o : Outcome) × ReadsWith how line o

-- a line has one reading: the rules decide what it asks, or where and why it is refused
abbrev pub OneReading : Type 0
OneReading = (how : Dialect) (line : List ℕ) (a b : Outcome) → ReadsWith how line a → ReadsWith how line b → a ≡ b

-- and so of watch lines: none is left out
abbrev pub SomeWatchReading : Type 0
SomeWatchReading = (how : Dialect) (line : List ℕ) → (o : WatchOutcome) × ReadsWatchWith how line o

-- and each has one reading
abbrev pub OneWatchReading : Type 0
OneWatchReading =
    (how : Dialect) (line : List ℕ) (a b : WatchOutcome) → ReadsWatchWith how line a → ReadsWatchWith how line b → a ≡ b

-- the lexemes of a line's query text, in order, without fields
abbrev pub kinds_of_line : List ℕ → List Lexeme
kinds_of_line line = map (λ (p : Placed). p.lexeme) (lexemes_of_line plain line)

-- what is written for a number and a query asks for that number of matches of that query, where
-- the texts of its leaves can be named and the written text doesn't nest too deep
abbrev pub ReadsBack : Type 0
ReadsBack = (k : ℕ) (t : Tree) → 1 ≤ k → k ≤ most_matches → IsWellFormed t → AreNamed t
    → NestsWithin (kinds_of_line (line_text k t)) → ReadsAs (line_text k t) (asks (Newest k) t)

-- without fields a lexeme is the same as by the rules without fields
abbrev pub InPlain : Type 0
InPlain = (b : ℕ) (bs : List ℕ) → first_with plain b bs ≡ first plain b bs

-- whatever fields are read, a query's phrases and windows are of texts, so no field's term is in
-- them
abbrev pub FieldsApart : Type 0
FieldsApart = (how : Dialect) (line : List ℕ) (a : Ask) (t : Tree) → IsUtf8 line
    → ReadsWith how line (asks a t) ⊎ ReadsWatchWith how line (reads (asks a t)) → IsApart t

-- where the dialect has no counts, a query line asks for the newest matches alone
abbrev pub NewestAlone : Type 0
NewestAlone = (how : Dialect) (line : List ℕ) (a : Ask) (t : Tree) → how.counts ≡ false → ReadsWith how line (asks a t) → (k : ℕ) × (a ≡ Newest k)
