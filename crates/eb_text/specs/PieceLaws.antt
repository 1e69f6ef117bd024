-- What holds of tokens in pieces, over the definitions alone.
use Rattle.std.specs.Prelude.{◌≡◌, ℕ, ◌<◌, false, List, ◌++◌, length}
use Rattle.std.specs.List.{All, Contains}
use Rattle.std.specs.Str.{IsAscii}
use Rattle.eb_text.specs.Tokens.{folded, tokens_of}
use Rattle.eb_text.specs.Pieces.{is_mark, pieces, in_cut, tokens_by}
use Rattle.eb_text.specs.declared.cutting.Cut.TheVariants.{Pieces}

-- it has no mark
abbrev pub HasNoMark : List ℕ → Type 0
HasNoMark token = All (λ b. is_mark b ≡ false) token

-- a piece has no mark
abbrev pub NoMarks : Type 0
NoMarks = (text token : List ℕ) → Contains (tokens_by Pieces text) token → HasNoMark token

-- a token without a mark stays as it is
abbrev pub StaysWhole : Type 0
StaysWhole = (text token : List ℕ) → Contains (tokens_of text) token → 0 < length token → HasNoMark token → Contains (tokens_by Pieces text) token

-- tokens that follow one another do so in pieces, so a phrase finds what it found before
abbrev pub StayTogether : Type 0
StayTogether = (before tokens after : List (List ℕ))
    → in_cut Pieces (before ++ tokens ++ after) ≡ in_cut Pieces before ++ in_cut Pieces tokens ++ in_cut Pieces after

-- of a text of ASCII the pieces are all runs of letters and digits, whatever words they are in
abbrev pub AreRuns : Type 0
AreRuns = (text : List ℕ) → IsAscii text → tokens_by Pieces text ≡ pieces (folded text)
