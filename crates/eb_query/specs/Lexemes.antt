-- The lexemes of a query text. Text is its UTF-8 bytes: 32 is a space, 9 a tab, 40 and 41 the
-- parentheses, 34 the quotation mark, 45 the minus, 126 the tilde.
use Rattle.eb_fields.specs.Dialect.{Dialect}
use Rattle.std.specs.Prelude.{ℕ, zero, suc, ◌+◌, nat_lt, nat_le, eqb, ◌&&◌, ◌||◌, Bool, true, false, if◌then◌else◌}
use Rattle.std.specs.Prelude.{List, [], ◌∷◌, length, take, drop, codes, Option, Some, None, option_map, option_and_then}
use Rattle.std.specs.List.{position_or_len, starts_with}
use Rattle.std.specs.Str.{bytes_eq}
use Rattle.eb_base.specs.Query.{Tree, word, since, leaf_of, window_of, most_reach}
use Rattle.eb_text.specs.Pieces.{tokens_by}
use Rattle.eb_fields.specs.Fields.{begun_name, field_term}
use Rattle.eb_fields.specs.Digits.{is_no_digit, decimal_after}
use Rattle.eb_fields.specs.Ids.{id_of}
use Rattle.eb_query.specs.Grammar.{Lexeme, opening, closing, minus, or_word, leaf, broken}

-- a lexeme, and the place of its first byte in the line, counted from 1
pub record Placed : Type 0 where
  pub column : ℕ
  pub lexeme : Lexeme

-- a space or a tab
abbrev pub is_blank : ℕ → Bool
is_blank b = eqb b 32 || eqb b 9

-- a blank, a parenthesis or a quotation mark
abbrev pub ends_run : ℕ → Bool
ends_run b = is_blank b || eqb b 40 || eqb b 41 || eqb b 34

-- a quotation mark
abbrev pub is_quote : ℕ → Bool
is_quote b = eqb b 34

-- what a text asks is a leaf, and a text that asks nothing is broken
abbrev pub of_leaf : Option Tree → Lexeme
of_leaf None = broken
of_leaf (Some t) = leaf t

-- a text, by its tokens: one is a word, several are a phrase; here and below it is said how lines
-- are read
unfoldable pub text_lexeme : Dialect → List ℕ → Lexeme
text_lexeme how text = of_leaf (leaf_of (tokens_by how.cut text))

-- what ends a run comes first, or there is no byte
abbrev pub is_run_end : List ℕ → Bool
is_run_end [] = true
is_run_end (b ∷ bs) = ends_run b

-- the first n bytes are digits that write a reach: one to four of a value from 1 to the greatest
-- reach, with what ends a run after them, or nothing
abbrev pub is_reach : ℕ → List ℕ → Bool
is_reach n bs =
    (nat_le 1 n && nat_le n 4) && ((nat_le 1 (decimal_after 0 (take n bs)) && nat_le (decimal_after 0 (take n bs)) most_reach) && is_run_end (drop n bs))

-- the reach that the first n bytes write, if they do
abbrev pub reach_by : ℕ → List ℕ → Option ℕ
reach_by n bs = if is_reach n bs then Some (decimal_after 0 (take n bs)) else None

-- the reach that the leading digits write, if they do
unfoldable pub reach_of : List ℕ → Option ℕ
reach_of bs = reach_by (position_or_len is_no_digit bs) bs

-- a text, and the bytes after the tilde that follows it: with a reach it is a window, or a word
-- where it is one token
unfoldable pub window_lexeme : Dialect → List ℕ → List ℕ → Lexeme
window_lexeme how text bs = of_leaf (option_and_then (window_of (tokens_by how.cut text)) (reach_of bs))

-- a tilde comes first
abbrev pub has_tilde : List ℕ → Bool
has_tilde [] = false
has_tilde (b ∷ bs) = eqb b 126

-- a text between quotation marks, and the bytes after the second one: a tilde there makes it a
-- window text
unfoldable pub quoted_lexeme : Dialect → List ℕ → List ℕ → Lexeme
quoted_lexeme how text bs = if has_tilde bs then window_lexeme how text (drop 1 bs) else text_lexeme how text

-- how many bytes after the second quotation mark belong to the lexeme: a tilde, and the digits
-- after it
unfoldable pub tilde_len : List ℕ → ℕ
tilde_len bs = if has_tilde bs then 1 + position_or_len is_no_digit (drop 1 bs) else 0

-- after a quotation mark: all up to the next one and what goes on after that, and how many bytes
-- belong to the lexeme
unfoldable pub quoted : Dialect → List ℕ → Lexeme × ℕ
quoted how bs =
    if nat_lt (position_or_len is_quote bs) (length bs)
    then (
      quoted_lexeme how (take (position_or_len is_quote bs) bs) (drop (position_or_len is_quote bs + 1) bs),
      position_or_len is_quote bs + 1 + tilde_len (drop (position_or_len is_quote bs + 1) bs),
    )
    else (broken, length bs)

-- a run: `OR` is the operator, one that begins with `since:` is a bound, any other is a text
unfoldable pub run_lexeme : Dialect → List ℕ → Lexeme
run_lexeme how run =
    if bytes_eq run (codes "OR") then or_word
    else if starts_with eqb run (codes "since:") then of_leaf (option_map since (id_of (drop 6 run)))
    else text_lexeme how run

-- the longest run that begins with b, and how many of the bytes bs after it belong to it
unfoldable pub bare : Dialect → ℕ → List ℕ → Lexeme × ℕ
bare how b bs = (run_lexeme how (b ∷ take (position_or_len ends_run bs) bs), position_or_len ends_run bs)

-- the lexeme that begins with b, and how many of the bytes bs after it belong to it, where no field
-- is named
unfoldable pub first : Dialect → ℕ → List ℕ → Lexeme × ℕ
first how b bs =
    if eqb b 40 then (opening, 0)
    else if eqb b 41 then (closing, 0)
    else if eqb b 45 then (minus, 0)
    else if eqb b 34 then quoted how bs
    else bare how b bs

-- what asks for a field's value: its term, as a word
abbrev pub field_leaf : List ℕ → List ℕ → Lexeme
field_leaf name value = leaf (word (field_term name value))

-- a field's value up to what ends a run, one byte at least, and how many bytes it has
unfoldable pub bare_value : List ℕ → List ℕ → Lexeme × ℕ
bare_value name bs =
    if eqb (position_or_len ends_run bs) 0 then (broken, 0) else (field_leaf name (take (position_or_len ends_run bs) bs), position_or_len ends_run bs)

-- after a quotation mark: a field's value up to the next one, and how many bytes belong to the
-- lexeme
unfoldable pub quoted_value : List ℕ → List ℕ → Lexeme × ℕ
quoted_value name bs =
    if nat_lt (position_or_len is_quote bs) (length bs) then (field_leaf name (take (position_or_len is_quote bs) bs), position_or_len is_quote bs + 1)
    else (broken, length bs)

-- a quotation mark comes first
abbrev pub has_quote : List ℕ → Bool
has_quote [] = false
has_quote (b ∷ bs) = is_quote b

-- after a field's name and colon: its value, between quotation marks or as a run, and how many
-- bytes belong to the lexeme
unfoldable pub value_lexeme : List ℕ → List ℕ → Lexeme × ℕ
value_lexeme name bs =
    if has_quote bs then ((quoted_value name (drop 1 bs)).0, 1 + (quoted_value name (drop 1 bs)).1) else bare_value name bs

-- the lexeme that begins with b, where this field is named there
abbrev pub named_lexeme : Dialect → Option (List ℕ) → ℕ → List ℕ → Lexeme × ℕ
named_lexeme how None b bs = first how b bs
named_lexeme how (Some name) b bs =
    ((value_lexeme name (drop (length name) bs)).0, length name + (value_lexeme name (drop (length name) bs)).1)

-- the lexeme that begins with b, and how many of the bytes bs after it belong to it: a field's,
-- where the name of one and a colon come first
unfoldable pub first_with : Dialect → ℕ → List ℕ → Lexeme × ℕ
first_with how b bs = named_lexeme how (begun_name how.names (b ∷ bs)) b bs

-- the lexemes from the column c on, where the first k bytes belong to an earlier one
unfoldable pub lexemes : Dialect → ℕ → ℕ → List ℕ → List Placed
lexemes how k c [] = []
lexemes how (suc k) c (b ∷ bs) = lexemes how k (suc c) bs
lexemes how zero c (b ∷ bs) =
    if is_blank b then lexemes how zero (suc c) bs
    else record { column = c; lexeme = (first_with how b bs).0 } ∷ lexemes how (first_with how b bs).1 (suc c) bs
