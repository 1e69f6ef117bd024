-- The head of a query line: its first byte, and what it asks of the query whose text follows.
use Rattle.std.specs.Prelude.{◌≡◌, ℕ, ◌+◌, ◌≤◌, nat_lt, nat_le, eqb, ◌==◌, ◌&&◌, ◌||◌, Bool, true, false, if◌then◌else◌}
use Rattle.std.specs.Prelude.{List, [], ◌∷◌, length, take, drop, Option, Some, None, option_and_then}
use Rattle.std.specs.List.{position_or_len, before_first, after_first}
use Rattle.eb_base.specs.Match.{most_matches}
use Rattle.eb_fields.specs.Dialect.{Dialect}
use Rattle.eb_query.specs.Lexemes.{is_blank}
use Rattle.eb_fields.specs.Ids.{id_of}
use Rattle.eb_query.specs.Number.{digits_len, number_in_line, HasQueryNumber}
use Rattle.eb_query.specs.declared.ask.Ask.{Ask}
use Rattle.eb_query.specs.declared.ask.Ask.TheVariants.{Newest, Counts}

-- the line asks for a count: it begins with `#` (35), and the dialect has counts
abbrev pub is_count : Dialect → List ℕ → Bool
is_count how [] = false
is_count how (b ∷ bs) = how.counts && b == 35

-- the first byte is that of a query line: `?` (63), or `#` where that asks for a count
abbrev pub begins_query : Dialect → List ℕ → Bool
begins_query how [] = false
begins_query how (b ∷ bs) = is_count how (b ∷ bs) || b == 63

-- the most buckets
abbrev pub most_buckets : ℕ
most_buckets = 1000

-- the texts before and after the first such byte, if there is one
abbrev pub parts_round : ℕ → List ℕ → Option (List ℕ × List ℕ)
parts_round b text =
    if nat_lt (position_or_len (λ x. eqb x b) text) (length text) then Some (before_first (λ x. eqb x b) text, after_first (λ x. eqb x b) text) else None

-- the number that one to four digits write
abbrev pub number_of : List ℕ → Option ℕ
number_of text = if nat_le (length text) 4 then id_of text else None

-- n buckets from x on, each w wide, where they are numbers that buckets may have
abbrev pub are_buckets : ℕ → ℕ → ℕ → Option Ask
are_buckets x w n = if nat_le 1 w && (nat_le 1 n && nat_le n most_buckets) then Some (Counts x w n) else None

unfoldable pub buckets_by : List ℕ → List ℕ → List ℕ → Option Ask
buckets_by x w n = option_and_then (λ a. option_and_then (λ b. option_and_then (are_buckets a b) (number_of n)) (id_of w)) (id_of x)

-- the buckets of a text `X+W*N`: 43 is the plus, 42 the star
unfoldable pub buckets_in : List ℕ → Option Ask
buckets_in text = option_and_then (λ (p : List ℕ × List ℕ). option_and_then (λ (q : List ℕ × List ℕ). buckets_by p.0 q.0 q.1) (parts_round 42 p.1)) (parts_round 43 text)

-- what is counted: the total alone where there is no text
abbrev pub counts_in : List ℕ → Option Ask
counts_in [] = Some (Counts 0 1 0)
counts_in (b ∷ bs) = buckets_in (b ∷ bs)

-- how many bytes come before a blank or the end, and these
unfoldable pub range_len : List ℕ → ℕ
range_len line = position_or_len is_blank (drop 1 line)

unfoldable pub range_text : List ℕ → List ℕ
range_text line = take (range_len line) (drop 1 line)

-- the first n bytes ask this: of a count line what is counted, of any other how many matches
abbrev pub IsHead : (counts : Bool) → List ℕ → Ask → ℕ → Type 0
IsHead true line a n = (counts_in (range_text line) ≡ Some a) × (n ≡ 1 + range_len line)
IsHead false line a n = HasQueryNumber line × (a ≡ Newest (number_in_line line)) × (n ≡ 1 + digits_len line)

abbrev pub HasHead : Dialect → List ℕ → Ask → ℕ → Type 0
HasHead how line a n = IsHead (is_count how line) line a n

-- the numbers are within what a line may ask
abbrev pub IsWithin : Ask → Type 0
IsWithin (Newest k) = (1 ≤ k) × (k ≤ most_matches)
IsWithin (Counts x w n) = (1 ≤ w) × (n ≤ most_buckets)
