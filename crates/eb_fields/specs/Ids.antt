-- Ids of documents as texts.
use Rattle.std.specs.Prelude.{ℕ, nat_le, eqb, ◌&&◌, Bool, List, length, Option, Some, None, if◌then◌else◌}
use Rattle.std.specs.List.{position_or_len}
use Rattle.eb_fields.specs.Digits.{is_no_digit, decimal_after}

-- the greatest id of a document
abbrev pub most_id : ℕ
most_id = 18446744073709551615

-- the bytes are one to twenty digits of a value that an id may have
abbrev pub is_id : List ℕ → Bool
is_id ds =
    (nat_le 1 (length ds) && nat_le (length ds) 20) && (eqb (position_or_len is_no_digit ds) (length ds) && nat_le (decimal_after 0 ds) most_id)

-- the id that the bytes write, if they do
unfoldable pub id_of : List ℕ → Option ℕ
id_of ds = if is_id ds then Some (decimal_after 0 ds) else None
