-- The terms of a document's fields.
use Rattle.std.specs.Prelude.{ℕ, ◌&&◌, Bool, true, nat_lt, nat_le, suc, List, [], ◌∷◌, ◌++◌, map, length, codes, Option, Some, None, is_some}
use Rattle.std.specs.Prelude.{option_map, option_to_list, if◌then◌else◌}
use Rattle.std.specs.Fmt.{signed_decimal}
use Rattle.std.specs.List.{list_any}
use Rattle.serde_json.specs.Data.{Data, null, boolean, number, string, array, object, Items, no_items, item}
use Rattle.serde_json.specs.Find.{get, as_integer}
use Rattle.eb_text.specs.Tokens.{folded}
use Rattle.eb_fields.specs.Fields.{field_term, most_value_bytes}

-- the most items of an array that gives values
abbrev pub most_items : ℕ
most_items = 16

-- the value as a text: a string is itself, a whole number is in decimal, and a boolean is its word;
-- no other kind has one
abbrev pub plain_value : Data → Option (List ℕ)
plain_value null = None
plain_value (boolean is) = Some (if is then codes "true" else codes "false")
plain_value (number n) = option_map signed_decimal (as_integer n)
plain_value (string text) = Some text
plain_value (array _) = None
plain_value (object _) = None

-- each of these has one
abbrev pub are_plain : Items → Bool
are_plain no_items = true
are_plain (item value items) = is_some (plain_value value) && are_plain items

-- those that they have
abbrev pub plain_values : Items → List (List ℕ)
plain_values no_items = []
plain_values (item value items) = option_to_list (plain_value value) ++ plain_values items

abbrev pub item_count : Items → ℕ
item_count no_items = 0
item_count (item value items) = suc (item_count items)

-- the values that a member gives: one, or those of an array of at most 16, where each item is of
-- such a kind
abbrev pub field_values : Data → List (List ℕ)
field_values null = []
field_values (boolean is) = option_to_list (plain_value (boolean is))
field_values (number n) = option_to_list (plain_value (number n))
field_values (string text) = option_to_list (plain_value (string text))
field_values (array items) = if nat_le (item_count items) most_items && are_plain items then plain_values items else []
field_values (object _) = []

abbrev pub values_of : Option Data → List (List ℕ)
values_of None = []
values_of (Some member) = field_values member

-- the values of the object's member of this name, if it has one
abbrev pub named_values : List ℕ → Data → List (List ℕ)
named_values name value = values_of (get name value)

-- the terms of the fields of these names, name by name
abbrev pub field_terms : List (List ℕ) → Data → List (List ℕ)
field_terms [] value = []
field_terms (name ∷ names) value = map (field_term name) (named_values name value) ++ field_terms names value

-- the value has more bytes under case folding than a field's may have
abbrev pub is_long : List ℕ → Bool
is_long value = nat_lt most_value_bytes (length (folded value))

-- some value of the fields of these names has
abbrev pub has_long_value : List (List ℕ) → Data → Bool
has_long_value names value = list_any (λ name. list_any is_long (named_values name value)) names
