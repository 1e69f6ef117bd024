-- How lines and texts are read, as a caller says it.
use Rattle.std.specs.Prelude.{ℕ, ◌==◌, ◌&&◌, List, [], ◌∷◌, Option, Some, None, option_map, option_and_then, if◌then◌else◌}
use Rattle.std.specs.Str.{is_utf8}
use Rattle.eb_text.specs.declared.cutting.Cut.{Cut}
use Rattle.eb_text.specs.declared.cutting.Cut.TheVariants.{Words, Pieces}
use Rattle.eb_fields.specs.Dialect.{Dialect, plain}
use Rattle.eb_fields.specs.Fields.{is_field_list, names_in}
use Rattle.eb_c.specs.declared.dialects.Reading.{Reading}

-- the names of fields, with commas between; none where the text is empty
abbrev pub names_by : List ℕ → Option (List (List ℕ))
names_by [] = Some []
names_by (b ∷ bs) = if is_utf8 (b ∷ bs) && is_field_list (b ∷ bs) then Some (names_in (b ∷ bs)) else None

-- the name of a member; the usual one where the text is empty
abbrev pub member_by : List ℕ → Option (Option (List ℕ))
member_by [] = Some None
member_by (b ∷ bs) = if is_utf8 (b ∷ bs) then Some (Some (b ∷ bs)) else None

-- how texts are cut: 0 is words, and 1 is pieces
abbrev pub cut_by : ℕ → Option Cut
cut_by n = if n == 0 then Some Words else (if n == 1 then Some Pieces else None)

-- how lines are read by this; nothing where it is refused
abbrev pub dialect_by : Reading → Option Dialect
dialect_by how =
    option_and_then (λ names. option_and_then (λ cut. option_and_then (λ id. option_map (λ text. record plain { names = names; cut = cut; id = id; text = text })
    (member_by how.text.now)) (member_by how.id.now)) (cut_by how.words)) (names_by how.fields.now)
