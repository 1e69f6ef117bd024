-- The home of a desk, beside the table of its queue of answers.
use Rattle.std.specs.Prelude.{ℕ, List, ◌∷◌, drop, slice_index_or}
use Rattle.atomic_table.specs.Seated.{TableId}

-- the home, and the table of the queue of answers, each in numbers
abbrev pub Home : Type 0
Home = List ℕ × List ℕ

-- a table in numbers, and back
abbrev pub numbers_of : TableId → List ℕ
numbers_of t = t.words ∷ t.slots ∷ t.views_name ∷ t.atom ∷ t.block ∷ t.offset ∷ t.slot_names

abbrev pub table_of : List ℕ → TableId
table_of k =
    let at : ℕ → ℕ = λ i. slice_index_or k i 0 in
    record { words = at 0; slots = at 1; views_name = at 2; atom = at 3; block = at 4; offset = at 5; slot_names = drop 6 k }

-- a home at a table
abbrev pub home_at : List ℕ → TableId → Home
home_at key table = (key, numbers_of table)
