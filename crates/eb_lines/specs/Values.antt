-- The lines that are printed, as values of JSON.
use Rattle.std.specs.Prelude.{ℕ, List, [], ◌∷◌, ◌++◌, Option, Some, None, codes}
use Rattle.serde_json.specs.Data.{unsigned, Data, number, string, array, object, Items, no_items, item, Members, no_members, member}
use Rattle.serde_json.specs.Written.{compact_text}
use Rattle.eb_lines.specs.declared.form.Tail.{Tail}
use Rattle.eb_lines.specs.declared.form.Tail.TheVariants.{Nothing, Kept, Segments, Generations}
use Rattle.eb_lines.specs.declared.refusal.Refusal.{Refusal}
use Rattle.eb_lines.specs.Refusals.{Told, row}

-- a value in a line of its own, with no space
abbrev pub json_line : Data → List ℕ
json_line v = compact_text v ++ 10 ∷ []

-- a member that is a whole number
abbrev pub counted : List ℕ → ℕ → Members → Members
counted key n ms = member key (number (unsigned n)) ms

abbrev pub numbers : List ℕ → Items
numbers [] = no_items
numbers (n ∷ ns) = item (number (unsigned n)) (numbers ns)

-- the answer to a query in line `line`: how many accepted documents it saw, and the ids
abbrev pub answer_value : ℕ → ℕ → List ℕ → Data
answer_value line seen ids = object (counted (codes "line") line (counted (codes "seen") seen (member (codes "ids") (array (numbers ids)) no_members)))

-- the count of a query in line `line`: how many accepted documents it saw, how many of them it
-- matches, and how many of these lie in each bucket, where there are any
abbrev pub buckets_member : List ℕ → Members
buckets_member [] = no_members
buckets_member (n ∷ ns) = member (codes "buckets") (array (numbers (n ∷ ns))) no_members

abbrev pub count_value : ℕ → ℕ → ℕ → List ℕ → Data
count_value line seen total buckets = object (counted (codes "line") line (counted (codes "seen") seen (counted (codes "count") total (buckets_member buckets))))

-- the numbers of the watches that the document in line `line` matches
abbrev pub watch_value : ℕ → List ℕ → Data
watch_value line ns = object (counted (codes "line") line (member (codes "watches") (array (numbers ns)) no_members))

-- what comes beside the name of a refusal
abbrev pub told_member : Option Told → Members
told_member None = no_members
told_member (Some told) = counted told.key told.number no_members

abbrev pub cause : Refusal → List ℕ
cause r = (row r).name

abbrev pub beside_cause : Refusal → Members
beside_cause r = told_member (row r).told

-- the refusal of line `line`
abbrev pub refusal_value : ℕ → Refusal → Data
refusal_value line r = object (counted (codes "line") line (member (codes "refused") (string (cause r)) (beside_cause r)))

-- the end: the documents accepted, the queries answered, the lines refused, and the documents kept
-- where that is printed
abbrev pub kept_member : Tail → Members
kept_member Nothing = no_members
kept_member (Kept kept) = counted (codes "kept") kept no_members
kept_member (Segments begun converted) = no_members
kept_member (Generations kept segments converted begun) = counted (codes "kept") kept no_members

abbrev pub counts_value : ℕ → ℕ → ℕ → Tail → Data
counts_value d q r tail = object (counted (codes "documents") d (counted (codes "queries") q (counted (codes "refused") r (kept_member tail))))

abbrev pub summary_value : ℕ → ℕ → ℕ → Tail → Data
summary_value d q r tail = object (member (codes "end") (counts_value d q r tail) no_members)

-- the segments, where they are printed
abbrev pub segments_value : ℕ → ℕ → Data
segments_value begun converted = object (counted (codes "segments") begun (counted (codes "converted") converted no_members))

-- and how many generations are begun
abbrev pub generations_value : ℕ → ℕ → ℕ → Data
generations_value segments converted begun = object (counted (codes "segments") segments (counted (codes "converted") converted (counted (codes "generations") begun no_members)))

abbrev pub segments_lines : Tail → List ℕ
segments_lines Nothing = []
segments_lines (Kept kept) = []
segments_lines (Segments begun converted) = json_line (segments_value begun converted)
segments_lines (Generations kept segments converted begun) = json_line (generations_value segments converted begun)
