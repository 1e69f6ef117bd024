-- The lines that are printed, in words.
use Rattle.std.specs.Prelude.{ℕ, List, [], ◌∷◌, ◌++◌, Option, Some, None, codes, flat_map}
use Rattle.std.specs.Fmt.{decimal}
use Rattle.eb_lines.specs.declared.form.Tail.{Tail}
use Rattle.eb_lines.specs.declared.form.Tail.TheVariants.{Nothing, Kept, Segments, Generations}
use Rattle.eb_lines.specs.declared.refusal.Refusal.{Refusal}
use Rattle.eb_lines.specs.Refusals.{Told, row}

-- each number, with this byte before it
abbrev pub parted : ℕ → List ℕ → List ℕ
parted part ns = flat_map (λ n. part ∷ decimal n) ns

-- the answer to a query in line `number`: how many accepted documents it saw, and the ids, each
-- with a space (32) before it
abbrev pub answer_words : ℕ → ℕ → List ℕ → List ℕ
answer_words number seen ids = decimal number ++ codes " seen " ++ decimal seen ++ codes ":" ++ parted 32 ids ++ 10 ∷ []

-- the count of a query in line `number`: how many accepted documents it saw, how many of them it
-- matches, and how many of these lie in each bucket, where there are any
abbrev pub count_words : ℕ → ℕ → ℕ → List ℕ → List ℕ
count_words number seen total buckets = decimal number ++ codes " count " ++ decimal seen ++ codes ": " ++ decimal total ++ parted 32 buckets ++ 10 ∷ []

-- the numbers of the watches that the document in line `number` matches
abbrev pub watch_words : ℕ → List ℕ → List ℕ
watch_words number ns = decimal number ++ codes " watch:" ++ parted 32 ns ++ 10 ∷ []

-- the number that a refusal gives, after its name
abbrev pub told_words : Option Told → List ℕ
told_words None = []
told_words (Some told) = told.before ++ decimal told.number

-- the name of a refusal, and what it gives
abbrev pub refusal_name : Refusal → List ℕ
refusal_name r = (row r).name ++ told_words (row r).told

-- the refusal of line `number`
abbrev pub refusal_words : ℕ → Refusal → List ℕ
refusal_words number r = decimal number ++ codes " refused: " ++ refusal_name r ++ 10 ∷ []

-- what is printed beside the counts: in their line how many documents are kept, and in a line of
-- their own the segments, and how many generations are begun
abbrev pub segments_words : ℕ → ℕ → List ℕ
segments_words begun converted = 10 ∷ (codes "segments " ++ decimal begun ++ codes ", converted " ++ decimal converted)

abbrev pub tail_words : Tail → List ℕ
tail_words Nothing = []
tail_words (Kept kept) = codes ", kept " ++ decimal kept
tail_words (Segments begun converted) = segments_words begun converted
tail_words (Generations kept segments converted begun) = codes ", kept " ++ decimal kept ++ segments_words segments converted ++ codes ", generations " ++ decimal begun

-- the end: the documents accepted, the queries answered, the lines refused, and what is printed
-- beside them
abbrev pub summary_words : ℕ → ℕ → ℕ → Tail → List ℕ
summary_words d q r tail = codes "end: documents " ++ decimal d ++ codes ", queries " ++ decimal q ++ codes ", refused " ++ decimal r ++ tail_words tail ++ 10 ∷ []
