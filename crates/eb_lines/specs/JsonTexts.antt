-- The bytes of the JSON lines, piece by piece, for private clauses.
use Rattle.std.specs.Prelude.{ℕ, List, [], ◌∷◌, ◌++◌, Option, Some, None, codes}
use Rattle.std.specs.Fmt.{decimal}
use Rattle.eb_lines.specs.declared.form.Tail.{Tail}
use Rattle.eb_lines.specs.declared.form.Tail.TheVariants.{Nothing, Kept, Segments, Generations}
use Rattle.eb_lines.specs.declared.refusal.Refusal.{Refusal}
use Rattle.eb_lines.specs.Refusals.{Told, row}
use Rattle.eb_lines.specs.Words.{parted}

-- numbers with a comma (44) between two of them
abbrev pub listed : List ℕ → List ℕ
listed [] = []
listed (n ∷ ns) = decimal n ++ parted 44 ns

abbrev pub answer_text : ℕ → ℕ → List ℕ → List ℕ
answer_text number seen ids = codes "{\"line\":" ++ decimal number ++ codes ",\"seen\":" ++ decimal seen ++ codes ",\"ids\":[" ++ listed ids ++ codes "]}\n"

abbrev pub buckets_text : List ℕ → List ℕ
buckets_text [] = codes "}\n"
buckets_text (n ∷ ns) = codes ",\"buckets\":[" ++ (listed (n ∷ ns) ++ codes "]}\n")

abbrev pub count_text : ℕ → ℕ → ℕ → List ℕ → List ℕ
count_text number seen total buckets = codes "{\"line\":" ++ decimal number ++ codes ",\"seen\":" ++ decimal seen ++ codes ",\"count\":" ++ decimal total ++ buckets_text buckets

abbrev pub watch_text : ℕ → List ℕ → List ℕ
watch_text number ns = codes "{\"line\":" ++ decimal number ++ codes ",\"watches\":[" ++ listed ns ++ codes "]}\n"

-- what a refusal gives, as a further member
abbrev pub told_text : Option Told → List ℕ
told_text None = []
told_text (Some told) = codes ",\"" ++ told.key ++ codes "\":" ++ decimal told.number

abbrev pub cause_text : Refusal → List ℕ
cause_text r = codes "\"" ++ (row r).name ++ codes "\"" ++ told_text (row r).told ++ codes "}\n"

abbrev pub refusal_text : ℕ → Refusal → List ℕ
refusal_text number r = codes "{\"line\":" ++ decimal number ++ codes ",\"refused\":" ++ cause_text r

abbrev pub segments_text : ℕ → ℕ → List ℕ
segments_text begun converted = codes "}}\n{\"segments\":" ++ decimal begun ++ codes ",\"converted\":" ++ decimal converted

abbrev pub tail_text : Tail → List ℕ
tail_text Nothing = codes "}}\n"
tail_text (Kept kept) = codes ",\"kept\":" ++ decimal kept ++ codes "}}\n"
tail_text (Segments begun converted) = segments_text begun converted ++ codes "}\n"
tail_text (Generations kept segments converted begun) = codes ",\"kept\":" ++ decimal kept ++ segments_text segments converted ++ codes ",\"generations\":" ++ decimal begun ++ codes "}\n"

abbrev pub summary_text : ℕ → ℕ → ℕ → Tail → List ℕ
summary_text d q r tail = codes "{\"end\":{\"documents\":" ++ decimal d ++ codes ",\"queries\":" ++ decimal q ++ codes ",\"refused\":" ++ decimal r ++ tail_text tail
