-- What the JSON lines that are printed are read as.
use Rattle.std.specs.Prelude.{◌≡◌, ℕ, ◌<◌, ◌^◌, true, List, [], ◌∷◌, ◌++◌, codes, Option, Some, None, ⊤}
use Rattle.std.specs.List.{AllByRecursion}
use Rattle.serde_json.specs.Data.{Data, string, array, object, Members, no_members, member}
use Rattle.serde_json.specs.Read.{read}
use Rattle.eb_lines.specs.declared.form.Form.{Form}
use Rattle.eb_lines.specs.declared.form.Tail.{Tail}
use Rattle.eb_lines.specs.declared.form.Tail.TheVariants.{Nothing, Kept, Segments, Generations}
use Rattle.eb_lines.specs.declared.refusal.Refusal.{Refusal}
use Rattle.eb_lines.specs.Refusals.{Told, row}
use Rattle.eb_lines.specs.Text.{answer_line, watch_line, refusal_line, summary_with}
use Rattle.eb_lines.specs.Values.{counted, numbers, cause, beside_cause, kept_member, segments_lines}

-- a number of 64 bits
abbrev pub IsWord : ℕ → Type 0
IsWord n = n < 2 ^ 64

-- the line is a text that is read as this, and a LF
abbrev pub IsLineOf : List ℕ → Data → Type 0
IsLineOf line v = (text : List ℕ) × (line ≡ text ++ 10 ∷ []) × (read text ≡ Some v)

-- as a value is read: its members come in the order of their keys
abbrev pub AnswersRead : Type 0
AnswersRead = (form : Form) → form.json ≡ true → (line seen : ℕ) (ids : List ℕ) → IsWord line → IsWord seen → AllByRecursion IsWord ids
    → IsLineOf (answer_line form line seen ids) (object (member (codes "ids") (array (numbers ids)) (counted (codes "line") line (counted (codes "seen") seen no_members))))

abbrev pub WatchesRead : Type 0
WatchesRead = (form : Form) → form.json ≡ true → (line n : ℕ) (ns : List ℕ) → IsWord line → AllByRecursion IsWord (n ∷ ns)
    → IsLineOf (watch_line form line (n ∷ ns)) (object (counted (codes "line") line (member (codes "watches") (array (numbers (n ∷ ns))) no_members)))

-- the number that a refusal gives
abbrev pub IsToldWord : Option Told → Type 0
IsToldWord None = ⊤
IsToldWord (Some told) = IsWord told.number

abbrev pub TellsWord : Refusal → Type 0
TellsWord r = IsToldWord (row r).told

-- the members, and others after them
abbrev pub followed_by : Members → Members → Members
followed_by no_members ms = ms
followed_by (member k d ls) ms = member k d (followed_by ls ms)

abbrev pub RefusalsRead : Type 0
RefusalsRead = (form : Form) → form.json ≡ true → (line : ℕ) (r : Refusal) → IsWord line → TellsWord r
    → IsLineOf (refusal_line form line r) (object (followed_by (beside_cause r) (counted (codes "line") line (member (codes "refused") (string (cause r)) no_members))))

-- the numbers that are printed beside the counts
abbrev pub TellsWords : Tail → Type 0
TellsWords Nothing = ⊤
TellsWords (Kept kept) = IsWord kept
TellsWords (Segments begun converted) = IsWord begun × IsWord converted
TellsWords (Generations kept segments converted begun) = IsWord kept × IsWord segments × IsWord converted × IsWord begun

-- the counts, and the documents kept where that is printed
abbrev pub counts_read_as : ℕ → ℕ → ℕ → Tail → Data
counts_read_as d q r t = object (counted (codes "documents") d (followed_by (kept_member t) (counted (codes "queries") q (counted (codes "refused") r no_members))))

-- the counts are in a line of their own, and the segments, where they are printed, in one after it
abbrev pub EndsRead : Type 0
EndsRead = (form : Form) → form.json ≡ true → (d q r : ℕ) (t : Tail) → IsWord d → IsWord q → IsWord r → TellsWords t
    → (line : List ℕ) × (summary_with form d q r t ≡ line ++ segments_lines t)
    × IsLineOf line (object (member (codes "end") (counts_read_as d q r t) no_members))

abbrev pub SegmentsRead : Type 0
SegmentsRead = (begun converted : ℕ) → IsWord begun → IsWord converted
    → IsLineOf (segments_lines (Segments begun converted)) (object (counted (codes "converted") converted (counted (codes "segments") begun no_members)))

-- of a feed with how many generations are begun
abbrev pub GenerationsRead : Type 0
GenerationsRead = (kept segments converted begun : ℕ) → IsWord segments → IsWord converted → IsWord begun
    → IsLineOf (segments_lines (Generations kept segments converted begun))
    (object (counted (codes "converted") converted (counted (codes "generations") begun (counted (codes "segments") segments no_members))))
