-- What `bench` prints: the figures of a made input.
use Rattle.eb_fields.specs.Dialect.{plain}
use Rattle.std.specs.Prelude.{◌≡◌, ℕ, false, zero, suc, ◌+◌, ◌*◌, ◌%◌, ◌^◌, ◌<◌, ◌≤◌, ◌==◌, ◌||◌, List, [], ◌∷◌, ◌++◌, length, sum, take, Option, codes, if◌then◌else◌}
use Rattle.std.specs.Fmt.{decimal}
use Rattle.eb_base.specs.Document.{Doc}
use Rattle.eb_base.specs.Match.{answer}
use Rattle.eb_base.specs.Setting.{Setting}
use Rattle.eb_gen.specs.Made.{made, made_line, made_query}
use Rattle.eb_io.specs.Lines.{Line, line, lines_of}
use Rattle.eb_io.specs.Sink.{grown}
use Rattle.eb_run.specs.declared.bench.Bench.{Bench}
use Rattle.eb_query.specs.declared.ask.Ask.TheVariants.{Newest, Counts}
use Rattle.eb_lines.specs.declared.status.Status.{Status}
use Rattle.eb_lines.specs.declared.status.Status.TheVariants as status
use Rattle.eb_lines.specs.Reading.{Reading, blank, document, query, refused, watch}
use Rattle.eb_lines.specs.Reads.{Reads}
use Rattle.eb_lines.specs.Progress.{documents_in, accepted, queries, refusals}
use Rattle.run_index.specs.Indexed.{Holds}
use Rattle.run_store.specs.Rules.{Rules, is_bad, AreRead, HasRefusal, HasNoRefusal}
use Rattle.run_index.specs.IndexRules.{index_rules}

-- the setting that an index has where none is asked for
abbrev pub usual : Setting
usual = record { segments = 12; docs = 4096; terms = 8192 }

-- the rules of such an index, by which nothing is printed
abbrev pub bench_rules : Rules (Unit {0})
bench_rules = index_rules plain usual (record { json = false; stats = false }) []

-- the ids in the answer of a line after these documents
abbrev pub answer_in : List Doc → Reading → List ℕ
answer_in docs blank = []
answer_in docs (document d) = []
answer_in docs (query (Newest k) q) = answer q k docs
answer_in docs (query (Counts x w n) q) = []
answer_in docs (refused r) = []
answer_in docs (watch n q) = []

-- the ids in all answers of the lines after these documents, in order
unfoldable pub answers_from : List Doc → List Reading → List ℕ
answers_from docs [] = []
answers_from docs (r ∷ rs) = answer_in docs r ++ answers_from (docs ++ documents_in r) rs

abbrev pub all_answers : List Reading → List ℕ
all_answers rs = answers_from [] rs

-- documents accepted and queries answered
abbrev pub counts_text : ℕ → ℕ → List ℕ
counts_text d q = codes "bench: documents " ++ decimal d ++ codes ", queries " ++ decimal q ++ codes ", "

-- ids in all answers, and their sum
abbrev pub sums_text : ℕ → ℕ → List ℕ
sums_text i x = codes "ids " ++ decimal i ++ codes ", sum " ++ decimal x ++ 10 ∷ []

-- the line of figures
abbrev pub bench_line : ℕ → ℕ → ℕ → ℕ → List ℕ
bench_line d q i x = counts_text d q ++ sums_text i x

-- the line of figures of these lines
abbrev pub figures : List Reading → List ℕ
figures rs = bench_line (length (accepted rs)) (queries rs) (length (all_answers rs)) (sum (all_answers rs))

-- the line of figures of the made input of this many documents, processed with the usual setting
pub record IsBenchOf (start count : ℕ) (printed : List ℕ) (refused_lines : ℕ) : Type 0 where
  pub readings : List Reading
  pub read : AreRead is_bad bench_rules (lines_of (made start count)) readings
  pub refusals : refused_lines ≡ refusals readings
  pub bytes : printed ≡ figures readings

-- what a bench that ends so has printed: the line of figures, or a prefix of it
abbrev pub WroteBench : Status → ℕ → ℕ → List ℕ → Type 0
WroteBench status.Done start count printed = IsBenchOf start count printed 0
WroteBench status.Refused start count printed = (n : ℕ) × IsBenchOf start count printed (suc n)
WroteBench status.WriteFault start count printed = (more : List ℕ) × (n : ℕ) × IsBenchOf start count (printed ++ more) n
WroteBench status.NoMemory start count printed = (more : List ℕ) × (n : ℕ) × IsBenchOf start count (printed ++ more) n
WroteBench status.Usage start count printed = ⊥
WroteBench status.ReadFault start count printed = ⊥
WroteBench status.InputTooLong start count printed = ⊥
WroteBench status.BadImage start count printed = ⊥

-- what the status of a bench says of its input, whatever became of the output: at Done no line of
-- it is refused, at Refused some line is
abbrev pub MeansBench : Status → ℕ → ℕ → Type 0
MeansBench status.Done start count = HasNoRefusal is_bad bench_rules (lines_of (made start count))
MeansBench status.Refused start count = HasRefusal is_bad bench_rules (lines_of (made start count))
MeansBench status.WriteFault start count = Unit {0}
MeansBench status.NoMemory start count = Unit {0}
MeansBench status.Usage start count = ⊥
MeansBench status.ReadFault start count = ⊥
MeansBench status.InputTooLong start count = ⊥
MeansBench status.BadImage start count = ⊥

-- what printing the last line leaves, where this many lines are refused
abbrev pub Closes : Status → ℕ → List ℕ → Option (List ℕ) → Option (List ℕ) → Type 0
Closes status.Done count last printed_old printed_new = (count ≡ 0) × (printed_new ≡ grown printed_old last)
Closes status.Refused count last printed_old printed_new = (0 < count) × (printed_new ≡ grown printed_old last)
Closes status.WriteFault count last printed_old printed_new = (n : ℕ) × (printed_new ≡ grown printed_old (take n last))
Closes status.NoMemory count last printed_old printed_new = printed_new ≡ printed_old
Closes status.Usage count last printed_old printed_new = ⊥
Closes status.BadImage count last printed_old printed_new = ⊥
Closes status.ReadFault count last printed_old printed_new = ⊥
Closes status.InputTooLong count last printed_old printed_new = ⊥

-- what printing the line of figures of these lines leaves
abbrev pub PrintsFigures : Status → List Line → Option (List ℕ) → Option (List ℕ) → Type 0
PrintsFigures status lines printed_old printed_new = (rs : List Reading) × AreRead is_bad bench_rules lines rs × Closes status (refusals rs) (figures rs) printed_old printed_new

-- ---- between two lines

-- the query line of a document, if it has one
abbrev pub query_lines : ℕ → ℕ → ℕ → List Line
query_lines start count n = if ((n + 1) % 1000 == 0) || (n + 1 == count) then line (made_query start n) ∷ [] else []

-- the lines of the first documents of a made input of `count` documents
unfoldable pub lines_until : ℕ → ℕ → ℕ → List Line
lines_until start count zero = []
lines_until start count (suc n) = lines_until start count n ++ line (made_line start n) ∷ query_lines start count n

-- these lines are processed, and the ids in their answers are counted and summed
pub record HasCounted (b : Bench) (lines : List Line) : Type 0 where
  pub readings : List Reading
  pub read : AreRead is_bad bench_rules lines readings
  pub holds : Holds b.indexed usual (accepted readings)
  pub queries : b.queries ≡ queries readings
  pub refused : b.refused ≡ refusals readings
  pub ids : b.ids ≡ length (all_answers readings)
  pub sum : b.sum ≡ sum (all_answers readings)
  pub few_ids : b.ids ≤ 2 ^ 17 * length lines
  pub small_sum : b.sum ≤ 2 ^ 64 * b.ids

-- a line of this reading was processed
abbrev pub Takes : Bench → Bench → Reading → Type 0
Takes old new r = (lines : List Line) (l : Line) → Reads plain l r → HasCounted old lines → length lines < 2 ^ 17 → HasCounted new (lines ++ l ∷ [])
