-- What is printed for a line, and after the last one, in both forms.
use Rattle.std.specs.Prelude.{ℕ, ◌+◌, ◌*◌, List, [], ◌∷◌, ◌++◌, if◌then◌else◌, map}
use Rattle.std.specs.List.{range_with_len}
use Rattle.eb_base.specs.Document.{Doc}
use Rattle.eb_base.specs.Match.{answer}
use Rattle.eb_base.specs.Query.{Tree}
use Rattle.eb_count.specs.Counts.{match_count, bucket_count}
use Rattle.eb_query.specs.declared.ask.Ask.{Ask}
use Rattle.eb_query.specs.declared.ask.Ask.TheVariants.{Newest, Counts}
use Rattle.eb_lines.specs.declared.form.Form.{Form}
use Rattle.eb_lines.specs.declared.form.Tail.{Tail}
use Rattle.eb_lines.specs.declared.refusal.Refusal.{Refusal}
use Rattle.eb_lines.specs.Words.{answer_words, count_words, watch_words, refusal_words, summary_words}
use Rattle.eb_lines.specs.Values.{json_line, answer_value, count_value, watch_value, refusal_value, summary_value, segments_lines}

-- the most bytes of a line that lists n numbers
abbrev pub room_of : ℕ → ℕ
room_of listed = 96 + 21 * listed

-- the answer to a query in line `number`: how many accepted documents it saw, and the ids
unfoldable pub answer_line : Form → ℕ → ℕ → List ℕ → List ℕ
answer_line form number seen ids = if form.json then json_line (answer_value number seen ids) else answer_words number seen ids

-- the count of a query in line `number`: how many accepted documents it saw, how many it matches,
-- and how many of these lie in each bucket
unfoldable pub count_line : Form → ℕ → ℕ → ℕ → List ℕ → List ℕ
count_line form number seen total buckets = if form.json then json_line (count_value number seen total buckets) else count_words number seen total buckets

-- how many of the documents lie in each of n buckets
abbrev pub bucket_counts : Tree → ℕ → ℕ → ℕ → List Doc → List ℕ
bucket_counts q x w n docs = map (λ i. bucket_count q x w i docs) (range_with_len 0 n)

-- what line `number`, which saw this many accepted documents, prints where it asks this of these
-- documents: their newest matches, or the counts
abbrev pub asked_line : Form → ℕ → ℕ → Ask → Tree → List Doc → List ℕ
asked_line form number seen (Newest k) q docs = answer_line form number seen (answer q k docs)
asked_line form number seen (Counts x w n) q docs = count_line form number seen (match_count q docs) (bucket_counts q x w n docs)

-- how many numbers it lists at most
abbrev pub most_listed : Ask → ℕ
most_listed (Newest k) = k
most_listed (Counts x w n) = 1 + n

-- the numbers of the watches that the document in line `number` matches, where there are any
unfoldable pub some_watch_line : Form → ℕ → List ℕ → List ℕ
some_watch_line form number ns = if form.json then json_line (watch_value number ns) else watch_words number ns

abbrev pub watch_line : Form → ℕ → List ℕ → List ℕ
watch_line form number [] = []
watch_line form number (n ∷ ns) = some_watch_line form number (n ∷ ns)

-- the refusal of line `number`
unfoldable pub refusal_line : Form → ℕ → Refusal → List ℕ
refusal_line form number r = if form.json then json_line (refusal_value number r) else refusal_words number r

-- the end: the documents accepted, the queries answered, the lines refused, and what is printed
-- beside them; the segments are in a line of their own
unfoldable pub summary_with : Form → ℕ → ℕ → ℕ → Tail → List ℕ
summary_with form d q r tail = if form.json then json_line (summary_value d q r tail) ++ segments_lines tail else summary_words d q r tail
