-- The work of a held line represents what the line is.
use Rattle.eb_fields.specs.Dialect.{Dialect}
use Rattle.std.specs.Prelude.{◌≡◌, ℕ, ◌+◌, ◌*◌, ◌≤◌, ◌++◌, Bool, true, false, List, [], length, map, string_bytes, sum_by, vec_len, vec_capacity}
use Rattle.std.specs.List.{AllZip}
use Rattle.eb_rounds.specs.Shown.{need}
use Rattle.eb_cursor.specs.Frames.{query_of, k_of}
use Rattle.eb_rounds.specs.declared.held.Held.{Held}
use Rattle.eb_rounds.specs.declared.held.FirstInput.{FirstInput}
use Rattle.eb_rounds.specs.declared.held.FirstInput.TheVariants as first
use Rattle.eb_rounds.specs.declared.held.ThenInput.{ThenInput}
use Rattle.eb_rounds.specs.declared.held.ThenInput.TheVariants as then
use Rattle.eb_rounds.specs.declared.held.FirstLine.{FirstLine}
use Rattle.eb_rounds.specs.declared.held.ThenLine.{ThenLine}
use Rattle.eb_rounds.specs.declared.tasks.Asked.{Asked}
use Rattle.eb_rounds.specs.declared.tasks.Given.{Given}
use Rattle.eb_rounds.specs.declared.tasks.Tasks.{Tasks}
use Rattle.eb_rounds.specs.declared.tasks.AskedWork.{AskedWork}
use Rattle.eb_rounds.specs.declared.tasks.AskedWork.TheVariants as asked
use Rattle.eb_rounds.specs.declared.tasks.GivenWork.{GivenWork}
use Rattle.eb_rounds.specs.declared.tasks.GivenWork.TheVariants as given
use Rattle.eb_query.specs.declared.ask.Ask.TheVariants.{Newest, Counts}
use Rattle.eb_lines.specs.Reading.{Reading, document, query, refused}
use Rattle.eb_lines.specs.Progress.{is_query}
use Rattle.eb_lines.specs.Text.{room_of}
use Rattle.eb_rounds.specs.Inputs.{HeldInput, document_line, query_line, refused_line, HeldLine, Entry, ReadsLine}

abbrev pub first_input : FirstInput → HeldInput
first_input (first.Query line) = query_line (string_bytes line)
first_input (first.Refused r) = refused_line r

abbrev pub then_input : ThenInput → HeldInput
then_input (then.Document line) = document_line line.items
then_input (then.Refused r) = refused_line r

abbrev pub first_line : FirstLine → HeldLine
first_line l = record { number = l.number; input = first_input l.input }

abbrev pub then_line : ThenLine → HeldLine
then_line l = record { number = l.number; input = then_input l.input }

abbrev pub asked_reading : AskedWork → Reading
asked_reading (asked.Answer frame) = query (Newest (k_of frame)) (query_of frame)
asked_reading (asked.Count c) = query (Counts c.tally.start c.tally.width (length c.tally.buckets)) (query_of c.frame)
asked_reading (asked.Refuse r) = refused r

abbrev pub given_reading : GivenWork → Reading
given_reading (given.Add d) = document d
given_reading (given.Refuse r) = refused r

abbrev pub asked_entry : Asked → Entry
asked_entry t = record { number = t.number; reading = asked_reading t.work }

abbrev pub given_entry : Given → Entry
given_entry t = record { number = t.number; reading = given_reading t.work }

-- the most bytes that a line prints
abbrev pub asked_need : Asked → ℕ
asked_need t = need (asked_reading t.work)

-- the line is a query that is to be answered; a document that is to be added
abbrev pub is_answer : Asked → Bool
is_answer t = is_query (asked_reading t.work)

abbrev pub is_add_work : GivenWork → Bool
is_add_work (given.Add d) = true
is_add_work (given.Refuse r) = false

abbrev pub is_add : Given → Bool
is_add t = is_add_work t.work

-- the lines of a round in order, and what they are read as
abbrev pub lines_of_round : Held → List HeldLine
lines_of_round h = map first_line h.first.items ++ map then_line h.last.items

abbrev pub entries_of : Tasks → List Entry
entries_of t = map asked_entry t.asked.items ++ map given_entry t.given.items

-- the most bytes that a round prints
abbrev pub need_of_tasks : Tasks → ℕ
need_of_tasks t = sum_by asked_need t.asked.items + room_of 0 * length t.given.items

-- room was taken for the refusals of document lines
abbrev pub HasRoomForRefusals : Tasks → Type 0
HasRoomForRefusals t = (t.refusals.items ≡ []) × (vec_len t.refusals ≡ 0) × (room_of 0 * length t.given.items ≤ vec_capacity t.refusals)

-- how many lines that are
abbrev pub count_of_tasks : Tasks → ℕ
count_of_tasks t = length t.asked.items + length t.given.items

-- the lines of the round are read as these by the dialect, each under its number, and room was
-- taken
pub record IsReadAs (how : Dialect) (h : Held) (t : Tasks) : Type 0 where
  pub read : AllZip (ReadsLine how) (lines_of_round h) (entries_of t)
  pub refusals : HasRoomForRefusals t
  pub asked : length t.asked.items ≡ length h.first.items
  pub given : length t.given.items ≡ length h.last.items
