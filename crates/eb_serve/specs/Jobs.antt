-- What a job and an answer are to a contract.
use Rattle.std.specs.Prelude.{ℕ, List, ◌∷◌, drop, slice_index_or}
use Rattle.eb_cursor.specs.declared.frame.Frame.{Frame}
use Rattle.eb_cursor.specs.Frames.{query_of, k_of}
use Rattle.eb_desk.specs.Asks.{asks_of}
use Rattle.eb_engine.specs.Tokens.{HistoryToken}
use Rattle.eb_table.specs.Known.{Words}
use Rattle.eb_serve.specs.declared.job.Job.{Job}
use Rattle.eb_serve.specs.declared.job.Answer.{Answer}
use Rattle.eb_desk.specs.declared.rule.Pair.{Pair}

-- a number, how many documents a reader had seen, and what a frame asks
abbrev pub pair : ℕ → ℕ → Frame → Pair
pair number told frame = record { number = number; told = told; asks = asks_of (query_of frame) (k_of frame) }

-- the pair of a job
abbrev pub pair_of : Job → Pair
pair_of j = pair j.number j.told j.frame

-- the frame with a job's query
abbrev pub asking : Job → Frame
asking j = j.frame

-- a job's reader
abbrev pub asker : Job → HistoryToken
asker j = j.reader

-- the pair of an answer
abbrev pub answer_pair : Answer → Pair
answer_pair a = pair a.number a.told a.frame

-- the frame with an answer's query and ids
abbrev pub answering : Answer → Frame
answering a = a.frame

-- an answer's reader
abbrev pub answerer : Answer → HistoryToken
answerer a = a.reader

-- an index in numbers, and back
abbrev pub key_of : Words → List ℕ
key_of w = w.table.words ∷ w.table.slots ∷ w.table.views_name ∷ w.table.atom ∷ w.table.block ∷ w.table.offset
    ∷ w.setting.segments ∷ w.setting.docs ∷ w.setting.terms ∷ w.table.slot_names

abbrev pub index_of : List ℕ → Words
index_of k =
    let at : ℕ → ℕ = λ i. slice_index_or k i 0 in
    record {
      table = record { words = at 0; slots = at 1; views_name = at 2; atom = at 3; block = at 4; offset = at 5; slot_names = drop 9 k };
      setting = record { segments = at 6; docs = at 7; terms = at 8 };
    }
