-- What a job and an answer are to a contract.
use Rattle.std.specs.Prelude.{ℕ}
use Rattle.eb_cursor.specs.declared.frame.Frame.{Frame}
use Rattle.eb_cursor.specs.Frames.{query_of, k_of}
use Rattle.eb_desk.specs.Asks.{asks_of}
use Rattle.feed_shared.specs.Turns.{FeedToken, history_of, counted}
use Rattle.feed_serve.specs.declared.job.Job.{Job}
use Rattle.feed_serve.specs.declared.job.Answer.{Answer}
use Rattle.eb_desk.specs.declared.rule.Pair.{Pair}

-- how many documents of the history a reader knows of, at most the greatest number of 64 bits
abbrev pub known_to : FeedToken → ℕ
known_to r = counted (history_of r.log r.docs)

-- a number, how many documents a reader knew of, and what a frame asks
abbrev pub pair : ℕ → ℕ → Frame → Pair
pair number told frame = record { number = number; told = told; asks = asks_of (query_of frame) (k_of frame) }

-- the pair of a job
abbrev pub pair_of : Job → Pair
pair_of j = pair j.number j.told j.frame

-- the frame with a job's query
abbrev pub asking : Job → Frame
asking j = j.frame

-- a job's reader
abbrev pub asker : Job → FeedToken
asker j = j.reader

-- the pair of an answer
abbrev pub answer_pair : Answer → Pair
answer_pair a = pair a.number a.told a.frame

-- the frame with an answer's query and ids
abbrev pub answering : Answer → Frame
answering a = a.frame

-- an answer's reader
abbrev pub answerer : Answer → FeedToken
answerer a = a.reader
