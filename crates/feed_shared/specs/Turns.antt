-- The turns of a feed, and what they say of its history.
use Rattle.std.specs.Prelude.{◌≡◌, ◌⊎◌, ℕ, ◌+◌, ◌-◌, ◌^◌, ◌<◌, ◌≤◌, min, List, [], ◌∷◌, ◌++◌, length, take, reverse, get_or}
use Rattle.logbook.specs.Pages.{Book}
use Rattle.eb_base.specs.Document.{Doc}
use Rattle.eb_base.specs.Setting.{Setting}
use Rattle.eb_table.specs.Known.{Words}
use Rattle.eb_engine.specs.Tokens.{HistoryToken}
use Rattle.eb_feed.specs.Generations.{generations, joined_generations}
use Rattle.feed_shared.specs.declared.turn.Turn.{Turn}

-- a generation was begun, with this index, after one of these documents
abbrev pub turn : Words → List Doc → Turn
turn index before = record { index = index; before = before }

-- which book, and a prefix of its log
pub record TrailToken : Type 0 where
  pub book : Book
  pub log : List Turn

-- of a generation that is held: its index, and which of its documents are known
pub record PieceToken : Type 0 where
  pub index : Words
  pub docs : List Doc

-- what a reader or a writer of an index knows of its documents
abbrev pub piece_of : HistoryToken → PieceToken
piece_of t = record { index = t.index; docs = t.docs }

-- of a feed's writer or reader: which feed, the turns that it knows, the documents that it knows of
-- the generation that the last of them began, and how many generations it holds
pub record FeedToken : Type 0 where
  pub book : Book
  pub log : List Turn
  pub docs : List Doc
  pub held : ℕ

-- of a feed's writer: its setting, how many generations it keeps, and what a reader that knows all
-- has
pub record WriterToken : Type 0 where
  pub setting : Setting
  pub keep : ℕ
  pub feed : FeedToken

-- the generations, the newest first: it has these documents, and the turns, the last one first,
-- have those of each before it
abbrev pub past_of : List Doc → List Turn → List (List Doc)
past_of docs [] = []
past_of docs (t ∷ ts) = docs ∷ past_of t.before ts

-- the generations of what is known, the newest first
abbrev pub generations_of : List Turn → List Doc → List (List Doc)
generations_of log docs = past_of docs (reverse log)

-- all that is known of the history
abbrev pub history_of : List Turn → List Doc → List Doc
history_of log docs = joined_generations (generations_of log docs)

-- the documents of the newest `held` generations
abbrev pub stretch_of : ℕ → List Turn → List Doc → List Doc
stretch_of held log docs = joined_generations (take held (generations_of log docs))

-- the documents that the second knows of the generation that was the newest for the first
abbrev pub known_of_newest : FeedToken → FeedToken → List Doc
known_of_newest one other = get_or (generations_of other.log other.docs) (length other.log - length one.log) []

-- why what the first knew can't be compared with what the second knows: the second has dropped the
-- generation that was the first's newest; or the first knows more of the turns, or more of that
-- generation, which no clause excludes
abbrev pub HasLapsed : FeedToken → FeedToken → Type 0
HasLapsed one other = (other.held + length one.log ≤ length other.log) ⊎ ((length other.log < length one.log) ⊎ (length (known_of_newest one other) < length one.docs))

-- each reader was made with the index of its generation, the newest first, and knows just its
-- documents
abbrev pub AreHeld : List PieceToken → List Doc → List Turn → Type 0
AreHeld [] docs ts = Unit {0}
AreHeld (p ∷ ps) docs [] = ⊥
AreHeld (p ∷ ps) docs (t ∷ ts) = (p.index ≡ t.index) × (p.docs ≡ docs) × AreHeld ps t.before ts

-- what the first of these readers knows
abbrev pub newest_docs : List PieceToken → List Doc
newest_docs [] = []
newest_docs (p ∷ ps) = p.docs

-- the last turn began this index
abbrev pub IsOfNewest : Words → List Turn → Type 0
IsOfNewest index log = (earlier : List Turn) × (before : List Doc) × (log ≡ earlier ++ turn index before ∷ [])

-- a generation that a feed of these turns has dropped, which keeps `keep`: the newest that it no
-- longer keeps. Its index, and its documents
abbrev pub IsLetGo : PieceToken → ℕ → List Turn → Type 0
IsLetGo p keep log = (keep < length log) × ((t : Turn) → p.index ≡ (get_or (reverse log) keep t).index) × (p.docs ≡ get_or (generations_of log []) keep [])

-- another generation was begun, without a document
pub record IsBegun (old new : WriterToken) : Type 0 where
  pub setting : new.setting ≡ old.setting
  pub keep : new.keep ≡ old.keep
  pub book : new.feed.book ≡ old.feed.book
  pub index : Words
  pub log : new.feed.log ≡ old.feed.log ++ turn index old.feed.docs ∷ []
  pub docs : new.feed.docs ≡ []

-- the writer's generations are those of this history; where it is empty, the first one is begun
abbrev pub HasTaken : WriterToken → List Doc → Type 0
HasTaken w history = (generations_of w.feed.log w.feed.docs ≡ generations w.setting history) ⊎ ((history ≡ []) × (generations_of w.feed.log w.feed.docs ≡ [] ∷ []))

-- how many these are, at most the greatest number of 64 bits
abbrev pub counted : List Doc → ℕ
counted docs = min (length docs) (2 ^ 64 - 1)
