-- Which feed a desk is of, and the readers that its writer makes.
use Rattle.std.specs.Prelude.{◌≡◌, ℕ, ◌≤◌, ◌⊎◌, List, [], ◌∷◌, min, length, slice_index_or}
use Rattle.logbook.specs.Pages.{Book}
use Rattle.feed_shared.specs.Turns.{FeedToken, WriterToken}

-- which feed, by the book of its turns, and how many generations it keeps
pub record FeedName : Type 0 where
  pub book : Book
  pub keep : ℕ

-- the feed of a writer
abbrev pub feed_name : WriterToken → FeedName
feed_name w = record { book = w.feed.book; keep = w.keep }

-- the reader is of the feed, and holds as many of the generations that it knows as the feed keeps,
-- or all; where the newest of these isn't the first, it has a document
pub record IsReaderOf (f : FeedName) (r : FeedToken) : Type 0 where
  pub book : r.book ≡ f.book
  pub held : r.held ≡ min f.keep (length r.log)
  pub begun : (length r.log ≤ 1) ⊎ (1 ≤ length r.docs)

-- a feed in numbers, and back
abbrev pub key_of : FeedName → List ℕ
key_of f = f.book.number ∷ f.book.log_name ∷ f.book.cells_name ∷ f.keep ∷ []

abbrev pub feed_of : List ℕ → FeedName
feed_of k =
    let at : ℕ → ℕ = λ i. slice_index_or k i 0 in
    record { book = record { number = at 0; log_name = at 1; cells_name = at 2 }; keep = at 3 }
