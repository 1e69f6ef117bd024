-- A desk's clerk and workers, where its home is a feed.
use Rattle.std.specs.Prelude.{◌≡◌, ℕ, List, ⊤}
use Rattle.eb_desk.specs.Desk.{Queues, ClerkBook, WorkerBook, new_clerk as new_clerk_of}
use Rattle.feed_serve.specs.Feeds.{FeedName, key_of, feed_of}

-- a clerk that has done nothing
abbrev pub new_clerk : Queues → FeedName → ClerkBook (List ℕ)
new_clerk queues feed = new_clerk_of queues (key_of feed)

-- the clerk is that of these queues and of this feed, and has put no stop
abbrev pub IsOpen : Queues → FeedName → ClerkBook (List ℕ) → Type 0
IsOpen queues feed c = (c.queues ≡ queues) × (feed_of c.home ≡ feed) × (c.stops ≡ 0)

-- the worker is one of these queues; a job over a feed reads nothing besides itself, so it serves
-- any home
abbrev pub IsWorkerOf : Queues → WorkerBook (List ℕ) → Type 0
IsWorkerOf queues w = (w.queues ≡ queues) × ⊤
