-- A desk's clerk and workers, where its home is an index.
use Rattle.std.specs.Prelude.{◌≡◌, ℕ, List}
use Rattle.eb_table.specs.Known.{Words}
use Rattle.eb_desk.specs.Desk.{Queues, ClerkBook, WorkerBook, new_clerk as new_clerk_of}
use Rattle.eb_serve.specs.Jobs.{key_of, index_of}

-- a clerk that has done nothing
abbrev pub new_clerk : Queues → Words → ClerkBook (List ℕ)
new_clerk queues index = new_clerk_of queues (key_of index)

-- the clerk is that of these queues and of this index, and has put no stop
abbrev pub IsOpen : Queues → Words → ClerkBook (List ℕ) → Type 0
IsOpen queues index c = (c.queues ≡ queues) × (index_of c.home ≡ index) × (c.stops ≡ 0)

-- the worker is one of these queues and of this index
abbrev pub IsWorkerOf : Queues → Words → WorkerBook (List ℕ) → Type 0
IsWorkerOf queues index w = (w.queues ≡ queues) × (index_of w.home ≡ index)
