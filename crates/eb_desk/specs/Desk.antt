-- What a desk, its clerk and its workers are to a contract.
use Rattle.std.specs.Prelude.{◌≡◌, ℕ, suc, ◌+◌, ◌++◌, true, false, List, [], ◌∷◌, length}
use Rattle.atomic_table.specs.Seated.{TableId}
use Rattle.crossbeam_queue.specs.Passes.{Pass, view}
use Rattle.eb_desk.specs.declared.job.Task.{Task}
use Rattle.eb_desk.specs.declared.job.Task.TheVariants.{Job as a_job, Stop}
use Rattle.eb_desk.specs.declared.rule.Pair.{Pair}
use Rattle.eb_desk.specs.declared.rule.View.{View}
use Rattle.eb_desk.specs.declared.rule.View.TheVariants.{At}
use Rattle.eb_desk.specs.Homes.{Home, numbers_of, home_at}
use Rattle.eb_desk.specs.Rule.{hand, clerk_hand, worker_hand, hand_of}
use Rattle.eb_desk.specs.Steps.{home_of_view}

-- which two queues
pub record Queues : Type 0 where
  pub jobs : TableId
  pub answers : TableId

-- of a desk: its queues, and how many jobs and stops, and how many answers, they have places for
pub record DeskBook : Type 0 where
  pub queues : Queues
  pub job_places : ℕ
  pub answer_places : ℕ

-- of a clerk: its desk's queues, the home, the pairs of the jobs that it put, in order, how many
-- stops it put, and the pairs that it took from the queue of jobs and from that of answers, each in
-- order
pub record ClerkBook (D : Type 0) : Type 0 where
  pub queues : Queues
  pub home : D
  pub put : List Pair
  pub stops : ℕ
  pub taken : List Pair
  pub answered : List Pair

-- of a worker: its desk's queues, the home, the pairs of the jobs that it took, in order, how many
-- stops it took, and the pairs of the answers that it put, in order
pub record WorkerBook (D : Type 0) : Type 0 where
  pub queues : Queues
  pub home : D
  pub taken : List Pair
  pub stops : ℕ
  pub put : List Pair

-- places for 512 jobs and a stop of each of 16 workers, and for 512 answers
abbrev pub HasPlaces : DeskBook → Type 0
HasPlaces d = (d.job_places ≡ 528) × (d.answer_places ≡ 512)

-- a clerk that has done nothing
abbrev pub new_clerk : {D : Type 0} → Queues → D → (ClerkBook D)
new_clerk queues home = record { queues = queues; home = home; put = []; stops = 0; taken = []; answered = [] }

-- a worker that has done nothing
abbrev pub new_worker : {D : Type 0} → Queues → D → (WorkerBook D)
new_worker queues home = record { queues = queues; home = home; taken = []; stops = 0; put = [] }

-- the clerk put a job of this pair
abbrev pub with_put : {D : Type 0} → (ClerkBook D) → Pair → (ClerkBook D)
with_put c p = record { queues = c.queues; home = c.home; put = c.put ++ p ∷ []; stops = c.stops; taken = c.taken; answered = c.answered }

-- the clerk put a stop
abbrev pub with_stop : {D : Type 0} → (ClerkBook D) → (ClerkBook D)
with_stop c = record { queues = c.queues; home = c.home; put = c.put; stops = suc c.stops; taken = c.taken; answered = c.answered }

-- the clerk put this many stops
abbrev pub with_stops : {D : Type 0} → (ClerkBook D) → ℕ → (ClerkBook D)
with_stops c n = record { queues = c.queues; home = c.home; put = c.put; stops = c.stops + n; taken = c.taken; answered = c.answered }

-- the clerk took a job of this pair
abbrev pub with_taken : {D : Type 0} → (ClerkBook D) → Pair → (ClerkBook D)
with_taken c p = record { queues = c.queues; home = c.home; put = c.put; stops = c.stops; taken = c.taken ++ p ∷ []; answered = c.answered }

-- the clerk took an answer of this pair
abbrev pub with_answered : {D : Type 0} → (ClerkBook D) → Pair → (ClerkBook D)
with_answered c p = record { queues = c.queues; home = c.home; put = c.put; stops = c.stops; taken = c.taken; answered = c.answered ++ p ∷ [] }

-- the worker took jobs of these pairs, put answers of the same pairs in the same order, and took
-- this many stops in all
abbrev pub with_work : {D : Type 0} → (WorkerBook D) → List Pair → ℕ → (WorkerBook D)
with_work w ps stops = record { queues = w.queues; home = w.home; taken = w.taken ++ ps; stops = stops; put = w.put ++ ps }

-- the worker took this many jobs and a stop, and put the answers of these jobs, in the same order
abbrev pub HasWorked : {D : Type 0} → (WorkerBook D) → (WorkerBook D) → ℕ → Type 0
HasWorked old new count = (ps : List Pair) × (new ≡ with_work old ps (old.stops + 1)) × (count ≡ length ps)

-- the worker took a task
abbrev pub with_task : {J D : Type 0} → (J → Pair) → (WorkerBook D) → Task J → (WorkerBook D)
with_task pair w (a_job j) = record { queues = w.queues; home = w.home; taken = w.taken ++ pair j ∷ []; stops = w.stops; put = w.put }
with_task pair w Stop = record { queues = w.queues; home = w.home; taken = w.taken; stops = suc w.stops; put = w.put }

-- the worker put an answer of this pair
abbrev pub with_answer : {D : Type 0} → (WorkerBook D) → Pair → (WorkerBook D)
with_answer w p = record { queues = w.queues; home = w.home; taken = w.taken; stops = w.stops; put = w.put ++ p ∷ [] }

-- the worker is one of these queues and of this home
abbrev pub IsWorkerOf : {D : Type 0} → Queues → D → (WorkerBook D) → Type 0
IsWorkerOf queues home w = (w.queues ≡ queues) × (w.home ≡ home)

-- the clerk is that of these queues and of this home, and has put no stop
abbrev pub IsOpen : {D : Type 0} → Queues → D → (ClerkBook D) → Type 0
IsOpen queues home c = (c.queues ≡ queues) × (c.home ≡ home) × (c.stops ≡ 0)

-- ---- by their passes at the two queues

-- no home
abbrev pub nowhere : Home
nowhere = ([], [])

-- the home of the clerk at its desk, and that of the worker
abbrev pub clerk_home : ClerkBook (List ℕ) → Home
clerk_home c = home_at c.home c.queues.answers

abbrev pub worker_home : WorkerBook (List ℕ) → Home
worker_home w = home_at w.home w.queues.answers

abbrev pub clerk_book : {J A : Type 0} → Pass (Task J) (View Home) → Pass A (View Home) → ClerkBook (List ℕ)
clerk_book j a = record {
  queues = record { jobs = j.table_id; answers = a.table_id };
  home = (home_of_view nowhere (view j)).0;
  put = (hand_of (view j)).put;
  stops = (hand_of (view j)).stops_put;
  taken = (hand_of (view j)).taken;
  answered = (hand_of (view a)).taken;
}

-- passes of a clerk: one puts and takes jobs, and has taken no stop; the other takes answers, and
-- has permitted those to the jobs that were put
pub record IsClerk {J A : Type 0} (j : Pass (Task J) (View Home)) (a : Pass A (View Home)) : Type 0 where
  pub jobs : view j ≡ At (home_of_view nowhere (view j)) (hand true (hand_of (view j)).put (hand_of (view j)).stops_put (hand_of (view j)).taken 0)
  pub answers : view a ≡ At (home_of_view nowhere (view j)) (clerk_hand (hand_of (view a)).taken (hand_of (view j)).put (hand_of (view a)).known)
  pub table : (home_of_view nowhere (view j)).1 ≡ numbers_of a.table_id
  pub no_job : j.me.1 ≡ []
  pub no_answer : a.me.1 ≡ []

abbrev pub worker_book : {J A : Type 0} → Pass (Task J) (View Home) → Pass A (View Home) → WorkerBook (List ℕ)
worker_book j a = record {
  queues = record { jobs = j.table_id; answers = a.table_id };
  home = (home_of_view nowhere (view j)).0;
  taken = (hand_of (view j)).taken;
  stops = (hand_of (view j)).stops_taken;
  put = (hand_of (view a)).put;
}

-- passes of a worker: one takes jobs and stops, the other puts answers
pub record IsWorker {J A : Type 0} (j : Pass (Task J) (View Home)) (a : Pass A (View Home)) : Type 0 where
  pub jobs : view j ≡ At (home_of_view nowhere (view j)) (hand false [] 0 (hand_of (view j)).taken (hand_of (view j)).stops_taken)
  pub answers : view a ≡ At (home_of_view nowhere (view j)) (worker_hand (hand_of (view a)).put (hand_of (view a)).known)
  pub table : (home_of_view nowhere (view j)).1 ≡ numbers_of a.table_id
  pub no_job : j.me.1 ≡ []
  pub no_answer : a.me.1 ≡ []
