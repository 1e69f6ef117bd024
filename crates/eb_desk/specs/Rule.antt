-- The rules of the queue of jobs and of the queue of answers: a balance.
--
-- A queue that threads share has no lasting order that a thread could know. What lasts is a
-- balance: however the pairs (a number, a document count, and what is asked) are weighed, the
-- weight of all that was put is the weight of all that was taken and of what is there. A weight that
-- is 1 for one pair and 0 for all others counts this pair, so nothing is lost, doubled or invented.
--
-- Each pass (a thread's access to a queue) has a hand: what it has put and taken. No other thread
-- changes it, so a thread knows its own hand, and the balance ties all hands to the queue. One pass
-- alone puts jobs, the clerk's, with rising numbers, so each job is put once and taken at most
-- once. One pass alone takes answers, the clerk's again.
--
-- Which answers may be put is the clerk's to say. With each job it puts, it splits a permit off its
-- pass at the answers, which says the job's pair and goes with the job; whoever holds the permit
-- knows that the pair is permitted, and only such an answer may be put. So each answer that the
-- clerk takes is one to a job that it put.
--
-- A run that fails must still end its workers, so stops are balanced as jobs are: whoever ends a
-- run puts one for each worker. Rejected: a flag that workers look at, which a sleeping one never
-- sees.
use Rattle.std.specs.Prelude.{◌≡◌, ℕ, suc, ◌+◌, ◌<◌, ◌⊎◌, Bool, true, false, List, [], ◌∷◌, map, All, Contains}
use mathlib.Core.Option.{some}
use lib.ListN.{get_elem?}
use Rattle.crossbeam_queue.specs.Passes.{Pass, view}
use Rattle.eb_desk.specs.declared.job.Task.{Task}
use Rattle.eb_desk.specs.declared.job.Task.TheVariants.{Job as a_job, Stop}
use Rattle.eb_desk.specs.Homes.{Home, table_of}
use Rattle.eb_desk.specs.declared.rule.Asked.{Asked}
use Rattle.eb_desk.specs.declared.rule.Pair.{Pair}
use Rattle.eb_desk.specs.declared.rule.Hand.{Hand}
use Rattle.eb_desk.specs.declared.rule.View.{View}
use Rattle.eb_desk.specs.declared.rule.View.TheVariants.{Opening, At}

-- whether a pass may put; the pairs and the stops that it put; those that it took
abbrev pub hand : Bool → List Pair → ℕ → List Pair → ℕ → Hand
hand puts put stops_put taken stops_taken = record {
  puts = puts;
  put = put;
  stops_put = stops_put;
  taken = taken;
  stops_taken = stops_taken;
  permitted = [];
  known = [];
}

-- at the queue of answers: of the clerk, the pairs that it took, those that it permitted, and those
-- that it knows to be permitted; of a worker, the pairs that it put, and those that it knows
abbrev pub clerk_hand : List Pair → List Pair → List Pair → Hand
clerk_hand taken permitted known = record {
  puts = false;
  put = [];
  stops_put = 0;
  taken = taken;
  stops_taken = 0;
  permitted = permitted;
  known = known;
}

abbrev pub worker_hand : List Pair → List Pair → Hand
worker_hand put known = record {
  puts = true;
  put = put;
  stops_put = 0;
  taken = [];
  stops_taken = 0;
  permitted = [];
  known = known;
}

-- the pass has put and taken nothing
abbrev pub idle : Bool → Hand
idle puts = hand puts [] 0 [] 0

-- what a pass has put and taken
abbrev pub hand_of : {D : Type 0} → View D → Hand
hand_of Opening = idle true
hand_of (At home h) = h

-- the pairs of the jobs among these, in order
abbrev pub job_pairs : {J : Type 0} → (J → Pair) → List (Task J) → List Pair
job_pairs pair [] = []
job_pairs pair (a_job j ∷ ts) = pair j ∷ job_pairs pair ts
job_pairs pair (Stop ∷ ts) = job_pairs pair ts

-- how many of these are stops
abbrev pub stops_of : {J : Type 0} → List (Task J) → ℕ
stops_of [] = 0
stops_of (a_job j ∷ ts) = stops_of ts
stops_of (Stop ∷ ts) = suc (stops_of ts)

-- the weights of the pairs, added up
abbrev pub weigh : (Pair → ℕ) → List Pair → ℕ
weigh g [] = 0
weigh g (p ∷ ps) = g p + weigh g ps

-- a number of each pass, added up
abbrev pub total : {D : Type 0} → (Hand → ℕ) → List (View D) → ℕ
total f [] = 0
total f (v ∷ vs) = f (hand_of v) + total f vs

-- a number is above those of the pairs
abbrev pub IsAboveEach : ℕ → List Pair → Type 0
IsAboveEach n ps = All (λ p. p.number < n) ps

-- the numbers rise
abbrev pub HaveRisingNumbers : List Pair → Type 0
HaveRisingNumbers [] = Unit {0}
HaveRisingNumbers (p ∷ ps) = All (λ q. p.number < q.number) ps × HaveRisingNumbers ps

-- each pass is of this home and of its kind; the pairs that were put are those that were taken and
-- those that are there, however pairs are weighed; the same of stops
pub record Balanced {D : Type 0} (home : D) (kind : ℕ → Hand → Type 0) (there : List Pair) (stops : ℕ) (views : List (View D)) : Type 0 where
  pub seated : (by : ℕ) (v : View D) → get_elem? views by ≡ some v → (h : Hand) × (v ≡ At home h) × kind by h
  pub pairs : (g : Pair → ℕ) → total (λ h. weigh g h.put) views ≡ total (λ h. weigh g h.taken) views + weigh g there
  pub stopped : total (λ h. h.stops_put) views ≡ total (λ h. h.stops_taken) views + stops

-- at the queue of jobs one pass alone puts jobs and stops, the clerk's, with rising numbers; each
-- takes
pub record IsTaker (clerk : ℕ) (by : ℕ) (h : Hand) : Type 0 where
  pub puts : h.puts ≡ true → (by ≡ clerk) × HaveRisingNumbers h.put
  pub takes : h.puts ≡ false → (h.put ≡ []) × (h.stops_put ≡ 0)

-- at the queue of answers one pass alone takes answers, the clerk's, and puts none; it permits
-- these pairs. Each other puts, and takes none. What a pass knows to be permitted is
pub record IsPutter (clerk : ℕ) (permitted : List Pair) (by : ℕ) (h : Hand) : Type 0 where
  pub puts : h.puts ≡ true → h.taken ≡ []
  pub takes : h.puts ≡ false → (by ≡ clerk) × (h.put ≡ []) × (h.permitted ≡ permitted)
  pub knows : All (Contains permitted) h.known

-- a job is one of this home
abbrev pub IsMadeTask : {J D : Type 0} → (D → J → Type 0) → D → Task J → Type 0
IsMadeTask made home (a_job j) = made home j
IsMadeTask made home Stop = Unit {0}

-- the pair of a job that is asked
abbrev pub asked_pair : {J A : Type 0} → (J → Pair) → Asked J A → Pair
asked_pair pair x = pair x.job

-- the pass is one at this home's queue of answers, which has put nothing, and knows that this pair
-- is permitted
pub record IsPermit {A : Type 0} (home : Home) (p : Pair) (pass : Pass A (View Home)) : Type 0 where
  pub table : pass.table_id ≡ table_of home.1
  pub none : pass.me.1 ≡ []
  pub knows : view pass ≡ At home (worker_hand [] (p ∷ []))

-- a job that is asked is one of this home, and has the permit for its answer
abbrev pub IsAsked : {J A : Type 0} → (J → Pair) → (List ℕ → J → Type 0) → Home → Asked J A → Type 0
IsAsked pair made home x = made home.0 x.job × IsPermit home (pair x.job) x.permit

-- an answer is one of this home
abbrev pub IsGiven : {A : Type 0} → (List ℕ → A → Type 0) → Home → A → Type 0
IsGiven made home a = made home.0 a

-- the queue is empty, and its one pass knows nothing yet
abbrev pub IsOpening : {T D : Type 0} → List T → List (View D) → Type 0
IsOpening items views = (items ≡ []) × (views ≡ Opening ∷ [])

-- the rule of the jobs of a home: `items` are the jobs and stops that were put and not taken, by
-- their counts, in any order
pub record JobsOf {J D : Type 0} (pair : J → Pair) (made : D → J → Type 0) (home : D) (items : List (Task J)) (views : List (View D)) : Type 0 where
  pub clerk : ℕ
  pub all_made : All (IsMadeTask made home) items
  pub balanced : Balanced home (IsTaker clerk) (job_pairs pair items) (stops_of items) views

-- the rule of the answers of a home: `items` are the answers that were put and not taken, by their
-- counts, in any order; the clerk permitted each of their pairs
pub record AnswersOf {A D : Type 0} (pair : A → Pair) (made : D → A → Type 0) (home : D) (items : List A) (views : List (View D)) : Type 0 where
  pub clerk : ℕ
  pub permitted : List Pair
  pub all_made : All (made home) items
  pub all_permitted : All (λ a. Contains permitted (pair a)) items
  pub balanced : Balanced home (IsPutter clerk permitted) (map pair items) 0 views

-- the rule of the queue of jobs
abbrev pub KeepsJobs : {J D : Type 0} → (J → Pair) → (D → J → Type 0) → List (Task J) → List (View D) → Type 0
KeepsJobs {J} {D} pair made items views = IsOpening items views ⊎ ((home : D) × JobsOf pair made home items views)

-- the rule of the queue of answers
abbrev pub KeepsAnswers : {A D : Type 0} → (A → Pair) → (D → A → Type 0) → List A → List (View D) → Type 0
KeepsAnswers {A} {D} pair made items views = IsOpening items views ⊎ ((home : D) × AnswersOf pair made home items views)
