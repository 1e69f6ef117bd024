-- What each kind of step at a queue does to what its pass knows, and what it requires of it.
use Rattle.std.specs.Prelude.{◌≡◌, suc, ◌⊎◌, Bool, true, false, List, [], ◌∷◌, ◌++◌, All, Contains}
use Rattle.eb_desk.specs.declared.job.Task.{Task}
use Rattle.eb_desk.specs.declared.job.Task.TheVariants.{Job as a_job, Stop}
use Rattle.eb_desk.specs.declared.rule.Hand.{Hand}
use Rattle.eb_desk.specs.declared.rule.View.{View}
use Rattle.eb_desk.specs.declared.rule.View.TheVariants.{Opening, At}
use Rattle.eb_desk.specs.declared.rule.Pair.{Pair}
use Rattle.eb_desk.specs.Rule.{idle, stops_of, IsAboveEach, IsMadeTask}

-- the home is the same, and what was put and taken is this
abbrev pub Moves : {D : Type 0} → View D → (Hand → Hand) → View D → Type 0
Moves {D} v f w = (home : D) (h : Hand) → v ≡ At home h → w ≡ At home (f h)

-- ---- put

-- one more task was put
abbrev pub put_in : {J : Type 0} → (J → Pair) → Hand → Task J → Hand
put_in pair h (a_job j) = record h { put = h.put ++ pair j ∷ [] }
put_in pair h Stop = record h { stops_put = suc h.stops_put }

-- one more answer of this pair was put
abbrev pub after_answer : Hand → Pair → Hand
after_answer h p = record h { put = h.put ++ p ∷ [] }

-- a job may be put where its number is above those before
abbrev pub MayPut : {J : Type 0} → (J → Pair) → Hand → Task J → Type 0
MayPut pair h (a_job j) = IsAboveEach (pair j).number h.put
MayPut pair h Stop = Unit {0}

-- the pass may put this task
abbrev pub MayPutTask : {J D : Type 0} → (J → Pair) → (D → J → Type 0) → View D → Task J → Type 0
MayPutTask {J} {D} pair made v x = (home : D) × (h : Hand) × (v ≡ At home h) × (h.puts ≡ true) × IsMadeTask made home x × MayPut pair h x

-- the pass may put this answer: it knows that its pair is permitted
abbrev pub MayPutAnswer : {A D : Type 0} → (A → Pair) → (D → A → Type 0) → View D → A → Type 0
MayPutAnswer {A} {D} pair made v x = (home : D) × (h : Hand) × (v ≡ At home h) × (h.puts ≡ true) × made home x × Contains h.known (pair x)

-- ---- take

-- one more task was taken
abbrev pub taken_out : {J : Type 0} → (J → Pair) → Hand → Task J → Hand
taken_out pair h (a_job j) = record h { taken = h.taken ++ pair j ∷ [] }
taken_out pair h Stop = record h { stops_taken = suc h.stops_taken }

-- one more of this pair was taken
abbrev pub pair_out : Hand → Pair → Hand
pair_out h p = record h { taken = h.taken ++ p ∷ [] }

-- the task that was taken is of the home, and where the pass that puts has put no stop, it is a job
abbrev pub IsTaken : {J D : Type 0} → (D → J → Type 0) → View D → Task J → Type 0
IsTaken {J} {D} made v x = (home : D) (h : Hand) → v ≡ At home h → IsMadeTask made home x × (h.puts ≡ true → h.stops_put ≡ 0 → stops_of (x ∷ []) ≡ 0)

-- the job that was taken is of the home
abbrev pub IsTakenOne : {X D : Type 0} → (D → X → Type 0) → View D → X → Type 0
IsTakenOne {X} {D} made v x = (home : D) (h : Hand) → v ≡ At home h → made home x

-- the answer that was taken is of the home, and the pass that took it has permitted its pair
abbrev pub IsTakenAnswer : {A D : Type 0} → (A → Pair) → (D → A → Type 0) → View D → A → Type 0
IsTakenAnswer {A} {D} pair made v x = (home : D) (h : Hand) → v ≡ At home h → made home x × Contains h.permitted (pair x)

-- the pass is of a home
abbrev pub KnowsHome : {D : Type 0} → View D → Type 0
KnowsHome {D} v = (home : D) × (h : Hand) × (v ≡ At home h)

-- the pass puts, and has put no stop
abbrev pub MayTakeJob : {D : Type 0} → View D → Type 0
MayTakeJob {D} v = (home : D) × (h : Hand) × (v ≡ At home h) × (h.puts ≡ true) × (h.stops_put ≡ 0)

-- the pass takes answers
abbrev pub TakesAnswers : {D : Type 0} → View D → Type 0
TakesAnswers {D} v = (home : D) × (h : Hand) × (v ≡ At home h) × (h.puts ≡ false)

-- ---- split

-- what the pass has put and taken when another is split off it: nothing where it is the first,
-- which puts or takes
abbrev pub opened : {D : Type 0} → Bool → View D → Hand
opened puts Opening = idle puts
opened puts (At home h) = h

-- the pass is the first, and knows nothing yet, or is of this home
abbrev pub IsFirstPass : {D : Type 0} → D → View D → Type 0
IsFirstPass home v = (v ≡ Opening) ⊎ ((h : Hand) × (v ≡ At home h))

-- the home of a pass, or this one where it knows none yet
abbrev pub home_of_view : {D : Type 0} → D → View D → D
home_of_view d Opening = d
home_of_view d (At home h) = home

-- what the pass has put and taken, and one more pair that it permits
abbrev pub permitting : Hand → Pair → Hand
permitting h p = record h { permitted = h.permitted ++ p ∷ [] }

-- what the pass has put and taken, and more pairs that it knows to be permitted
abbrev pub informed : Hand → List Pair → Hand
informed h ps = record h { known = h.known ++ ps }

-- what a pass that takes answers knows to be permitted, it has permitted
abbrev pub KnowsOwn : {D : Type 0} → View D → Type 0
KnowsOwn {D} v = (home : D) (h : Hand) → v ≡ At home h → h.puts ≡ false → All (Contains h.permitted) h.known
