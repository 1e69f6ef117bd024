-- What the rules say of numbers and pairs.
use Rattle.std.specs.Prelude.{◌≡◌, ℕ, ◌+◌, ◌≤◌, Bool, ◌==◌, ◌&&◌, cond, bytes_eq, List, map}
use mathlib.Core.Option.{some}
use lib.ListN.{get_elem?}
use Rattle.eb_desk.specs.declared.job.Task.{Task}
use Rattle.eb_desk.specs.declared.rule.Pair.{Pair}
use Rattle.eb_desk.specs.declared.rule.Hand.{Hand}
use Rattle.eb_desk.specs.declared.rule.View.{View}
use Rattle.eb_desk.specs.declared.rule.View.TheVariants.{At}
use Rattle.eb_desk.specs.Rule.{job_pairs, weigh, total, JobsOf, AnswersOf}

-- how often a number occurs in a list
abbrev pub times : ℕ → List Pair → ℕ
times n ps = weigh (λ p. cond (p.number == n) 1 0) ps

-- whether two pairs are the same
abbrev pub is_same : Pair → Pair → Bool
is_same p q = q.number == p.number && q.told == p.told && bytes_eq q.asks p.asks

-- how often a pair occurs in a list
abbrev pub stands : Pair → List Pair → ℕ
stands p ps = weigh (λ q. cond (is_same p q) 1 0) ps

module _ {J D : Type 0} (pair : J → Pair) (made : D → J → Type 0) where
  -- no number occurs twice among the queue of jobs and what the clerk and the workers took of it:
  -- each job is taken at most once
  abbrev pub JobsAreTakenOnce : Type 0
  JobsAreTakenOnce = (home : D) (items : List (Task J)) (views : List (View D)) → JobsOf pair made home items views → (n : ℕ)
      → total (λ h. times n h.taken) views + times n (job_pairs pair items) ≤ 1

  -- each pair in the queue of jobs, and each that was taken of it, is one that the clerk put
  abbrev pub JobsAreKnown : Type 0
  JobsAreKnown = (home : D) (items : List (Task J)) (views : List (View D)) (jobs : JobsOf pair made home items views) (clerk : Hand)
      → get_elem? views jobs.clerk ≡ some (At home clerk) → (p : Pair)
      → total (λ h. stands p h.taken) views + stands p (job_pairs pair items) ≤ stands p clerk.put

-- each pair occurs in the queue of answers and in what the clerk took of it together as often as in
-- what the workers put
abbrev pub AnswersAreKept : {A D : Type 0} → (A → Pair) → (D → A → Type 0) → Type 0
AnswersAreKept {A} {D} pair made = (home : D) (items : List A) (views : List (View D)) → AnswersOf pair made home items views → (p : Pair)
    → total (λ h. stands p h.put) views ≡ total (λ h. stands p h.taken) views + stands p (map pair items)
