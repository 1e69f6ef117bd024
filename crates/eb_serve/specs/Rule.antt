-- The rules of the two queues, where jobs and answers are of an index.
use Rattle.std.specs.Prelude.{◌≡◌, ℕ, List}
use Rattle.eb_desk.specs.Homes.{Home}
use Rattle.eb_desk.specs.declared.job.Task.{Task}
use Rattle.eb_desk.specs.declared.rule.Asked.{Asked}
use Rattle.eb_desk.specs.declared.rule.View.{View}
use Rattle.eb_desk.specs.Rule.{asked_pair, IsAsked, IsGiven, KeepsJobs as KeepsJobsOf, KeepsAnswers as KeepsAnswersOf}
use Rattle.eb_serve.specs.declared.job.Job.{Job}
use Rattle.eb_serve.specs.declared.job.Answer.{Answer}
use Rattle.eb_serve.specs.Jobs.{pair_of, asker, answer_pair, answerer, index_of}

-- the reader of a job, and that of an answer, was made with the index
abbrev pub IsMadeJob : List ℕ → Job → Type 0
IsMadeJob home j = (asker j).index ≡ index_of home

abbrev pub IsMadeAnswer : List ℕ → Answer → Type 0
IsMadeAnswer home a = (answerer a).index ≡ index_of home

-- the rule of the queue of jobs
abbrev pub KeepsJobs : List (Task (Asked Job Answer)) → List (View Home) → Type 0
KeepsJobs = KeepsJobsOf (asked_pair pair_of) (IsAsked pair_of IsMadeJob)

-- the rule of the queue of answers
abbrev pub KeepsAnswers : List Answer → List (View Home) → Type 0
KeepsAnswers = KeepsAnswersOf answer_pair (IsGiven IsMadeAnswer)
