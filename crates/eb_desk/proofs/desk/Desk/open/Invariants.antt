use Rattle.std.proofs.Common.{◌≡◌, true, false, vec_len}
use Rattle.std.specs.Prelude.{All}
use Rattle.crossbeam_queue.specs.Passes.{view, IsPassOf}
use Rattle.eb_desk.specs.declared.rule.View.TheVariants.{At}
use Rattle.eb_desk.specs.Homes.{home_at}
use Rattle.eb_desk.specs.Rule.{idle}
use Rattle.eb_desk.specs.Desk.{new_worker}
use Rattle.eb_desk.proofs.desk.Desk.open.Given as goal

abbrev pub ghosts-cut_taker : goal.ghosts-cut_taker
ghosts-cut_taker g a = record { home = home_at (g.J.Job.key a.place.now) a.answers.now.table.shared.table_id }

abbrev pub ghosts-cut_putter : goal.ghosts-cut_putter
ghosts-cut_putter g a = record { home = home_at (g.J.Job.key a.place.now) a.queue.now.table.shared.table_id }

abbrev pub invariant-loop-number : goal.invariant-loop-number
invariant-loop-number g l = record {
  jobs : IsPassOf l.jobs l.clerk_jobs;
  answers : IsPassOf l.answers l.clerk_answers;
  clerk_jobs : view l.clerk_jobs ≡ At (home_at (g.J.Job.key l.place) l.answers.table.shared.table_id) (idle true);
  clerk_answers : view l.clerk_answers ≡ At (home_at (g.J.Job.key l.place) l.answers.table.shared.table_id) (idle false);
  workers : All (λ w. w ≡ new_worker (record { jobs = l.jobs.table.shared.table_id; answers = l.answers.table.shared.table_id }) (g.J.Job.key l.place)) l.all.items;
  count : vec_len l.all ≡ l.number;
}
