use Rattle.std.proofs.Common.{◌≡◌, ◌+◌, ◌-◌, ◌*◌, ◌≤◌, ◌++◌, length, drop}
use Rattle.std.specs.Prelude.{vec_len, vec_capacity}
use Rattle.eb_lines.specs.Text.{room_of}
use Rattle.run_ahead.specs.Tasks.{run_text, run_refused}
use Rattle.run_ahead.proofs.adding.put_run.Given as goal

abbrev pub invariant-loop-at : goal.invariant-loop-at
invariant-loop-at l = record {
  text : l.text.items ++ run_text l.form (l.before + l.at) (drop l.at l.tasks) (drop l.at l.refusals) ≡ l.initial.text.items ++ run_text l.form l.before l.tasks l.refusals;
  refused : l.refused + run_refused (drop l.at l.tasks) (drop l.at l.refusals) ≡ run_refused l.tasks l.refusals;
  few : l.refused ≤ l.at;
  room : vec_len l.text + room_of 0 * (length l.tasks - l.at) ≤ vec_capacity l.text;
}
