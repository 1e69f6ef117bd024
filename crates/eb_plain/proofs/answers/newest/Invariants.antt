use Rattle.std.proofs.Common.{◌≤◌, length}
use Rattle.eb_base.specs.Query.{tree}
use Rattle.eb_base.proofs.Answering.{IsWalk}
use Rattle.eb_plain.proofs.answers.newest.Given as goal

abbrev pub invariant-loop-place : goal.invariant-loop-place
invariant-loop-place l = record {
  walk : IsWalk (tree l.query) l.k l.documents l.place l.ids.items;
  within : l.place ≤ length l.documents;
}

abbrev pub decreases-loop-place : goal.decreases-loop-place
decreases-loop-place l = l.place
