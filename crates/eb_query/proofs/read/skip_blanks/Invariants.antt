use Rattle.eb_fields.specs.Dialect.{Dialect}
use Rattle.std.proofs.Common.{◌≡◌, ◌+◌, ◌-◌, ◌≤◌, length, drop}
use Rattle.std.specs.Str.{IsCharBoundary}
use Rattle.eb_query.specs.Lexemes.{lexemes}
use Rattle.eb_query.proofs.read.skip_blanks.Given as goal

abbrev pub invariant-loop-at : goal.invariant-loop-at
invariant-loop-at l = record {
  told : (how : Dialect) → lexemes how 0 (l.fn.from + 1) (drop l.fn.from l.line) ≡ lexemes how 0 (l.at + 1) (drop l.at l.line);
  from : l.fn.from ≤ l.at;
  within : l.at ≤ length l.line;
  boundary : IsCharBoundary l.line l.at;
}

abbrev pub decreases-loop-at : goal.decreases-loop-at
decreases-loop-at l = length l.line - l.at
