use Rattle.std.proofs.Common.{◌≡◌, ℕ, ◌<◌, get_or, false}
use Rattle.eb_query.specs.Lexemes.{is_blank}
use Rattle.eb_query.proofs.head.blank_at.Given as goal

abbrev pub invariant-loop-at : goal.invariant-loop-at
invariant-loop-at l = (k : ℕ) → k < l.at → is_blank (get_or l.bytes k 0) ≡ false
