use Rattle.std.proofs.Common.{◌≡◌, ℕ, ◌<◌, get_or, false}
use Rattle.eb_query.specs.Lexemes.{is_quote}
use Rattle.eb_query.proofs.quoted.quote_at.Given as goal

abbrev pub invariant-loop-at : goal.invariant-loop-at
invariant-loop-at l = (k : ℕ) → k < l.at → is_quote (get_or l.bytes k 0) ≡ false
