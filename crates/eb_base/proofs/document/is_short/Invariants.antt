use Rattle.std.proofs.Common.{◌≡◌, ◌≤◌, take}
use Rattle.eb_base.specs.Document.{bytes_of, most_bytes}
use Rattle.eb_base.proofs.document.is_short.Given as goal

abbrev pub invariant-loop-at : goal.invariant-loop-at
invariant-loop-at l = (l.bytes ≡ bytes_of (take l.at l.terms)) × (l.bytes ≤ most_bytes)
