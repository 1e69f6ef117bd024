use Rattle.std.proofs.Common.{◌≡◌, ◌+◌, ◌-◌, ◌*◌}
use Rattle.eb_base.specs.Document.{most_bytes}
use Rattle.eb_image.proofs.Scans.{scan}
use Rattle.eb_image.proofs.scan.end_of_terms.Given as goal

abbrev pub invariant-terms : goal.invariant-terms
invariant-terms l = record {
  scan : scan (l.count - l.counter) l.at l.room l.bytes ≡ scan l.count 11 most_bytes l.bytes;
  sum : l.at + l.room ≡ 11 + most_bytes + 2 * l.counter;
}
