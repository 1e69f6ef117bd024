use Rattle.std.proofs.Common.{◌≡◌, ◌+◌, ◌≤◌, length, take, filter}
use Rattle.eb_base.specs.Match.{is_match}
use Rattle.eb_watch.specs.Index.{finds}
use Rattle.eb_watch.specs.Seen.{watches_of}
use Rattle.eb_watch.proofs.watches.Watches.told.Given as goal

abbrev pub invariant-loop-number : goal.invariant-loop-number
invariant-loop-number g l =
    (l.numbers.items ≡ filter (finds (λ q. is_match q l.document) (watches_of l.self)) (take l.number-index l.number-items))
    × (l.tests ≤ l.initial.tests + l.number-index)
    × (length l.ends ≡ length l.document.terms)
