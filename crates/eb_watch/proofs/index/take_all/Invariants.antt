use Rattle.std.proofs.Common.{◌≡◌, ℕ, ◌==◌, ◌&&◌, not, List, take, bytes_eq}
use Rattle.std.specs.List.{list_any}
use Rattle.eb_watch.specs.Index.{leads}
use Rattle.eb_watch.proofs.index.take_all.Given as goal

abbrev pub invariant-loop-term : goal.invariant-loop-term
invariant-loop-term l = (t : List ℕ) (n : ℕ) → leads l.by_term t n ≡ (leads l.initial.by_term t n && not ((n == l.number) && list_any (bytes_eq t) (take l.term-index l.terms)))
