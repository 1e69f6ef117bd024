use Rattle.std.proofs.Common.{◌≡◌, ℕ, ◌||◌, take, nat_eq}
use Rattle.std.specs.List.{list_any}
use Rattle.eb_watch.specs.Index.{leads}
use Rattle.eb_watch.proofs.candidates.put_led.Given as goal

abbrev pub invariant-loop-at : goal.invariant-loop-at
invariant-loop-at l = (n : ℕ) → list_any (nat_eq n) l.numbers.items ≡ (list_any (nat_eq n) l.initial.numbers.items || list_any (λ t. leads l.by_term t n) (take l.at l.terms))
