use Rattle.std.proofs.Common.{◌≡◌, ◌≤◌, ◌<◌, ◌+◌, ℕ, List}
use Rattle.eb_base.specs.Term.{Term}
use Rattle.eb_place.specs.Told.{Told}
use Rattle.eb_place.specs.Postings.{at_most}
use Rattle.eb_block.specs.Reading.{ListStands}
use Rattle.eb_block.proofs.packed_list.PackedList.seek_inside.Given as goal

abbrev pub invariant-above : goal.invariant-above
invariant-above g l =
    (1 ≤ l.list.inside) × (l.most < l.list.last)
    × (l.list ≡ record l.fn.self { at = l.list.at; bits = l.list.bits; inside = l.list.inside; last = l.list.last; held = l.list.held })
    × (l.steps + l.fn.self.at ≡ l.fn.steps + l.list.at) × (l.steps + l.list.inside ≤ l.fn.steps + l.fn.self.inside) × (l.list.inside ≤ l.fn.self.inside)
    × ((s : ℕ) (t : Term) (rest : List ℕ) (budget : ℕ) → Told g.P.Port.stands g.P.Port.keeps l.fn.port l.port (λ m. ListStands m s t l.fn.self rest budget)
    (λ n. (after : List ℕ) × (b : ℕ) × ListStands n s t l.list after b × (l.steps + b ≤ l.fn.steps + budget) × (at_most l.most after ≡ at_most l.most rest)))

abbrev pub decreases-above : goal.decreases-above
decreases-above g l = l.list.inside
