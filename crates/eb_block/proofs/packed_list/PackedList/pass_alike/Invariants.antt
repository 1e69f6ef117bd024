use Rattle.std.proofs.Common.{◌≡◌, ◌≤◌, ◌+◌, ◌*◌, ℕ, List, true}
use Rattle.eb_base.specs.Term.{Term}
use Rattle.eb_place.specs.Told.{Told}
use Rattle.eb_place.specs.Postings.{at_most}
use Rattle.eb_block.specs.Reading.{ListStands, loaded, remaining}
use Rattle.eb_block.proofs.packed_list.PackedList.pass_alike.Given as goal

abbrev pub invariant-alike : goal.invariant-alike
invariant-alike g l =
    (l.self.held ≡ true) × (1 ≤ l.self.left → l.self.inside ≡ 127) × (l.self.left ≤ l.fn.self.left)
    × (128 * l.steps + remaining l.self ≤ 128 * l.fn.steps + remaining l.fn.self + 128 * loaded l.self.header)
    × (1 ≤ l.self.left → 128 * l.steps + l.self.left ≤ 128 * l.fn.steps + l.fn.self.left + 128 * loaded l.self.header)
    × (remaining l.self ≤ remaining l.fn.self)
    × ((s : ℕ) (t : Term) (rest : List ℕ) (budget : ℕ) → Told g.P.Port.stands g.P.Port.keeps l.fn.port l.port (λ m. ListStands m s t l.fn.self rest budget)
    (λ n. (after : List ℕ) × (b : ℕ) × ListStands n s t l.self after b × (l.steps + b ≤ l.fn.steps + budget) × (at_most l.most after ≡ at_most l.most rest)))

abbrev pub decreases-alike : goal.decreases-alike
decreases-alike g l = l.self.left
