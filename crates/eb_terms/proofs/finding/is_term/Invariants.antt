use Rattle.std.proofs.Common.{◌≡◌, ◌+◌, ◌<◌}
use Rattle.eb_place.specs.Placing.{text_of}
use Rattle.eb_place.specs.Told.{Told}
use Rattle.eb_terms.specs.Comparing.{IsNumber, IsText, term_at}
use Rattle.eb_terms.proofs.Reading.{AreSame}
use Rattle.eb_terms.proofs.finding.is_term.Given as goal

abbrev pub invariant-loop-at : goal.invariant-loop-at
invariant-loop-at g l =
    Told g.P.Port.stands g.P.Port.keeps l.fn.port l.port (λ m. (l.places ≡ m.setting) × (l.segment < m.setting.segments) × IsNumber m l.segment l.number)
    (λ n. IsText n l.segment l.number l.start × AreSame (text_of (term_at n l.segment l.number)) (text_of l.term) l.at)
    × (l.steps ≡ l.fn.steps + 1 + l.at)
