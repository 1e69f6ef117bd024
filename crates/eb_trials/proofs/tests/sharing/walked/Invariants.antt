use Rattle.std.proofs.Common.{ℕ, List}
use Rattle.eb_place.specs.declared.moment.Moment.{Moment}
use Rattle.eb_chain.specs.Chains.{Stands}
use Rattle.eb_trials.proofs.tests.sharing.walked.Given as goal

abbrev pub invariant-loop : goal.invariant-loop
invariant-loop g l = (m : Moment) × (s : ℕ) × (t : List ℕ) × (opened : ℕ) × (rest : List ℕ) × g.P.Port.stands l.port m × Stands m s t l.chain opened rest
