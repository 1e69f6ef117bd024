use Rattle.eb_place.proofs.StoresLie.{packs_fit, block_few}
use Rattle.eb_place.proofs.storing_laws.packing_fits.Goals as goal

pub returns-clause-segment : goal.returns-clause-segment
returns-clause-segment c = packs_fit

pub returns-clause-block : goal.returns-clause-block
returns-clause-block c = block_few
