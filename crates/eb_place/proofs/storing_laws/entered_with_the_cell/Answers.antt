use Rattle.eb_place.proofs.EnteredByCell.{entered_cell}
use Rattle.eb_place.proofs.storing_laws.entered_with_the_cell.Goals as goal

pub returns : goal.returns
returns c = entered_cell
