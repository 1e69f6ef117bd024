use Rattle.eb_place.proofs.FitsEmptySegment.{fits_empty}
use Rattle.eb_place.proofs.laws.each_document_fits.Goals as goal

pub returns : goal.returns
returns c = fits_empty c.args.config c.words-words.ensures.setting c.args.document.now c.terms-terms.ensures.document
