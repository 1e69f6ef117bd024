use Rattle.std.proofs.Common.{List, length, ap, ◌∙◌}
use Rattle.eb_base.specs.Document.{Doc}
use Rattle.eb_c.proofs.Holdings.{last_is, last_used}
use Rattle.eb_c.proofs.exports.eb_last_segment.Goals as goal

pub returns-clause-documents : goal.returns-clause-documents
returns-clause-documents c words docs h = h.placer.used.documents ∙ ap (λ (seg : List Doc). length seg) (last_is c.args.index.now words docs h)

pub returns-clause-used : goal.returns-clause-used
returns-clause-used c words docs h = last_used c.args.index.now words docs h
