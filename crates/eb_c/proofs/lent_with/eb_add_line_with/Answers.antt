use Rattle.eb_c.specs.Adding.{document_in_as}
use Rattle.eb_c.specs.Holding.{setting_of}
use Rattle.eb_c.proofs.Addings.{adds_read}
use Rattle.eb_c.proofs.lent_with.eb_add_line_with.Goals as goal

pub returns-clause-added : goal.returns-clause-added
returns-clause-added c docs h =
    adds_read (setting_of c.args.index.now) docs c.document_in_line_as.result (document_in_as c.args.how.now c.args.line.now) _ _ _ c.document_in_line_as.ensures
    (c.add_read.ensures.number docs h) (c.add_read.ensures.index docs h)
