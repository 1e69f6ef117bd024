use Rattle.eb_c.specs.Adding.{document_in}
use Rattle.eb_c.specs.Holding.{setting_of}
use Rattle.eb_c.proofs.Addings.{adds_read}
use Rattle.eb_c.proofs.exports.eb_add_line.Goals as goal

pub returns-clause-added : goal.returns-clause-added
returns-clause-added c docs h =
    adds_read (setting_of c.args.index.now) docs c.document_in_line.result (document_in c.args.line.now) _ _ _ c.document_in_line.ensures (c.add_read.ensures.number docs h)
    (c.add_read.ensures.index docs h)
