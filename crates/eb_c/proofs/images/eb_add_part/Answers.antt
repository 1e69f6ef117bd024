use Rattle.eb_c.proofs.images.eb_add_part.Goals as goal

pub returns-clause-added : goal.returns-clause-added
returns-clause-added c docs h =
    let part = c.read_part-document.result in
    (part.document, part.len, c.read_part-document.ensures, c.add_read-number.ensures.number docs h, c.taken_of.ensures, c.add_read-number.ensures.index docs h)
