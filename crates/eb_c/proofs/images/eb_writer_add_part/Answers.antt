use Rattle.eb_c.proofs.images.eb_writer_add_part.Goals as goal

pub returns-clause-added : goal.returns-clause-added
returns-clause-added c = λ w e.
    let part = c.read_part-document.result in
    let added = c.add_by-number.ensures.added w e in
    (part.document, part.len, c.read_part-document.ensures, added.0, c.taken_of.ensures, added.1)
