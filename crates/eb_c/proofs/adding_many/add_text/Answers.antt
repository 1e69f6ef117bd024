use Rattle.std.proofs.Common.{refl}
use Rattle.eb_c.specs.Adding.{docs_after}
use Rattle.eb_c.proofs.adding_many.add_text.Goals as goal

pub returns-in-Writer-clause-writer : goal.returns-in-Writer-clause-writer
returns-in-Writer-clause-writer c = λ w e.
    let r = c.document_as-read.result in
    let added = c.add_read.ensures.added w e in
    (record { index = w.index; docs = docs_after w.index.setting w.docs r; converted = w.converted }, added.1, (r, c.document_as-read.ensures, added.0, refl))
