use Rattle.std.proofs.Common.{◌≡◌, sym, ◌∙◌, unwrap_or}
use Rattle.std.specs.Prelude.{codes}
use Rattle.std.proofs.lemmas.Bool.{false≢true}
use Rattle.std.proofs.lemmas.Slice.Eq.{bytes_eq-Decides}
use Rattle.eb_fields.specs.Given.{told_text}
use Rattle.eb_doc.proofs.Named.{id_here, id_stays}
use Rattle.eb_doc.proofs.members.see_id.Goals as goal

pub returns-then-is_named : goal.returns-then-is_named
returns-then-is_named c ms d told shown =
    let looked = unwrap_or (told_text c.args.dialect.now.id) (codes "id") in
    let name = c.args.name.now in
    let is = (bytes_eq-Decides name looked).0 (sym c.is_named.ensures ∙ c.if-is_named.true) in
    c.id_by.ensures ∙ id_here name d ms (told_text c.args.dialect.now.id) c.args.seen.now is shown

pub returns-else-is_named : goal.returns-else-is_named
returns-else-is_named c ms d told shown =
    let looked = unwrap_or (told_text c.args.dialect.now.id) (codes "id") in
    let name = c.args.name.now in
    let other : looked ≡ name → ⊥ = λ e. false≢true (sym c.if-is_named.false ∙ c.is_named.ensures ∙ (bytes_eq-Decides name looked).1 (sym e)) in
    told ∙ sym (id_stays name d ms (told_text c.args.dialect.now.id) other)
