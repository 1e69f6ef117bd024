use Rattle.std.proofs.Common.{◌≡◌, sym, ◌∙◌, unwrap_or}
use Rattle.std.specs.Prelude.{codes}
use Rattle.std.proofs.lemmas.Bool.{false≢true}
use Rattle.std.proofs.lemmas.Slice.Eq.{bytes_eq-Decides}
use Rattle.eb_fields.specs.Given.{told_text}
use Rattle.eb_doc.proofs.Named.{string_here, string_stays}
use Rattle.eb_doc.proofs.members.see_text.Goals as goal

pub returns-then-is_named : goal.returns-then-is_named
returns-then-is_named c ms d told shown =
    let looked = unwrap_or (told_text c.args.dialect.now.text) (codes "text") in
    let name = c.args.name.now in
    let is = (bytes_eq-Decides name looked).0 (sym c.is_named.ensures ∙ c.if-is_named.true) in
    shown.string ∙ sym (string_here looked name d ms is)

pub returns-else-is_named : goal.returns-else-is_named
returns-else-is_named c ms d told shown =
    let looked = unwrap_or (told_text c.args.dialect.now.text) (codes "text") in
    let name = c.args.name.now in
    let other : looked ≡ name → ⊥ = λ e. false≢true (sym c.if-is_named.false ∙ c.is_named.ensures ∙ (bytes_eq-Decides name looked).1 (sym e)) in
    told ∙ sym (string_stays looked name d ms other)
