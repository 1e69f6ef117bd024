use Rattle.eb_fields.specs.Dialect.{dialect_of}
use Rattle.std.proofs.Common.{ℕ, Option, None, Ok, subst}
use Rattle.std.specs.Prelude.{Result}
use Rattle.eb_base.specs.declared.query.Query.{Query}
use Rattle.eb_lines.specs.declared.refusal.Refusal.{Refusal}
use Rattle.eb_lines.specs.Reading.{watch}
use Rattle.run_with_watches.specs.Others.{IsOther}
use Rattle.run_with_watches.proofs.watched.WatchingStore.take_other.Goals as goal

pub returns-in-Ok-default-None-clause-ok : goal.returns-in-Ok-default-None-clause-ok
returns-in-Ok-default-None-clause-ok g c =
    let O : Result (ℕ × Option Query) Refusal → Type 0 = IsOther (dialect_of c.args.dialect) c.args.bytes.now in
    let N : Option Query → Type 0 = λ q. IsOther (dialect_of c.args.dialect) c.args.bytes.now (Ok (c.in-Ok-default-None.number, q)) in
    let is = subst N c.in-Ok-default-None.field-0-1-is (subst O c.in-Ok-default-None.is c.in_ok-number.ensures) in
    (watch c.in-Ok-default-None.number None, is.1, c.remove.ensures)
