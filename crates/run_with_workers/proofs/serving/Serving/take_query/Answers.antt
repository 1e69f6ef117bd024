use Rattle.std.proofs.Common.{subst}
use Rattle.std.specs.Prelude.{Result}
use Rattle.eb_base.specs.declared.query.Query.{Query}
use Rattle.eb_base.specs.Query.{tree}
use Rattle.eb_fields.specs.Dialect.{dialect_of}
use Rattle.eb_query.specs.declared.ask.Ask.{Ask}
use Rattle.eb_lines.specs.declared.refusal.Refusal.{Refusal}
use Rattle.eb_lines.specs.Reading.{query, refused}
use Rattle.eb_lines.proofs.Results.{ok_on}
use Rattle.run_store.specs.Questions.{IsQuestion}
use Rattle.run_with_workers.proofs.serving.Serving.take_query.Goals as goal

pub returns-in-Ok-clause-ok : goal.returns-in-Ok-clause-ok
returns-in-Ok-clause-ok g c =
    let Q : Result (Ask × Query) Refusal → Type 0 = λ read. IsQuestion (dialect_of c.args.self.now.dialect) c.args.text.now read in
    let is = subst Q c.in-Ok.is c.in_ok-ask.ensures in
    ok_on c.answer.result c.answer.ensures.ok (λ takes. (query c.in-Ok.ask (tree c.in-Ok.query), is.1, takes))

pub returns-in-Err-clause-ok : goal.returns-in-Err-clause-ok
returns-in-Err-clause-ok g c =
    let Q : Result (Ask × Query) Refusal → Type 0 = λ read. IsQuestion (dialect_of c.args.self.now.dialect) c.args.text.now read in
    let is = subst Q c.in-Err.is c.in_ok-ask.ensures in
    (refused c.in-Err.refusal, is, c.refuse.ensures)
