use Rattle.eb_fields.specs.Dialect.{Dialect, dialect_of, uncounted, uncounted_of}
use Rattle.std.proofs.Common.{◌≡◌, ℕ, List, refl, ap, subst, sym}
use Rattle.std.specs.Prelude.{IfOk}
use Rattle.eb_io.specs.Lines.{line}
use Rattle.eb_query.proofs.Heads.{begins_newest}
use Rattle.eb_lines.specs.declared.refusal.Refusal.TheVariants.{BadLine}
use Rattle.eb_lines.specs.Kinds.{Kind, query_line, kind_of}
use Rattle.eb_lines.specs.Reading.{blank, refused}
use Rattle.eb_lines.specs.Reads.{ReadsByKind, Reads}
use Rattle.eb_lines.specs.Works.{reading_of}
use Rattle.eb_lines.proofs.LineKinds.{reads_as}
use Rattle.eb_lines.proofs.work.read_line.Goals as goal

pub returns-in-Blank : goal.returns-in-Blank
returns-in-Blank c =
    subst (λ (how : Dialect). Reads how (line c.args.bytes.now) blank) c.uncounted-dialect.ensures
    (reads_as (dialect_of c.uncounted-dialect.result) c.args.bytes.now _ blank c.in-Blank.ensures refl)

pub returns-in-Document : goal.returns-in-Document
returns-in-Document c =
    let P : Kind → Type 0 = λ k. IfOk c.document_work.result (λ work. ReadsByKind (dialect_of c.uncounted-dialect.result) k c.args.bytes.now (reading_of work)) in
    subst (λ (how : Dialect). IfOk c.document_work.result (λ work. Reads how (line c.args.bytes.now) (reading_of work))) c.uncounted-dialect.ensures
    (subst P (sym c.in-Document.ensures) c.document_work.ensures)

pub text_work-requires : goal.text_work-requires
text_work-requires c =
    begins_newest (dialect_of c.uncounted-dialect.result) c.in-Query.text.now (ap (λ (how : Dialect). how.counts) c.uncounted-dialect.ensures) c.in-Query.ensures.2

pub returns-in-Query : goal.returns-in-Query
returns-in-Query c =
    let bytes = c.args.bytes.now in
    let U = uncounted_of c.args.dialect in
    let kind : kind_of U bytes ≡ query_line = subst (λ (how : Dialect). kind_of how bytes ≡ query_line) c.uncounted-dialect.ensures c.in-Query.ensures.0 in
    let read : IfOk c.text_work.result (λ work. ReadsByKind U query_line c.in-Query.text.now (reading_of work)) =
    subst (λ (how : Dialect). IfOk c.text_work.result (λ work. ReadsByKind (uncounted how) query_line c.in-Query.text.now (reading_of work))) c.uncounted-dialect.ensures c.text_work.ensures in
    let P : Kind → Type 0 = λ k. IfOk c.text_work.result (λ work. ReadsByKind U k bytes (reading_of work)) in
    let Q : List ℕ → Type 0 = λ b. IfOk c.text_work.result (λ work. ReadsByKind U query_line b (reading_of work)) in
    subst P (sym kind) (subst Q c.in-Query.ensures.1 read)

pub returns-in-Bad : goal.returns-in-Bad
returns-in-Bad c =
    subst (λ (how : Dialect). Reads how (line c.args.bytes.now) (refused BadLine)) c.uncounted-dialect.ensures
    (reads_as (dialect_of c.uncounted-dialect.result) c.args.bytes.now _ (refused BadLine) c.in-Bad.ensures refl)
