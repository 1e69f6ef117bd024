use Rattle.eb_fields.specs.Dialect.{dialect_of}
use Rattle.std.proofs.Common.{Some, map, string_bytes, ap, ◌∙◌}
use Rattle.eb_run.specs.Command.{asks, asked_of}
use Rattle.eb_run.specs.declared.command.Command.TheVariants.{Run, Save}
use Rattle.eb_run.proofs.Commanded.{ends_asked, none_done}
use Rattle.eb_run.proofs.dispatch.run_words.Goals as goal

pub returns-in-Err-NoMemory-clause-ends : goal.returns-in-Err-NoMemory-clause-ends
returns-in-Err-NoMemory-clause-ends g c = λ how command is. none_done how command _ _

pub returns-in-Run-clause-ends : goal.returns-in-Run-clause-ends
returns-in-Run-clause-ends g c = λ how command is.
    ends_asked (asked_of (map string_bytes c.args.words.now.items)) (asks (dialect_of c.in-Ok.request.dialect)
    (Run c.in-Run.mode c.in-Run.form c.in-Run.config)) how command c.run_lines.result _ _ _ _
    (c.in-Ok.ensures.request ∙ ap (λ x. Some (asks (dialect_of c.in-Ok.request.dialect) x)) c.in-Run.is) is c.run_lines.ensures.ends

pub returns-in-Save-clause-ends : goal.returns-in-Save-clause-ends
returns-in-Save-clause-ends g c = λ how command is.
    ends_asked (asked_of (map string_bytes c.args.words.now.items)) (asks (dialect_of c.in-Ok.request.dialect) (Save c.in-Save.config)) how command c.save_lines.result _ _ _ _
    (c.in-Ok.ensures.request ∙ ap (λ x. Some (asks (dialect_of c.in-Ok.request.dialect) x)) c.in-Save.is) is c.save_lines.ensures.ends
