use Rattle.eb_fields.specs.Dialect.{dialect_of}
use Rattle.std.proofs.Common.{◌≡◌, sym, ap, ◌∙◌, subst}
use Rattle.eb_run.specs.Holding.{held_as}
use Rattle.eb_run.specs.declared.running.Running.{Running}
use Rattle.eb_lines.specs.Programs.{WorksOn}
use Rattle.eb_lines.proofs.PassingLines.{running_on}
use Rattle.eb_lines.proofs.Results.{ok_on, err_on}
use Rattle.eb_run.specs.Running.{HasRun}
use Rattle.eb_run.proofs.Runnings.{goes_after}
use Rattle.eb_run.proofs.running.Running.hold.Goals as goal

pub put-requires-clause-state : goal.put-requires-clause-state
put-requires-clause-state g c = running_on HasRun c.args.self.now c.make_way.new.self c.args.text.now.items c.make_way.new.text.items c.requires.state c.make_way.ensures.on

pub returns-clause-ok : goal.returns-clause-ok
returns-clause-ok g c =
    let r = c.requires.state in
    let after = c.make_way.ensures.on r.0 r.1 r.2 r.3 in
    let same : dialect_of c.make_way.new.self.dialect ≡ dialect_of c.args.self.now.dialect = after.1.dialect ∙ sym r.3.dialect in
    ok_on c.put.result c.put.ensures.ok (λ f l is. goes_after c.args.self.now c.make_way.new.self c.put.new.self c.args.text.now.items c.make_way.new.text.items
    c.make_way.new.text.items l c.make_way.ensures.on (f l (ap (λ d. held_as d l) same ∙ is) c.make_way.new.text.items))

pub returns-clause-err : goal.returns-clause-err
returns-clause-err g c =
    let W : Running → Type 0 = λ r. WorksOn HasRun c.args.self.now r c.args.text.now.items c.make_way.new.text.items in
    err_on c.put.result c.put.ensures.err (λ e. subst W (sym e) c.make_way.ensures.on)
