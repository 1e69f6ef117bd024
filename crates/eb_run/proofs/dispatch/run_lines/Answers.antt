use Rattle.eb_fields.specs.Dialect.{dialect_of}
use Rattle.eb_run.specs.declared.command.mode.Mode.TheVariants.{InOrder, Overlap, Workers, Parts, OverlapParts, Watch}
use Rattle.eb_run.proofs.Modes.{ended}
use Rattle.eb_run.proofs.dispatch.run_lines.Goals as goal

pub returns-in-InOrder-clause-ends : goal.returns-in-InOrder-clause-ends
returns-in-InOrder-clause-ends g c =
    let plan = c.args.plan.now in
    ended c.args.mode InOrder (dialect_of plan.dialect) plan.config plan.form _ _ _ _ _ c.in-InOrder.is c.run_in_order.ensures.ends

pub returns-in-Overlap-clause-ends : goal.returns-in-Overlap-clause-ends
returns-in-Overlap-clause-ends g c =
    let plan = c.args.plan.now in
    ended c.args.mode Overlap (dialect_of plan.dialect) plan.config plan.form _ _ _ _ _ c.in-Overlap.is c.run_beside.ensures.ends

pub returns-in-Workers-clause-ends : goal.returns-in-Workers-clause-ends
returns-in-Workers-clause-ends g c =
    let plan = c.args.plan.now in
    ended c.args.mode (Workers c.in-Workers.workers) (dialect_of plan.dialect) plan.config plan.form _ _ _ _ _ c.in-Workers.is c.run_workers.ensures.ends

pub returns-in-Parts-clause-ends : goal.returns-in-Parts-clause-ends
returns-in-Parts-clause-ends g c =
    let plan = c.args.plan.now in
    ended c.args.mode (Parts c.in-Parts.parts) (dialect_of plan.dialect) plan.config plan.form _ _ _ _ _ c.in-Parts.is c.run_parts.ensures.ends

pub returns-in-OverlapParts-clause-ends : goal.returns-in-OverlapParts-clause-ends
returns-in-OverlapParts-clause-ends g c =
    let plan = c.args.plan.now in
    ended c.args.mode (OverlapParts c.in-OverlapParts.parts) (dialect_of plan.dialect) plan.config plan.form _ _ _ _ _ c.in-OverlapParts.is c.run_parts-in-OverlapParts.ensures.ends

pub returns-in-Watch-clause-ends : goal.returns-in-Watch-clause-ends
returns-in-Watch-clause-ends g c =
    let plan = c.args.plan.now in
    ended c.args.mode Watch (dialect_of plan.dialect) plan.config plan.form _ _ _ _ _ c.in-Watch.is c.run_watches.ensures.ends
