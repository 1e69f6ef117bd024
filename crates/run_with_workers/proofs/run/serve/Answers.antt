use Rattle.eb_fields.specs.Dialect.{dialect_of}
use Rattle.std.proofs.Common.{[]}
use Rattle.run_index.specs.IndexRules.{index_rules}
use Rattle.run_with_workers.proofs.IndexOffices.{new_side, opens_index}
use Rattle.run_with_workers.proofs.run.serve.Goals as goal

pub serve_lines-status-requires : goal.serve_lines-status-requires
serve_lines-status-requires g c =
    let s = c.args.service.now in
    let how = dialect_of s.plan.now.dialect in
    let n = new_side s.desk.now.queues s.index.now c.args.side.now c.in-Some.field-0 c.requires c.in-Some.ensures.value in
    (index_rules how s.index.now.setting s.plan.now.form [], opens_index _ how n.0 n.1 n.2 n.3)

pub returns-clause-ends : goal.returns-clause-ends
returns-clause-ends g c =
    let s = c.args.service.now in
    let how = dialect_of s.plan.now.dialect in
    let n = new_side s.desk.now.queues s.index.now c.args.side.now c.in-Some.field-0 c.requires c.in-Some.ensures.value in
    c.serve_lines-status.ensures.ends (index_rules how s.index.now.setting s.plan.now.form []) (opens_index _ how n.0 n.1 n.2 n.3)
