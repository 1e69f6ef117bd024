use Rattle.eb_fields.specs.Dialect.{dialect_of}
use Rattle.feed_with_workers.specs.FeedRules.{workers_rules}
use Rattle.feed_with_workers.proofs.FeedOffices.{new_side, opens_feed}
use Rattle.feed_with_workers.proofs.run.serve.Goals as goal

pub serve_lines-status-requires : goal.serve_lines-status-requires
serve_lines-status-requires g c =
    let s = c.args.service.now in
    let p = s.plan.now in
    let how = dialect_of p.lines.dialect in
    let n = new_side s.desk.now.queues p.lines.config p.keep c.args.side.now c.in-Some.field-0 c.requires c.in-Some.ensures.value in
    (workers_rules how p.lines.config p.keep p.lines.form, opens_feed _ how p.lines.config p.keep n.0 n.1 n.2 n.3)

pub returns-clause-ends : goal.returns-clause-ends
returns-clause-ends g c =
    let s = c.args.service.now in
    let p = s.plan.now in
    let how = dialect_of p.lines.dialect in
    let n = new_side s.desk.now.queues p.lines.config p.keep c.args.side.now c.in-Some.field-0 c.requires c.in-Some.ensures.value in
    c.serve_lines-status.ensures.ends (workers_rules how p.lines.config p.keep p.lines.form) (opens_feed _ how p.lines.config p.keep n.0 n.1 n.2 n.3)
