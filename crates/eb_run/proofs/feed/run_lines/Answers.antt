use Rattle.eb_fields.specs.Dialect.{dialect_of}
use Rattle.std.proofs.Common.{refl}
use Rattle.eb_run.specs.declared.feed.command.FeedWay.TheVariants.{InOrder, Watches, Overlap}
use Rattle.eb_run.specs.FeedOutput.{rules_of}
use Rattle.eb_run.proofs.Feeds.{fed_none, ended}
use Rattle.eb_run.proofs.feed.run_lines.Goals as goal

pub returns-in_default-clause-ends : goal.returns-in_default-clause-ends
returns-in_default-clause-ends g c = fed_none c.args.command.way (dialect_of c.args.dialect) c.args.command _ _

pub answer_watched-requires : goal.answer_watched-requires
answer_watched-requires g c = (rules_of (dialect_of c.args.dialect) c.args.command, refl, c.in-Ok.ensures (dialect_of c.args.dialect))

pub answer_ahead-requires-after_bounds : goal.answer_ahead-requires-after_bounds
answer_ahead-requires-after_bounds g c = λ κs bounds. (rules_of (dialect_of c.args.dialect) c.args.command, refl, c.in-Ok.ensures (dialect_of c.args.dialect))

pub answer_lines-requires : goal.answer_lines-requires
answer_lines-requires g c = (rules_of (dialect_of c.args.dialect) c.args.command, refl, c.in-Ok.ensures (dialect_of c.args.dialect))

pub returns-in-Watches-clause-ends : goal.returns-in-Watches-clause-ends
returns-in-Watches-clause-ends g c =
    let command = c.args.command in
    let how = dialect_of c.args.dialect in
    ended command.way Watches how command _ _ _ _ _ c.in-Watches.is (c.answer_watched.ensures.ends (rules_of how command) refl (c.in-Ok.ensures how))

pub returns-in-Overlap-clause-ends : goal.returns-in-Overlap-clause-ends
returns-in-Overlap-clause-ends g c =
    let command = c.args.command in
    let how = dialect_of c.args.dialect in
    ended command.way Overlap how command _ _ _ _ _ c.in-Overlap.is (c.answer_ahead.ensures.ends (rules_of how command) refl (c.in-Ok.ensures how))

pub returns-in-InOrder-clause-ends : goal.returns-in-InOrder-clause-ends
returns-in-InOrder-clause-ends g c =
    let command = c.args.command in
    let how = dialect_of c.args.dialect in
    ended command.way InOrder how command _ _ _ _ _ c.in-InOrder.is (c.answer_lines.ensures.ends (rules_of how command) refl (c.in-Ok.ensures how))
