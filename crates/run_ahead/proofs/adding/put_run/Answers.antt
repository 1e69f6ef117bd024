use Rattle.std.proofs.Common.{◌+◌, ◌<◌, ◌++◌, length, drop, get_or, None, refl, sym, ap, ◌∙◌, arith, append-nil}
use Rattle.run_ahead.specs.Tasks.{cause, cause_line, one_cause, run_text}
use Rattle.run_ahead.proofs.RunTasks.{text_at, refused_at, text_on, text_end, refused_end, one_cause_le}
use Rattle.run_ahead.proofs.adding.put_run.Goals as goal

pub loop-at-preserved : goal.loop-at-preserved
loop-at-preserved c =
    let tasks = c.args.tasks.now in
    let rs = c.args.refusals.now in
    let at = c.loop-at.at in
    let task = c.index-tasks-at.result in
    let r = get_or rs at None in
    let inv = c.loop-at.invariant in
    let low : at < length rs = omega arith in
    let put = c.put_cause-refused.ensures in
    let number = c.args.before + at + 1 in
    let text = put.text ∙ ap (λ x. c.loop-at.text.items ++ cause_line c.args.form number x) c.cause_of-cause.ensures in
    let one = put.refused ∙ ap one_cause c.cause_of-cause.ensures in
    record {
      text = text_on c.args.text.now.items c.loop-at.text.items c.put_cause-refused.new.text.items (cause_line c.args.form number (cause task r))
          (run_text c.args.form (c.args.before + (at + 1)) (drop (at + 1) tasks) (drop (at + 1) rs)) (run_text c.args.form (c.args.before + at) (drop at tasks) (drop at rs))
          (run_text c.args.form c.args.before tasks rs) text (text_at tasks rs at task r c.loop-at-test.true low c.index-tasks-at.is refl c.args.form c.args.before) inv.text;
      refused = omega (arith, one, refused_at tasks rs at task r c.loop-at-test.true low c.index-tasks-at.is refl, inv.refused);
      few = omega (arith, inv.few, put.refused, one_cause_le c.cause_of-cause.result);
      room = omega (arith, inv.room, put.len, put.room, c.loop-at-test.true);
    }

pub returns-clause-text : goal.returns-clause-text
returns-clause-text c =
    let tasks = c.args.tasks.now in
    let rest = drop c.loop-at.at c.args.refusals.now in
    let none = text_end c.args.form (c.args.before + c.loop-at.at) tasks rest c.loop-at.at c.loop-at-test.false in
    sym (append-nil c.loop-at.text.items) ∙ ap (λ t. c.loop-at.text.items ++ t) (sym none) ∙ c.loop-at.invariant.text

pub returns-clause-refused : goal.returns-clause-refused
returns-clause-refused c =
    omega (arith, c.loop-at.invariant.refused, refused_end c.args.tasks.now (drop c.loop-at.at c.args.refusals.now) c.loop-at.at c.loop-at-test.false)
