use Rattle.std.proofs.Common.{◌≡◌, ◌++◌, sym, ap₂, subst, ◌∙◌, take-append-drop}
use Rattle.eb_lines.proofs.PassingLines.{running_on}
use Rattle.run_ahead.specs.Ahead.{HasHeld, AreWaiting}
use Rattle.run_ahead.proofs.Waitings.{goes_on, waits_still}
use Rattle.run_ahead.proofs.ahead.work_some.Goals as goal

pub work_first-requires-clause-waits : goal.work_first-requires-clause-waits
work_first-requires-clause-waits g c =
    let all : c.split_at.result.0.now ++ c.split_at.result.1.now ≡ c.args.tasks.now =
    ap₂ (λ xs ys. xs ++ ys) c.split_at.ensures.front c.split_at.ensures.back ∙ take-append-drop c.run_length.result c.args.tasks.now in
    (c.split_at.result.1.now, subst (λ ts. AreWaiting c.args.ahead.now ts) (sym all) c.requires.waits)

pub work_one-requires-clause-state : goal.work_one-requires-clause-state
work_one-requires-clause-state g c =
    running_on (HasHeld g.P.Store.other g.P.Store.holds) c.args.ahead.now c.work_first.new.ahead c.args.text.now.items c.work_first.new.text.items c.requires.state c.work_first.ensures.on

pub work_one-requires-clause-waits : goal.work_one-requires-clause-waits
work_one-requires-clause-waits g c =
    let run = c.split_at.result.0.now in
    let more = c.split_at.result.1.now in
    let all : run ++ more ≡ c.args.tasks.now = ap₂ (λ xs ys. xs ++ ys) c.split_at.ensures.front c.split_at.ensures.back ∙ take-append-drop c.run_length.result c.args.tasks.now in
    let waits = subst (λ ts. AreWaiting c.args.ahead.now ts) (sym all) c.requires.waits in
    let still = waits_still g.P.Store.other g.P.Store.holds c.args.ahead.now c.requires.state run more waits c.work_first.new.ahead c.args.text.now.items c.work_first.new.text.items
    c.in_ok-work_first.ensures.worked c.work_first.ensures.on in
    (c.in-Some.field-0-1.now, subst (λ ts. AreWaiting c.work_first.new.ahead ts) c.in-Some.ensures.cases.0 still)

pub returns-in_err-work_one-clause-on : goal.returns-in_err-work_one-clause-on
returns-in_err-work_one-clause-on g c =
    goes_on (HasHeld g.P.Store.other g.P.Store.holds) c.args.ahead.now c.work_first.new.ahead c.work_one.new.self c.args.text.now.items c.work_first.new.text.items c.work_one.new.text.items
    c.work_first.ensures.on c.work_one.ensures.on

pub returns-clause-on : goal.returns-clause-on
returns-clause-on g c =
    goes_on (HasHeld g.P.Store.other g.P.Store.holds) c.args.ahead.now c.work_first.new.ahead c.work_one.new.self c.args.text.now.items c.work_first.new.text.items c.work_one.new.text.items
    c.work_first.ensures.on c.work_one.ensures.on
