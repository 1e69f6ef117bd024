use Rattle.std.proofs.Common.{refl, ap, ◌∙◌, ◌++◌, ◌-◌}
use Rattle.run_with_workers.specs.Waiting.{printed_by}
use Rattle.eb_lines.proofs.Runs.{stays, stays_at}
use Rattle.run_with_workers.specs.Serving.{HasServed}
use Rattle.run_with_workers.proofs.Servings.{holding_of, next_is, printed_on}
use Rattle.run_with_workers.proofs.serving.Serving.print_next.Goals as goal

pub form-form-requires : goal.form-form-requires
form-form-requires g c = holding_of g.O.Office.holds g.O.Office.asked c.args.self.now c.requires.running

pub returns-in_default-clause-on : goal.returns-in_default-clause-on
returns-in_default-clause-on g c = stays (HasServed g.O.Office.holds g.O.Office.asked) c.args.self.now c.args.text.now.items

pub returns-in_err-reserve-clause-on : goal.returns-in_err-reserve-clause-on
returns-in_err-reserve-clause-on g c = stays_at (HasServed g.O.Office.holds g.O.Office.asked) c.args.self.now c.args.self.now _ _ refl c.in_err-reserve.ensures.items

pub returns-clause-on : goal.returns-clause-on
returns-clause-on g c =
    let line = c.in-Some-pop_front.line in
    let next = next_is c.args.self.now.waiting.items c.in-Some.need line _ c.in-Some.ensures c.in-Some-pop_front.ensures.items in
    printed_on g.O.Office.holds g.O.Office.asked c.args.self.now _ line _ c.args.text.now.items _ c.saturating_sub-number.result refl refl refl refl refl c.in-Some-pop_front.ensures.items refl next.0
    (c.saturating_sub-number.ensures ∙ ap (λ n. c.args.self.now.number - n) (c.len.ensures ∙ c.pop_front.new.self.ok.0)) c.form-form.result c.form-form.ensures
    (c.print.ensures ∙ ap (λ t. t ++ printed_by c.form-form.result c.saturating_sub-number.result line) c.in_ok-reserve.ensures.items)
