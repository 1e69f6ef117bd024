use Rattle.std.proofs.Common.{◌≡◌, ℕ, suc, ◌-◌, List, length, drop, sym, ap, ◌∙◌, subst, arith}
use Rattle.eb_watch.specs.Ends.{AreEnds}
use Rattle.eb_watch.proofs.Standing.{ArePlaces}
use Rattle.eb_watch.proofs.Numbered.{are_places}
use Rattle.eb_watch.proofs.Windowed.{last_is, before_is, too_short, too_long, absent, one_left, more_left, near_by}
use Rattle.eb_watch.proofs.matching.has_window_of.Goals as goal

pub returns-then-before-reach-clause-test : goal.returns-then-before-reach-clause-test
returns-then-before-reach-clause-test c = too_short c.args.window.now c.in-Some.before.now c.in-Some.last.now c.in-Some.ensures.cases.0
    c.args.document.now.terms c.args.reach (omega (arith, c.if-before-reach.true))

pub returns-then-window-most-clause-test : goal.returns-then-window-most-clause-test
returns-then-window-most-clause-test c =
    too_long c.args.window.now c.in-Some.before.now c.in-Some.last.now c.in-Some.ensures.cases.0 c.args.document.now.terms c.args.reach
    (omega (arith, c.if-window-most.true, c.len-most.ensures, ap length c.terms.ensures.terms))

pub returns-in_default-number-clause-test : goal.returns-in_default-number-clause-test
returns-in_default-number-clause-test c =
    let window = c.args.window.now in let before = c.in-Some.before.now in let last = c.in-Some.last.now in let parts = c.in-Some.ensures.cases.0 in
    absent window before last parts c.args.message.now.by_text c.args.message.now.places.items c.args.document.now.terms c.requires.numbered (length before) last c.args.reach (omega arith)
    (last_is window before last parts) (sym c.in_default-number.ensures)

pub loop-left-init : goal.loop-left-init
loop-left-init c =
    let window = c.args.window.now in let before = c.in-Some.before.now in let last = c.in-Some.last.now in let parts = c.in-Some.ensures.cases.0 in
    let terms = c.args.document.now.terms in let m = c.args.message.now.by_text in let numbers = c.args.message.now.places.items in (
      c.put_first.ensures.length ∙ ap length c.places.ensures ∙ c.requires.numbered.long,
      omega arith,
      one_left window before last parts terms c.places.result.now c.put_first.new.ends c.in-Some-number.number
          (subst (λ (ps : List ℕ). ArePlaces ps terms c.in-Some-number.number last) (sym c.places.ensures)
          (are_places m numbers terms c.requires.numbered last c.in-Some-number.number (sym c.in-Some-number.ensures)))
          (λ k l. c.put_first.ensures.ends k (omega (arith, l, ap length c.places.ensures, c.requires.numbered.long))),
    )

pub returns-in_default-number-2-clause-test : goal.returns-in_default-number-2-clause-test
returns-in_default-number-2-clause-test c =
    let window = c.args.window.now in let before = c.in-Some.before.now in let last = c.in-Some.last.now in let parts = c.in-Some.ensures.cases.0 in
    let t = c.index-before-left.result in
    absent window before last parts c.args.message.now.by_text c.args.message.now.places.items c.args.document.now.terms c.requires.numbered (c.loop-left.left - 1) t c.args.reach
    (omega (arith, c.loop-left.invariant.1)) (before_is window before last parts (c.loop-left.left - 1) t (omega (arith, c.loop-left-test.true, c.loop-left.invariant.1)) c.index-before-left.is)
    (sym c.in_default-number-2.ensures)

pub loop-left-preserved : goal.loop-left-preserved
loop-left-preserved c =
    let window = c.args.window.now in let before = c.in-Some.before.now in let last = c.in-Some.last.now in let parts = c.in-Some.ensures.cases.0 in
    let terms = c.args.document.now.terms in let m = c.args.message.now.by_text in let numbers = c.args.message.now.places.items in
    let t = c.index-before-left.result in let left = c.loop-left.left in let number = c.in-Some-number-2.number in
    let e : left ≡ suc (left - 1) = omega (arith, c.loop-left-test.true) in
    let same = ap length c.places-in-loop-left.ensures ∙ c.requires.numbered.long in (
      c.put_next.ensures.length ∙ same,
      omega (arith, c.loop-left.invariant.1),
      more_left window before last parts terms c.places-in-loop-left.result.now c.loop-left.ends c.put_next.new.ends number (left - 1) t
          (omega (arith, c.loop-left-test.true, c.loop-left.invariant.1))
          (before_is window before last parts (left - 1) t (omega (arith, c.loop-left-test.true, c.loop-left.invariant.1)) c.index-before-left.is) c.loop-left.invariant.0
          (subst (λ (ps : List ℕ). ArePlaces ps terms number t) (sym c.places-in-loop-left.ensures) (are_places m numbers terms c.requires.numbered t number (sym c.in-Some-number-2.ensures)))
          (subst (λ (n : ℕ). AreEnds terms (drop n window) c.loop-left.ends) e c.loop-left.invariant.2) (λ k l. c.put_next.ensures.ends k (omega (arith, l, same))),
    )

pub returns-clause-test : goal.returns-clause-test
returns-clause-test c =
    near_by c.is_near.result c.args.window.now c.args.document.now.terms c.loop-left.ends c.args.reach c.loop-left.left (omega (arith, c.loop-left-test.false)) c.loop-left.invariant.0
    (omega (arith, c.len-most.ensures)) c.loop-left.invariant.2 c.is_near.ensures
