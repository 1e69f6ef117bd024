use Rattle.std.proofs.Common.{ℕ, Bool, nat_eq, List, take, refl, sym, ap, ◌∙◌}
use Rattle.std.specs.List.{list_any}
use Rattle.eb_watch.specs.Index.{leads}
use Rattle.eb_watch.proofs.Gather.{put_more, skip_more, any_alike, led_none, led_some}
use Rattle.eb_watch.proofs.candidates.put_led.Goals as goal
use Rattle.eb_watch.proofs.candidates.put_led.Goals.{then-not-contains+in_ok-put_numbers, else-not-contains}

pub loop-at-preserved-in_default : goal.loop-at-preserved-in_default
loop-at-preserved-in_default c = λ n.
    let m = c.args.by_term.now in
    let f : List ℕ → Bool = λ t. leads m t n in
    let had = list_any (nat_eq n) c.args.numbers.now.items in
    let old = c.loop-at.numbers.items in
    skip_more f c.args.terms.now c.loop-at.at c.index-terms-at.result c.loop-at-test.true c.index-terms-at.is n had old old
    (c.loop-at.invariant n) refl (λ h. absurd (led_none m c.bytes.result.now c.index-terms-at.result c.bytes.ensures n c.in_default.ensures.value h))

pub loop-at-preserved : goal.loop-at-preserved
loop-at-preserved c = λ n.
    let m = c.args.by_term.now in
    let f : List ℕ → Bool = λ t. leads m t n in
    let had = list_any (nat_eq n) c.args.numbers.now.items in
    let old = c.loop-at.numbers.items in
    elim c.if-not-contains.branch [
      | then-not-contains+in_ok-put_numbers w ↦
          put_more f c.args.terms.now c.loop-at.at c.index-terms-at.result c.loop-at-test.true c.index-terms-at.is n had old c.if-not-contains.numbers.items
          (c.loop-at.invariant n) c.in-Some.led.now.keys (ap (λ v. v.items) w.numbers-is ∙ w.in_ok-put_numbers.ensures)
          (led_some m c.bytes.result.now c.index-terms-at.result c.bytes.ensures n c.in-Some.led.now c.in-Some.ensures.value)
      | else-not-contains w ↦
          skip_more f c.args.terms.now c.loop-at.at c.index-terms-at.result c.loop-at-test.true c.index-terms-at.is n had old c.if-not-contains.numbers.items
          (c.loop-at.invariant n) (ap (λ v. v.items) w.numbers-is)
          (any_alike f c.index-terms-at.result (take c.loop-at.at c.args.terms.now) (sym w.if-not-contains.ensures.value))
    ]
