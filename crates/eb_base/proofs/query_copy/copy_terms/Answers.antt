use Rattle.std.proofs.Common.{◌++◌, ◌∷◌, [], sym, ◌∙◌}
use Rattle.eb_base.proofs.Copying.{take_got}
use Rattle.eb_base.proofs.query_copy.copy_terms.Goals as goal

pub loop-at-preserved : goal.loop-at-preserved
loop-at-preserved c =
    let same = c.in_ok-new.ensures ∙ c.bytes.ensures in
    let got = take_got c.args.terms.now c.loop-at.at c.get.result.now c.get.ensures in
    c.in_ok-push.ensures.ok ∙ (λ i. c.loop-at.invariant i ++ same i ∷ []) ∙ sym got
