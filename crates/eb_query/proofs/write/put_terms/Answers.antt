use Rattle.std.proofs.Common.{ℕ, ◌+◌, List, ◌++◌, drop, ap, ◌∙◌}
use Rattle.eb_query.proofs.Tails.{joined_tail}
use Rattle.eb_query.specs.Gaps.{and_gap}
use Rattle.eb_query.proofs.Joins.{joined_next}
use Rattle.eb_query.proofs.write.put_terms.Goals as goal

pub loop-at-preserved : goal.loop-at-preserved
loop-at-preserved c =
    let tail = joined_tail (c.loop-at.at + 1) (drop (c.loop-at.at + 1) c.args.terms.now) in
    ap (λ (xs : List ℕ). xs ++ tail) (c.in_ok-put.ensures ∙ ap (λ (xs : List ℕ). xs ++ c.bytes.result.now) c.in_ok-put_gap.ensures
    ∙ ap (λ (xs : List ℕ). (c.loop-at.out.items ++ and_gap c.loop-at.at) ++ xs) c.bytes.ensures)
    ∙ joined_next c.loop-at.out.items c.args.terms.now c.loop-at.at c.get.result.now c.get.ensures ∙ c.loop-at.invariant
