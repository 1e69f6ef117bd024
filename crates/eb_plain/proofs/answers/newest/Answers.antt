use Rattle.std.proofs.Common.{◌≡◌, subst, arith}
use Rattle.eb_base.specs.Query.{tree}
use Rattle.eb_base.proofs.Answering.{IsWalk, walk_full, walk_end}
use Rattle.eb_plain.proofs.answers.newest.Goals as goal
use Rattle.eb_plain.proofs.answers.newest.Goals.{then-loop-place-test+else-len-k, else-loop-place-test}

pub returns : goal.returns
returns c =
    let walk = c.loop-place.invariant.walk in
    elim c.loop-place-test.branch [
      | then-loop-place-test+else-len-k w ↦
          walk_full (tree c.args.query.now) c.args.k c.args.documents.now c.loop-place.place c.loop-place.ids.items walk (omega (arith, walk.few, w.len.ensures, w.if-len-k.false, c.loop-place.ids.ok))
      | else-loop-place-test w ↦
          let first : c.loop-place.place ≡ 0 = omega (arith, w.loop-place-test.false) in
          walk_end (tree c.args.query.now) c.args.k c.args.documents.now c.loop-place.ids.items
          (subst (λ p. IsWalk (tree c.args.query.now) c.args.k c.args.documents.now p c.loop-place.ids.items) first walk)
    ]
