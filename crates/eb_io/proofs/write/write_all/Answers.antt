use Rattle.std.proofs.Common.{length, take, drop, sym, ap, ◌∙◌, le_trans, length-drop, arith}
use Rattle.std.proofs.Math.Seq.{take-add}
use Rattle.std.proofs.lemmas.List.{take_rest}
use Rattle.eb_io.specs.Sink.{grown}
use Rattle.eb_io.proofs.Bytes.{grown-grown}
use Rattle.eb_io.proofs.write.write_all.Goals as goal

pub loop-at-preserved : goal.loop-at-preserved
loop-at-preserved g c =
    let n = c.in_ok-at.field-0 in
    let bytes = c.args.bytes.now in
    let part = take n (drop c.loop-at.at bytes) in
    let rest = take_rest bytes c.loop-at.at in
    let within = c.in_ok-at.ensures.count.1 in
    let len = ap length rest in (
      omega (arith, within, len, length-drop c.loop-at.at bytes, c.loop-at-test.true),
      c.in_ok-at.ensures.taken ∙ (ap (λ t. grown (g.K.Sink.taken c.loop-at.sink) (take n t)) rest
          ∙ (ap (λ t. grown t part) c.loop-at.invariant.1 ∙ (grown-grown _ _ part ∙ ap (grown _) (sym (take-add c.loop-at.at n bytes))))),
      le_trans c.loop-at.invariant.2 c.in_ok-at.ensures.later,
    )
