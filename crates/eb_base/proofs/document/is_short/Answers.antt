use Rattle.std.proofs.Common.{arith, ◌+◌, length, ap}
use Rattle.std.proofs.lemmas.List.Sums.{sum_by-take-le}
use Rattle.eb_base.proofs.Limits.{bytes_more}
use Rattle.eb_base.proofs.document.is_short.Goals as goal

pub returns-then-len-bytes : goal.returns-then-len-bytes
returns-then-len-bytes c =
    let more = bytes_more c.args.terms.now c.loop-at.at c.get.result.now c.get.ensures in
    let le = sum_by-take-le length c.args.terms.now (c.loop-at.at + 1) in
    let len = ap length c.bytes-len.ensures in
    ((λ h. let no : ⊥ = cc in absurd no), (λ h. absurd (omega (arith, more, le, len, c.loop-at.invariant.0, c.loop-at.invariant.1, c.if-len-bytes.true, h))))

pub loop-at-preserved : goal.loop-at-preserved
loop-at-preserved c =
    let more = bytes_more c.args.terms.now c.loop-at.at c.get.result.now c.get.ensures in
    let len = ap length c.bytes-len.ensures in
    (omega (arith, more, len, c.loop-at.invariant.0), omega (arith, c.loop-at.invariant.1, c.if-len-bytes.false))
