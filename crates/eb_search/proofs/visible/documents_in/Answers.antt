use Rattle.std.proofs.Common.{ℕ, inl, inr, arith}
use Rattle.eb_search.proofs.Segments.{IsEnd, is_step, ends_there}
use Rattle.eb_search.proofs.visible.documents_in.Goals.{then-segment-begun, else-segment-begun}
use Rattle.eb_search.proofs.visible.documents_in.Goals as goal

pub overflow_sub-result-2 : goal.overflow_sub-result-2
overflow_sub-result-2 c =
    let r = c.requires.visible in
    let firsts = c.args.firsts.now in
    let end : ℕ = c.if-segment-begun.end in
    let is : IsEnd firsts c.args.begun c.args.count c.args.segment end = elim c.if-segment-begun.branch [
      | then-segment-begun w ↦ inl (w.if-segment-begun.true, w.end-is)
      | else-segment-begun w ↦ inr (omega (arith, w.if-segment-begun.false), w.end-is)
    ] in
    let s = is_step r.0 r.1 firsts c.args.begun c.args.segment end r.2 r.4 (omega (arith, c.requires.begun))
    (ends_there r.0 r.1 firsts c.args.begun c.args.count c.args.segment end r.3 r.4 c.requires.begun is) in
    omega (arith, s.word, s.next)

pub overflow_cast-result-2 : goal.overflow_cast-result-2
overflow_cast-result-2 c =
    let r = c.requires.visible in
    let firsts = c.args.firsts.now in
    let end : ℕ = c.if-segment-begun.end in
    let is : IsEnd firsts c.args.begun c.args.count c.args.segment end = elim c.if-segment-begun.branch [
      | then-segment-begun w ↦ inl (w.if-segment-begun.true, w.end-is)
      | else-segment-begun w ↦ inr (omega (arith, w.if-segment-begun.false), w.end-is)
    ] in
    let s = is_step r.0 r.1 firsts c.args.begun c.args.segment end r.2 r.4 (omega (arith, c.requires.begun))
    (ends_there r.0 r.1 firsts c.args.begun c.args.count c.args.segment end r.3 r.4 c.requires.begun is) in
    omega (arith, s.word, s.next, s.small)

pub returns : goal.returns
returns c m docs lawful same v =
    let firsts = c.args.firsts.now in
    let end : ℕ = c.if-segment-begun.end in
    let is : IsEnd firsts c.args.begun c.args.count c.args.segment end = elim c.if-segment-begun.branch [
      | then-segment-begun w ↦ inl (w.if-segment-begun.true, w.end-is)
      | else-segment-begun w ↦ inr (omega (arith, w.if-segment-begun.false), w.end-is)
    ] in
    let s = is_step m docs firsts c.args.begun c.args.segment end lawful v (omega (arith, c.requires.begun))
    (ends_there m docs firsts c.args.begun c.args.count c.args.segment end same v c.requires.begun is) in
    omega (arith, s.word, s.next)
