use Rattle.std.proofs.Common.{◌∙◌, ◌+◌, sym, arith}
use Rattle.eb_place.specs.Address.{begins_in}
use Rattle.eb_writer.proofs.Tallies.{one_low, slice_more, used_new, used_old, number_tells_new, number_tells_old}
use Rattle.eb_writer.proofs.counting.with_token.Goals as goal

pub with_slices-used-requires-clause-few : goal.with_slices-used-requires-clause-few
with_slices-used-requires-clause-few c =
    let f = c.requires.tail in
    let o = c.needs_next.ensures f.0 f.1 in
    let n = f.0 + c.args.token.earlier in (
      omega (arith, o.pool0, one_low (begins_in 0 n)),
      omega (arith, o.pool1, one_low (begins_in 1 n)),
      omega (arith, o.pool2, one_low (begins_in 2 n)),
      omega (arith, o.pool3, one_low (begins_in 3 n)),
    )

pub returns-then-token-used-clause-used : goal.returns-then-token-used-clause-used
returns-then-token-used-clause-used c f before tail count number used =
    let e = c.args.token.earlier in
    let t = c.args.term.now in
    let u = c.args.used in
    let w = c.with_slices-used.result in
    let h = c.with_slices-used.ensures in
    let o = c.needs_next.ensures f tail in
    used_new u _ t before (number_tells_new t before (sym number ∙ c.if-token-used.true ∙ h.others.1 ∙ used.terms)) used
    (omega (arith, h.others.1)) (omega (arith, h.others.2, c.count_words.ensures.count))
    (slice_more 0 f e t before u.pool0 w.pool0 _ count o.pool0 h.pool0 used.pool0)
    (slice_more 1 f e t before u.pool1 w.pool1 _ count o.pool1 h.pool1 used.pool1)
    (slice_more 2 f e t before u.pool2 w.pool2 _ count o.pool2 h.pool2 used.pool2)
    (slice_more 3 f e t before u.pool3 w.pool3 _ count o.pool3 h.pool3 used.pool3)

pub returns-clause-used : goal.returns-clause-used
returns-clause-used c f before tail count number used =
    let e = c.args.token.earlier in
    let t = c.args.term.now in
    let u = c.args.used in
    let w = c.with_slices-used.result in
    let h = c.with_slices-used.ensures in
    let o = c.needs_next.ensures f tail in
    used_old u _ t before (number_tells_old t before (λ z. c.if-token-used.false (number ∙ z ∙ sym used.terms ∙ sym h.others.1))) used h.others.1 h.others.2
    (slice_more 0 f e t before u.pool0 w.pool0 _ count o.pool0 h.pool0 used.pool0)
    (slice_more 1 f e t before u.pool1 w.pool1 _ count o.pool1 h.pool1 used.pool1)
    (slice_more 2 f e t before u.pool2 w.pool2 _ count o.pool2 h.pool2 used.pool2)
    (slice_more 3 f e t before u.pool3 w.pool3 _ count o.pool3 h.pool3 used.pool3)
