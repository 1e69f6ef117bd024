use Rattle.std.proofs.Common.{◌≡◌, ◌<◌, ◌+◌, ◌∙◌, ap, sym, List, map, take, length, arith}
use Rattle.eb_engine.specs.Tokens.{HistoryToken}
use Rattle.eb_blend.specs.Parts.{WriterTokens, few_counted, segments_of}
use Rattle.eb_blend.proofs.Each.{few_push, few_whole, segments_in, segments_got, segments_are, length_segments}
use Rattle.eb_blend.proofs.writer.BlendWriter.segments.Goals as goal

pub loop-writer-preserved : goal.loop-writer-preserved
loop-writer-preserved c =
    let ts : List HistoryToken = c.deref-writer-items.result.now in
    let n = c.loop-writer.writer-index in
    let x = c.segments.result in
    let lt : n < length ts = c.loop-writer-test.true in
    let got = segments_got ts n c.writer-item.result x lt c.writer-item.is c.segments.ensures.cut in
    let s = few_push (map segments_in ts) n x c.loop-writer.segments (omega (arith, lt, length_segments ts)) got c.loop-writer.invariant in
    let a = c.saturating_add-segments.ensures in
    let e : c.saturating_add-segments.result ≡ few_counted (take (n + 1) (map segments_in ts)) = grind (arith, a, s) in
    e

pub returns : goal.returns
returns c =
    let ts : List HistoryToken = c.deref-writer-items.result.now in
    let items = c.deref-writer-items.ensures.value in
    let whole = few_whole (map segments_in ts) c.loop-writer.writer-index c.loop-writer.segments (omega (arith, c.loop-writer-test.false, length_segments ts)) c.loop-writer.invariant in
    whole ∙ ap few_counted (ap (λ (z : List HistoryToken). map segments_in z) items ∙ sym (segments_are c.self.inside.writers.items)
    ∙ (λ i. segments_of (ap (λ (z : WriterTokens). z.indexes) c.self.view_is i) (ap (λ (z : WriterTokens). z.histories) c.self.view_is i)))
