use Rattle.std.proofs.Common.{◌≡◌, ◌+◌, ◌<◌, length, take, arith}
use Rattle.eb_blend.specs.Parts.{counted, lengths_of, histories_of}
use Rattle.eb_blend.proofs.Each.{counted_push, lengths_got, length_histories, length_map}
use Rattle.eb_blend.proofs.adding.count_all.Goals as goal

pub loop-writer-preserved : goal.loop-writer-preserved
loop-writer-preserved c =
    let ts = c.args.writers.now in
    let n = c.loop-writer.writer-index in
    let x = c.accepted.result in
    let lt : n < length ts = c.loop-writer-test.true in
    let got = lengths_got ts n c.writer-item.result x lt c.writer-item.is c.accepted.ensures in
    let s = counted_push (lengths_of (histories_of ts)) n x c.loop-writer.count (omega (arith, lt, length_map length (histories_of ts), length_histories ts)) got c.loop-writer.invariant.count in
    let a = c.saturating_add-count.ensures in
    let e : c.saturating_add-count.result ≡ counted (take (n + 1) (lengths_of (histories_of ts))) = grind (arith, a, s) in
    record { count = e }
