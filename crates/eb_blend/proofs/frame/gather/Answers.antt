use Rattle.std.proofs.Common.{◌≡◌, ◌≤◌, ◌++◌, List, length-append, ℕ, length, ap, sym, ◌∙◌, arith}
use Rattle.std.proofs.lemmas.List.Elements.{All-get_or}
use Rattle.eb_cursor.specs.declared.frame.Frame.{Frame}
use Rattle.eb_cursor.specs.Frames.{query_of, k_of, ids_of}
use Rattle.eb_blend.proofs.Each.{joined_more, room_left, few_more}
use Rattle.eb_blend.proofs.frame.gather.Goals as goal

pub unreachable-requires : goal.unreachable-requires
unreachable-requires c =
    let r = c.requires in
    let inv = c.loop-frame.invariant in
    let ask = All-get_or (λ (x : Frame). (query_of x ≡ r.0) × (k_of x ≡ r.1)) c.args.frames.now c.loop-frame.frame-index c.frame-item.result c.loop-frame-test.true r.2 in
    let most : k_of c.frame-item.result ≡ r.1 = ap k_of c.frame-item.is ∙ ask.1 in
    let few : length (ids_of c.frame-item.result) ≤ k_of c.frame-item.result = c.frame-item.result.few in
    let held = inv.few r.0 r.1 r.2 in
    let left = room_left c.loop-frame.frame-index (length c.args.frames.now) r.1 c.loop-frame-test.true in
    let cap = c.clear.ensures.capacity in
    let full = c.extend_from_slice.ensures.full in
    let ids = c.ids.ensures in
    let err = c.if-is_err.true in
    let room = r.3 in
    let same = inv.room in
    grind (arith, most, few, held, left, cap, full, ids, err, room, same)

pub loop-frame-preserved : goal.loop-frame-preserved
loop-frame-preserved c =
    let inv = c.loop-frame.invariant in
    let n = c.loop-frame.frame-index in
    let fs = c.args.frames.now in
    let f = c.frame-item.result in
    let value = c.is_err.ensures.value in
    let negation = c.is_err.ensures.negation in
    let no = c.if-is_err.false in
    let items = c.extend_from_slice.ensures.items in
    let ids = c.ids.ensures in
    let more : c.extend_from_slice.new.self.items ≡ c.loop-frame.ids.items ++ ids_of f = grind (arith, value, negation, no, items, ids) in
    let cap = c.extend_from_slice.ensures.capacity in
    let same = inv.room in
    record {
      ids = more ∙ ap (λ (z : List ℕ). z ++ ids_of f) inv.ids ∙ sym (joined_more fs n f c.loop-frame-test.true c.frame-item.is);
      few = λ q k a.
          let ask = All-get_or (λ (x : Frame). (query_of x ≡ q) × (k_of x ≡ k)) fs n f c.loop-frame-test.true a in
          let most : k_of f ≡ k = ap k_of c.frame-item.is ∙ ask.1 in
          let few : length (ids_of f) ≤ k_of f = f.few in
          few_more n k (length c.loop-frame.ids.items) (length (ids_of f)) (length c.extend_from_slice.new.self.items) (inv.few q k a) (omega (arith, few, most))
          (ap length more ∙ length-append c.loop-frame.ids.items (ids_of f));
      room = omega (arith, cap, same);
    }
