use Rattle.std.proofs.Common.{◌≡◌, [], ◌∷◌, ◌+◌, ◌-◌, ◌*◌, ◌/◌, ◌^◌, ◌<◌, ◌≤◌, length, get_or, take, set, ap, sym, subst, ◌∙◌, arith}
use Rattle.std.proofs.lemmas.List.{length-take}
use Rattle.eb_place.specs.Packed.{differences, block, fields, lowest_words}
use Rattle.eb_block.specs.Fields.{Poured}
use Rattle.eb_place.proofs.FallingLists.{below_at}
use Rattle.eb_place.specs.Postings.{posting_bits}
use Rattle.eb_block.proofs.Differences.{step_at, all_before, is_width, length-differences}
use Rattle.eb_block.proofs.Opening.{poured_none, at_below, block_is, block_few, header_in, width_in}
use Rattle.eb_block.proofs.blocks.pack_block.Goals.{After-close}
use Rattle.eb_block.proofs.blocks.pack_block.Goals as goal

pub loop-i-init : goal.loop-i-init
loop-i-init c =
    let l : 0 < length c.args.into.now = omega (arith, c.told-into) in
    let p = poured_none c.width_of-width.result c.header.result c.args.into.now c.none.result l c.none.ensures.held c.none.ensures.low c.none.ensures.count in
    subst (λ h. Poured c.width_of-width.result h (set c.args.into.now 0 c.header.result) 1 c.none.result []) c.header.ensures p

pub overflow_sub-postings : goal.overflow_sub-postings
overflow_sub-postings c =
    let s = step_at c.args.postings.now c.loop-i.i c.requires.falls c.loop-i.auto.i c.loop-i-test.true in
    omega (arith, s.falls)

pub pour-spot-requires-clause-field : goal.pour-spot-requires-clause-field
pour-spot-requires-clause-field c =
    let xs = c.args.postings.now in
    let i = c.loop-i.i in
    let s = step_at xs i c.requires.falls c.loop-i.auto.i c.loop-i-test.true in
    let w = is_width xs c.requires.small in
    let b = below_at (2 ^ width_in xs) (differences xs) (i - 1) w.holds s.inside in
    subst (λ k. get_or xs (i - 1) 0 - get_or xs i 0 < 2 ^ k) (sym c.width_of-width.ensures) (subst (λ k. k < 2 ^ width_in xs) s.is b)

pub pour-spot-requires-clause-narrow : goal.pour-spot-requires-clause-narrow
pour-spot-requires-clause-narrow c =
    let w = is_width c.args.postings.now c.requires.small in
    let few = w.few in
    omega (arith, c.width_of-width.ensures)

pub pour-spot-requires-clause-at : goal.pour-spot-requires-clause-at
pour-spot-requires-clause-at c =
    let xs = c.args.postings.now in
    let i = c.loop-i.i in
    let few = c.requires.few in
    let w = is_width xs c.requires.small in
    let narrow : c.width_of-width.result ≤ posting_bits = subst (λ k. k ≤ posting_bits) (sym c.width_of-width.ensures) w.few in
    at_below c.width_of-width.result (get_or xs 0 0 * 2 ^ 16 + c.width_of-width.result * 2 ^ 8 + length xs) c.loop-i.into c.loop-i.spot.at c.loop-i.spot.bits (take (i - 1) (differences xs))
    c.loop-i.invariant narrow
    (omega (arith, length-take (i - 1) (differences xs), c.loop-i-test.true))

pub loop-i-preserved : goal.loop-i-preserved
loop-i-preserved c =
    let xs = c.args.postings.now in
    let i = c.loop-i.i in
    let w = c.width_of-width.result in
    let h = get_or xs 0 0 * 2 ^ 16 + w * 2 ^ 8 + length xs in
    let s = step_at xs i c.requires.falls c.loop-i.auto.i c.loop-i-test.true in
    let p = c.pour-spot.ensures h (take (i - 1) (differences xs)) c.loop-i.invariant in
    subst (λ ds. Poured w h c.pour-spot.new.into c.pour-spot.result.at c.pour-spot.result.bits ds) (sym s.before) p

pub close-requires : goal.close-requires
close-requires c =
    let xs = c.args.postings.now in
    let i = c.loop-i.i in
    let few = c.requires.few in
    let w = is_width xs c.requires.small in
    let narrow : c.width_of-width.result ≤ posting_bits = subst (λ k. k ≤ posting_bits) (sym c.width_of-width.ensures) w.few in
    let a = all_before xs i c.loop-i-test.false in
    let few' : length (take (i - 1) (differences xs)) ≤ 127 = omega (arith, ap length a, length-differences xs) in
    record {
      at = at_below c.width_of-width.result (get_or xs 0 0 * 2 ^ 16 + c.width_of-width.result * 2 ^ 8 + length xs) c.loop-i.into c.loop-i.spot.at c.loop-i.spot.bits (take (i - 1) (differences xs))
          c.loop-i.invariant narrow few';
    }

block_at : (c : After-close) → take c.close.result c.close.new.into ≡ block c.args.postings.now
block_at c =
    let xs = c.args.postings.now in
    let i = c.loop-i.i in
    let w = c.width_of-width.result in
    let W = width_in xs in
    let h = get_or xs 0 0 * 2 ^ 16 + w * 2 ^ 8 + length xs in
    let p = c.close.ensures.words w h (take (i - 1) (differences xs)) c.loop-i.invariant in
    let a = all_before xs i c.loop-i-test.false in
    let e : w ≡ W = c.width_of-width.ensures in
    p ∙ ap (λ ds. h ∷ lowest_words ((length ds * w + 63) / 64) (fields w ds)) a
    ∙ ap (λ k. (get_or xs 0 0 * 2 ^ 16 + k * 2 ^ 8 + length xs) ∷ lowest_words ((length (differences xs) * k + 63) / 64) (fields k (differences xs))) e
    ∙ ap (λ n. header_in xs ∷ lowest_words ((n * W + 63) / 64) (fields W (differences xs))) (length-differences xs)
    ∙ sym (block_is xs)

pub returns-clause-block : goal.returns-clause-block
returns-clause-block c = block_at c

pub returns-clause-few : goal.returns-clause-few
returns-clause-few c =
    let inside = c.close.ensures.inside in
    block_few c.close.result c.close.new.into c.args.postings.now (block_at c) (omega (arith, c.close.array_long)) c.requires
