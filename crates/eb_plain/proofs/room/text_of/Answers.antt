use Rattle.std.proofs.Common.{◌≡◌, ◌+◌, ◌<◌, ◌∙◌, length, get_or, sum_by, ap, sym, arith, subst, ◌^◌}
use Rattle.std.proofs.lemmas.List.Sums.{sum_by_more_le}
use Rattle.eb_place.specs.Room.{text_words}
use Rattle.eb_plain.proofs.Recounts.{text_few}
use Rattle.eb_plain.proofs.room.text_of.Goals as goal

pub overflow_add-words-in-loop-term : goal.overflow_add-words-in-loop-term
overflow_add-words-in-loop-term c =
    let items = c.as_slice-term-items.result.now in
    let found = c.as_slice-term-items.ensures ∙ c.requires.distinct in
    let whole : sum_by text_words items < 2 ^ 60 = subst (λ l. sum_by text_words l < 2 ^ 60) (sym found) (text_few c.args.terms.now c.requires.few c.requires.short) in
    let more = sum_by_more_le text_words items c.loop-term.term-index c.term-item.result c.loop-term-test.true in
    let here : text_words (get_or items c.loop-term.term-index c.term-item.result) ≡ 1 + c.div_ceil.result =
    ap text_words (sym c.term-item.is) ∙ omega (arith, c.div_ceil.ensures, ap length c.bytes.ensures) in
    omega (arith, whole, more, here, c.loop-term.invariant)
