use Rattle.std.proofs.Common.{◌≡◌, ◌<◌, ◌∙◌, ℕ, List, get_or, sum_by, ap, sym, arith, subst, ◌^◌}
use Rattle.std.proofs.lemmas.List.Sums.{sum_by_more_le}
use Rattle.eb_place.specs.Postings.{count_of}
use Rattle.eb_place.specs.Room.{slices, all_slices}
use Rattle.eb_plain.proofs.Recounts.{all_slices_few, all_taken}
use Rattle.eb_plain.proofs.room.slices_of.Goals as goal

pub overflow_add-slices : goal.overflow_add-slices
unfolding all_slices
overflow_add-slices c =
    let ts = c.args.terms.now in
    let f : List ℕ → ℕ = λ t. slices c.args.pool (count_of t ts) in
    let items = c.as_slice-term-items.result.now in
    let found = c.as_slice-term-items.ensures ∙ c.requires.distinct in
    let whole : sum_by f items < 2 ^ 60 = subst (λ l. sum_by f l < 2 ^ 60) (sym found) (all_slices_few c.args.pool ts c.requires.few) in
    let more = sum_by_more_le f items c.loop-term.term-index c.term-item.result c.loop-term-test.true in
    let here : f (get_or items c.loop-term.term-index c.term-item.result) ≡ c.slices_for-slices.result =
    ap f (sym c.term-item.is) ∙ sym (c.slices_for-slices.ensures ∙ ap (slices c.args.pool) c.count.ensures.count) in
    omega (arith, whole, more, here, c.loop-term.invariant)

pub returns : goal.returns
unfolding all_slices
returns c =
    let ts = c.args.terms.now in
    let f : List ℕ → ℕ = λ t. slices c.args.pool (count_of t ts) in
    c.loop-term.invariant
    ∙ ap (sum_by f) (all_taken c.as_slice-term-items.result.now c.loop-term.term-index c.loop-term.auto.term-index-end c.loop-term-test.false ∙ c.as_slice-term-items.ensures ∙ c.requires.distinct)
