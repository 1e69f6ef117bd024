use Rattle.std.proofs.Common.{◌≡◌, ℕ, reverse, take, ap, sym, ◌∙◌}
use Rattle.std.proofs.lemmas.List.{with_items_is}
use Rattle.std.proofs.lemmas.List.Sorted.{IsNonDecreasingBy-from_sort}
use Rattle.eb_blend.specs.Blended.{falling}
use Rattle.eb_blend.proofs.Sorting.{sorted_is}
use Rattle.eb_blend.proofs.order.keep_greatest.Goals as goal

pub returns-clause-ids : goal.returns-clause-ids
returns-clause-ids c =
    let p = c.sort_unstable.ensures.permutation in
    let s = IsNonDecreasingBy-from_sort (λ (x : ℕ). x) _ c.sort_unstable.ensures.sorted in
    let r = sorted_is _ _ p s in
    let v = c.as_mut_slice-all.ensures.value in
    let f : falling c.args.ids.now.items ≡ c.reverse.new.self = ap falling (sym v) ∙ ap reverse r ∙ sym c.reverse.ensures.after in
    let long = c.reverse.ensures.len ∙ c.sort_unstable.ensures.len ∙ c.as_mut_slice-all.ensures.len in
    let items = with_items_is c.args.ids.now c.reverse.new.self long in
    c.truncate.ensures.items ∙ ap (take c.args.most) (items ∙ sym f)
