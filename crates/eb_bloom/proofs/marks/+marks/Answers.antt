use Rattle.std.proofs.Common.{◌&&◌, ◌||◌, ◌+◌, true, get_or, map, drop, ap, sym, ◌∙◌}
use Rattle.eb_base.specs.Query.{tree, trees_of}
use Rattle.eb_bloom.specs.Likely.{may_match, each_may_match, some_may_match}
use Rattle.eb_bloom.proofs.PartMarks.{each_next, some_next, tree_Since, tree_Not}
use Rattle.std.proofs.Math.Bool.{and_assoc, or_assoc}
use Rattle.eb_bloom.proofs.marks.+marks.Goals as goal

pub marks_of-returns-in-Since : goal.marks_of-returns-in-Since
marks_of-returns-in-Since t c = record {
  noted = λ s low. c.all.ensures s ∙ ap (may_match c.args.filters.now s) (sym (ap tree c.in-Since.is ∙ tree_Since c.in-Since.field-0));
  further = λ s high. c.all.ensures s;
}

pub marks_of-returns-in-Not : goal.marks_of-returns-in-Not
marks_of-returns-in-Not t c = record {
  noted = λ s low. c.all-in-Not.ensures s ∙ ap (may_match c.args.filters.now s) (sym (ap tree c.in-Not.is ∙ tree_Not c.in-Not.field-0));
  further = λ s high. c.all-in-Not.ensures s;
}

pub marks_of_each-loop-part-init : goal.marks_of_each-loop-part-init
marks_of_each-loop-part-init t c =
    let b = c.args.filters.now in
    record {
      noted = λ s low. ap (λ z. z && each_may_match b s (trees_of (map tree c.as_slice-part-items.result.now))) (c.all-marks.ensures s)
          ∙ ap (λ qs. each_may_match b s (trees_of (map tree qs))) c.as_slice-part-items.ensures;
      further = λ s high. c.all-marks.ensures s;
    }

pub marks_of_each-loop-part-preserved : goal.marks_of_each-loop-part-preserved
marks_of_each-loop-part-preserved t c =
    let b = c.args.filters.now in
    let qs = c.as_slice-part-items.result.now in
    let i = c.loop-part.part-index in
    let inv = c.loop-part.invariant in
    record {
      noted = λ s low.
          let rest = each_may_match b s (trees_of (map tree (drop (i + 1) qs))) in
          let next = each_next qs i c.part-item.result b s c.loop-part-test.true c.part-item.is in
          let old = get_or c.loop-part.marks s true in
          ap (λ z. z && rest) (c.and-marks.ensures s ∙ ap (λ z. old && z) (c.marks_of.ensures.noted s low))
          ∙ and_assoc old _ rest
          ∙ ap (λ z. old && z) (sym next)
          ∙ inv.noted s low;
      further = λ s high. c.and-marks.ensures s ∙ (λ j. inv.further s high j && c.marks_of.ensures.further s high j);
    }

pub marks_of_some-loop-part-preserved : goal.marks_of_some-loop-part-preserved
marks_of_some-loop-part-preserved t c =
    let b = c.args.filters.now in
    let qs = c.as_slice-part-items.result.now in
    let i = c.loop-part.part-index in
    let inv = c.loop-part.invariant in
    record {
      noted = λ s low.
          let rest = some_may_match b s (trees_of (map tree (drop (i + 1) qs))) in
          let next = some_next qs i c.part-item.result b s c.loop-part-test.true c.part-item.is in
          let old = get_or c.loop-part.marks s true in
          ap (λ z. z || rest) (c.or-marks.ensures s ∙ ap (λ z. old || z) (c.marks_of.ensures.noted s low))
          ∙ or_assoc old _ rest
          ∙ ap (λ z. old || z) (sym next)
          ∙ inv.noted s low;
      further = λ s high. c.or-marks.ensures s ∙ (λ j. inv.further s high j || c.marks_of.ensures.further s high j);
    }
