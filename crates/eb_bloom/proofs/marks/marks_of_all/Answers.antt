use Rattle.std.proofs.Common.{◌&&◌, true, take, get_or, ap, sym, ◌∙◌}
use Rattle.std.specs.List.{list_all}
use Rattle.std.proofs.lemmas.List.Folds.{list_all_more}
use Rattle.eb_bloom.specs.Bits.{is_noted}
use Rattle.eb_bloom.proofs.marks.marks_of_all.Goals as goal

pub loop-term-init : goal.loop-term-init
loop-term-init c = record { noted = λ s low. c.all-marks.ensures s; further = λ s high. c.all-marks.ensures s }

pub loop-term-preserved : goal.loop-term-preserved
loop-term-preserved c =
    let b = c.args.filters.now in
    let t = c.term-item.result in
    let ts = c.args.terms.now in
    let i = c.loop-term.term-index in
    let inv = c.loop-term.invariant in
    record {
      noted = λ s low. c.and-marks.ensures s
          ∙ ap (λ z. z && get_or c.marks.result s true) (inv.noted s low)
          ∙ ap (λ z. list_all (is_noted b s) (take i ts) && z) (c.marks.ensures.noted s low ∙ ap (is_noted b s) c.term-item.is)
          ∙ sym (list_all_more (is_noted b s) ts i t c.loop-term-test.true);
      further = λ s high. c.and-marks.ensures s ∙ (λ i. inv.further s high i && c.marks.ensures.further s high i);
    }
