use Rattle.std.proofs.Common.{◌++◌, ◌∷◌, [], ap, sym, ◌∙◌}
use Rattle.std.specs.Prelude.{bytes_eq}
use Rattle.std.specs.List.{list_any}
use Rattle.eb_place.specs.Postings.{with_term}
use Rattle.eb_place.proofs.TermCounts.{distinct-nil}
use Rattle.eb_plain.proofs.Recounts.{distinct_next, kept, pushed}
use Rattle.eb_plain.proofs.room.distinct_terms.Goals as goal
use Rattle.eb_plain.proofs.room.distinct_terms.Goals.{then-not-has_term+in_ok-new+in_ok-push, else-not-has_term}

pub loop-term-init : goal.loop-term-init
loop-term-init c = c.new-found.ensures ∙ sym distinct-nil

pub loop-term-preserved : goal.loop-term-preserved
loop-term-preserved c =
    let found = c.loop-term.found in
    let t = c.term-item.result in
    let tested = c.has_term.ensures ∙ ap (list_any (bytes_eq t)) c.as_slice.ensures in
    let next = sym (distinct_next t c.as_slice-term-items.result.now c.loop-term.term-index c.loop-term-test.true c.term-item.is) in
    elim c.if-not-has_term.branch [
      | then-not-has_term+in_ok-new+in_ok-push w ↦
          w.found-is ∙ w.in_ok-push.ensures.ok ∙ ap (λ x. found ++ x ∷ []) (w.in_ok-new.ensures ∙ w.bytes.ensures)
          ∙ pushed found t (sym tested ∙ w.if-not-has_term.true) ∙ ap (λ x. with_term x t) c.loop-term.invariant ∙ next
      | else-not-has_term w ↦ w.found-is ∙ kept found t (sym tested ∙ w.if-not-has_term.false) ∙ ap (λ x. with_term x t) c.loop-term.invariant ∙ next
    ]
