use Rattle.std.proofs.Common.{◌≡◌, ℕ, ◌+◌, ◌-◌, List, [], ◌∷◌, ◌++◌, length, take, drop, sym, ap, subst, ◌∙◌, arith}
use Rattle.std.proofs.lemmas.List.{take_more, length-take-le}
use Rattle.std.proofs.Common.{Vec, Global, length-drop}
use Rattle.eb_base.specs.Document.{Doc}
use Rattle.eb_base.specs.Setting.{Setting}
use Rattle.eb_place.specs.Room.{fits}
use Rattle.eb_plain.specs.Cutting.{IsCutAt}
use Rattle.eb_plain.proofs.HistoryCuts.{cut_first, cut_fits, cut_new, front_first, front_from}
use Rattle.eb_plain.proofs.history.find_cut.Goals as goal
use Rattle.eb_plain.proofs.history.find_cut.Goals.{then-not-branch+in_ok-push, else-not-branch}

-- the same cut, in other words
is_cut : (σ : Setting) (docs : List Doc) (n : ℕ) (more : List Doc) (closed closed' : List ℕ) (start start' : ℕ) → take n docs ≡ more → closed' ≡ closed → start' ≡ start
    → IsCutAt σ more closed start → IsCutAt σ (take n docs) closed' start'
is_cut σ docs n more closed closed' start start' e f g h =
    subst (λ d. IsCutAt σ d closed' start') (sym e) (subst (λ c. IsCutAt σ more c start') (sym f) (subst (λ s. IsCutAt σ more closed s) (sym g) h))

pub loop-at-init : goal.loop-at-init
loop-at-init c =
    let σ = c.args.config.now in
    let first = front_first c.args.documents.now c.requires in
    record {
      cut = subst (λ docs. IsCutAt σ docs c.new-closed.result.items 0) (sym first.1)
          (subst (λ closed. IsCutAt σ (first.0 ∷ []) closed 0) (sym c.new-closed.ensures.items) (cut_first σ first.0));
      within = omega arith;
    }

pub loop-at-preserved : goal.loop-at-preserved
loop-at-preserved c =
    let σ = c.args.config.now in
    let docs = c.args.documents.now in
    let at = c.loop-at.at in
    let start = c.loop-at.start in
    let d = c.index-documents-at.result in
    let inv = c.loop-at.invariant in
    let front : List Doc = take at docs in
    let long : length front ≡ at = length-take-le at docs (omega (arith, c.loop-at-test.true)) in
    let more : take (at + 1) docs ≡ front ++ d ∷ [] = take_more docs at d c.loop-at-test.true ∙ ap (λ x. front ++ x ∷ []) (sym c.index-documents-at.is) in
    let tested : c.in_ok-fits.field-0 ≡ fits σ (drop start front) d = c.in_ok-fits.ensures ∙ ap (λ seg. fits σ seg d) (front_from docs start at (omega (arith, inv.within))) in
    elim c.if-not-branch.branch [
      | then-not-branch+in_ok-push w ↦
          let len : at - start ≡ length (drop start front) = omega (arith, long, length-drop start front) in
          let closed : c.if-not-branch.closed.items ≡ c.loop-at.closed.items ++ (at - start) ∷ [] = ap (λ (v : Vec ℕ Global). v.items) w.closed-is ∙ w.in_ok-push.ensures.items in
          record {
            cut = is_cut σ docs (at + 1) _ _ _ _ _ more closed (w.start-is ∙ sym long)
                (cut_new σ front d c.loop-at.closed.items start (at - start) inv.cut len (sym tested ∙ w.if-not-branch.true));
            within = omega (arith, w.start-is);
          }
      | else-not-branch w ↦
          record {
            cut = is_cut σ docs (at + 1) _ _ _ _ _ more (ap (λ (v : Vec ℕ Global). v.items) w.closed-is) w.start-is
                (cut_fits σ front d c.loop-at.closed.items start inv.cut (omega (arith, long, inv.within)) (sym tested ∙ w.if-not-branch.false));
            within = omega (arith, w.start-is, inv.within);
          }
    ]
