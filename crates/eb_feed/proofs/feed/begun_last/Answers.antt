use Rattle.std.proofs.Common.{◌≡◌, [], length, get_or, refl, subst, sym, ◌∙◌}
use Rattle.eb_feed.specs.declared.generation.Generation.{Generation}
use Rattle.eb_feed.specs.Held.{HoldsExactly}
use Rattle.eb_feed.proofs.Generations.{not_one}
use Rattle.eb_feed.proofs.Helds.{held_at}
use Rattle.eb_feed.proofs.feed.begun_last.Goals as goal

pub returns-then-documents-eq1 : goal.returns-then-documents-eq1
returns-then-documents-eq1 c = λ σ past h.
    let held = subst (λ (g : Generation). HoldsExactly g σ (get_or past 0 [])) (sym c.index-generations-0.is) (held_at _ σ past 0 c.index-generations-0.result h c.requires) in
    let one : length (get_or past 0 []) ≡ 1 = sym (c.documents.ensures σ _ held) ∙ c.if-documents-eq1.true in
    rw one refl

pub returns : goal.returns
returns c = λ σ past h.
    let held = subst (λ (g : Generation). HoldsExactly g σ (get_or past 0 [])) (sym c.index-generations-0.is) (held_at _ σ past 0 c.index-generations-0.result h c.requires) in
    let more = not_one (length (get_or past 0 [])) (λ e. c.if-documents-eq1.false (c.documents.ensures σ _ held ∙ e)) in
    rw more refl
