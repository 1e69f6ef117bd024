use Rattle.std.proofs.Common.{◌≡◌, length, ap, sym, ◌∙◌}
use Rattle.eb_blend.specs.Adding.{writers_of, blend_writer, with_items}
use Rattle.eb_blend.proofs.Turns.{front_back}
use Rattle.eb_blend.proofs.adding.add_with.Goals as goal

pub returns-clause-writers : goal.returns-clause-writers
returns-clause-writers g c = λ σ all.
    let new = c.add_items-last.new.turns in
    let last = c.add_items-last.result in
    let e : c.begin_turns.new.turns.len ≡ length new = sym (c.add_items-last.ensures.number ∙ c.as_mut_slice.ensures.len) in
    ap (λ v. blend_writer v.items last) c.swap.ensures.x_after
    ∙ ap (λ z. blend_writer z last) (c.end_turns.ensures ∙ ap writers_of (front_back new _ c.begin_turns.new.turns.len e))
    ∙ c.add_items-last.ensures.writers σ all
    ∙ ap (λ z. with_items σ (blend_writer z c.args.last) c.args.items.now) (ap writers_of c.as_mut_slice.ensures.value ∙ c.begin_turns.ensures.writers)
