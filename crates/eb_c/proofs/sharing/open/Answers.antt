use Rattle.std.proofs.Common.{inl, Some, ap, ◌∙◌}
use Rattle.eb_c.specs.declared.held.Held.TheVariants.{Writer, Converter}
use Rattle.eb_c.proofs.sharing.open.Goals as goal

pub returns : goal.returns
returns c = (
  c.in-Ok.index,
  c.in-Ok.ensures.setting,
  c.of.ensures ∙ (ap (λ h. Some h) c.in-Ok-new-3.ensures.ok ∙ ap (λ w. Some (Writer w)) (c.new-3.ensures ∙ (c.in-Ok-new-2.ensures.ok ∙ c.in-Ok.ensures.writer))),
  inl (c.of-2.ensures ∙ (ap (λ h. Some h) c.in-Ok-new-4.ensures.ok ∙ ap (λ w. Some (Converter w)) (c.new-5.ensures ∙ c.in-Ok.ensures.converter))),
)
