use Rattle.eb_fields.specs.Dialect.{dialect_of}
use Rattle.std.proofs.Common.{◌≡◌, [], sym, subst, ◌∙◌}
use Rattle.eb_lines.proofs.PassingLines.{ends_at_once}
use Rattle.eb_image.specs.Image.{head_of}
use Rattle.run_images.specs.Saved.{asked}
use Rattle.run_images.specs.Saving.{HasSaved}
use Rattle.run_images.specs.SavingLaws.{parts_first}
use Rattle.run_images.proofs.Savings.{parts_none}
use Rattle.run_images.proofs.save.save_lines.Goals as goal

pub returns-in_default-clause-ends : goal.returns-in_default-clause-ends
returns-in_default-clause-ends g c =
    ends_at_once _ _ _ _ (parts_first (asked (dialect_of c.args.dialect) c.args.config)) _ _ (head_of c.args.config) (parts_none (asked (dialect_of c.args.dialect) c.args.config))

pub returns-in_default-new-clause-ends : goal.returns-in_default-new-clause-ends
returns-in_default-new-clause-ends g c = ends_at_once _ _ _ _ (parts_first (asked (dialect_of c.args.dialect) c.args.config)) _ _ (head_of c.args.config)
    (parts_none (asked (dialect_of c.args.dialect) c.args.config))

pub returns-clause-ends : goal.returns-clause-ends
returns-clause-ends g c =
    let head : c.in-Ok.head.items ≡ head_of c.args.config = c.in-Ok.ensures.items_if_clones_equal (λ x y e. e) ∙ c.write_head.ensures in
    let a = asked (dialect_of c.args.dialect) c.args.config in
    c.pass_lines.ensures.ends a (subst (HasSaved c.in-Ok-new.saving a []) (sym head) c.in-Ok-new.ensures)
