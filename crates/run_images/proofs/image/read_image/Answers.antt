use Rattle.std.proofs.Common.{ap}
use Rattle.std.specs.Prelude.{Err}
use Rattle.std.proofs.lemmas.Result.{err_from_is_err_and}
use Rattle.run_images.proofs.Takings.{takes_head, stops_head, no_head, no_image}
use Rattle.run_images.proofs.image.read_image.Goals as goal

pub returns-in-Err-BadImage-clause-all : goal.returns-in-Err-BadImage-clause-all
returns-in-Err-BadImage-clause-all g c = let t = c.in-Err-BadImage.ensures.bad (ap Err c.in-Err-BadImage.field-0-is) in no_image t.0 _ _ t.1 t.2

pub returns-in-Err-ReadFault-clause-all : goal.returns-in-Err-ReadFault-clause-all
returns-in-Err-ReadFault-clause-all g c = let t = c.in-Err-ReadFault.ensures.fault (ap Err c.in-Err-ReadFault.field-0-is) in no_head t.0 _ _ t.1 t.2

pub returns-in_default-clause-all : goal.returns-in_default-clause-all
returns-in_default-clause-all g c = let head = c.in-Ok.ensures.ok in stops_head c.in-Ok.read.0 _ _ head.0 head.1

pub returns-in_err-read_parts-clause-all : goal.returns-in_err-read_parts-clause-all
returns-in_err-read_parts-clause-all g c =
    let p = err_from_is_err_and c.from_residual.result c.from_residual.ensures.1 in
    let head = c.in-Ok.ensures.ok in
    let σ = c.in-Ok.read.0 in
    rw (p.1, p.2) (c.in_err-read_parts.ensures.all σ (g.S.Source.left c.args.source.now) head.0 (takes_head c.in-Ok-new.store σ _ _ head.1 c.in-Ok-new.ensures.holds))

pub returns-clause-all : goal.returns-clause-all
returns-clause-all g c =
    let head = c.in-Ok.ensures.ok in
    let σ = c.in-Ok.read.0 in
    c.in_ok-read_parts.ensures.all σ (g.S.Source.left c.args.source.now) head.0 (takes_head c.in-Ok-new.store σ _ _ head.1 c.in-Ok-new.ensures.holds)
