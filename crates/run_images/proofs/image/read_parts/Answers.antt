use Rattle.std.proofs.Common.{[], ◌∷◌, ◌++◌, Option, le_trans, subst}
use Rattle.std.specs.Prelude.{Ok}
use Rattle.std.proofs.lemmas.Result.{err_from_is_err_and}
use Rattle.eb_image.specs.declared.reader.ImageReader.{ImageReader}
use Rattle.run_images.specs.Reading.{ComesNext}
use Rattle.run_images.proofs.Takings.{stops_at}
use Rattle.run_images.proofs.image.read_parts.Goals as goal

pub take_part-requires : goal.take_part-requires
take_part-requires g c =
    let r = c.requires in
    let at = c.parts.invariant.read r.0 r.1 r.2 r.3 in
    (r.0, at.0, at.1.store)

pub returns-in_err-take_part-clause-all : goal.returns-in_err-take_part-clause-all
returns-in_err-take_part-clause-all g c = λ σ first allowed h.
    let p = err_from_is_err_and c.from_residual.result c.from_residual.ensures.1 in
    let at = c.parts.invariant.read σ first allowed h in
    rw (p.1, p.2) (c.in_err-take_part.ensures.next σ at.0 first allowed at.1)

pub returns-in-None-clause-all : goal.returns-in-None-clause-all
returns-in-None-clause-all g c = λ σ first allowed h.
    let at = c.parts.invariant.read σ first allowed h in
    let N : Option ImageReader → Type 0 = λ o. ComesNext (Ok o) c.take_part.new.store σ at.0 first (g.S.Source.left c.take_part.new.source) in
    subst N c.in-None.is (c.in_ok-take_part.ensures.next σ at.0 first allowed at.1)

pub parts-preserved : goal.parts-preserved
parts-preserved g c = record {
  read = λ σ first allowed h.
      let at = c.parts.invariant.read σ first allowed h in
      let N : Option ImageReader → Type 0 = λ o. ComesNext (Ok o) c.take_part.new.store σ at.0 first (g.S.Source.left c.take_part.new.source) in
      let one = subst N c.in-Some.is (c.in_ok-take_part.ensures.next σ at.0 first allowed at.1) in
      (at.0 ++ one.0 ∷ [], one.1);
  later = le_trans c.parts.invariant.later c.take_part.ensures.later;
}

pub returns-clause-all : goal.returns-clause-all
returns-clause-all g c = λ σ first allowed h.
    let at = c.parts.invariant.read σ first allowed h in
    stops_at c.parts.store σ at.0 first _ allowed at.1
