use Rattle.std.proofs.Common.{◌≡◌, length, subst, arith}
use Rattle.eb_engine.specs.Tokens.{ConverterToken}
use Rattle.eb_blend.specs.Converting.{HasConverted}
use Rattle.eb_blend.proofs.Each.{as_many_converters, converter_made_at}
use Rattle.eb_blend.proofs.catching_up.convert_beside.Goals as goal

pub each_place-requires-after_bounds : goal.each_place-requires-after_bounds
each_place-requires-after_bounds g c κs within = λ i p lt is.
    let cs = c.args.converters.now in
    let ws = c.args.indexes.now in
    let many : length cs ≡ length ws = as_many_converters cs ws c.requires.made in (
      omega (arith, lt, many),
      (λ w at. converter_made_at cs ws i p.now w c.requires.made lt is at),
    )

pub returns : goal.returns
returns g c = record {
  each = λ p w t lt is.
      let e = (c.each_place.ensures p t lt).1 in
      subst (λ (x : ConverterToken × ConverterToken). HasConverted w.setting x.0 x.1) (λ j. (e.argument_is j, e.left j)) (e.call w is);
}
