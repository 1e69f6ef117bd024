use Rattle.std.proofs.Common.{ap, ◌∙◌, arith}
use Rattle.eb_place.specs.Moments.{word}
use Rattle.eb_block.proofs.Standing.{packed_inside, packed_later, packed_value}
use Rattle.eb_block.proofs.packed_list.packed_word.Goals as goal

pub load-requires : goal.load-requires
load-requires g c =
    let r = c.requires in
    (r.0, r.3, omega (arith, packed_inside r.0 r.1 c.args.at r.2 (g.met.P.Port.lawful c.args.port.now r.0 r.3) r.4, c.from.ensures))

pub returns-clause-told : goal.returns-clause-told
returns-clause-told g c = λ s v. record {
  told = λ m st h.
      (let n = c.load.ensures.told m st in
      let is = g.met.P.Port.lawful c.args.port.now m st in
      let js = g.met.P.Port.lawful c.load.new.self n.0 n.1 in
      let k = packed_later m n.0 s c.args.at v is n.2 h in
      (n.0, n.1, n.2, n.3, n.4 ∙ ap (word n.0) c.from.ensures ∙ packed_value n.0 s c.args.at v js k));
}
