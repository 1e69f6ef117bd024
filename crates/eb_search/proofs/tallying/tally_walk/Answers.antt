use Rattle.std.proofs.Common.{arith}
use Rattle.eb_place.proofs.LaterMoments.{later_on}
use Rattle.eb_cursor.specs.Frames.{query_of}
use Rattle.eb_search.proofs.Beginnings.{cut_short}
use Rattle.eb_search.proofs.Bounded.{loads_spared}
use Rattle.eb_search.proofs.Segments.{visible_later, none_of, none_later}
use Rattle.eb_search.proofs.tallying.tally_walk.Goals as goal

pub likely-likely-requires : goal.likely-likely-requires
likely-likely-requires g c =
    let r = c.requires in
    (r.0, r.2, omega (arith, r.4.words.all, cut_short r.0 r.1 (g.met.P.Port.lawful c.args.port.now r.0 r.2) r.4.accepted))

pub tally_walk_likely-requires : goal.tally_walk_likely-requires
tally_walk_likely-requires g c =
    let r = c.requires in
    let x = c.likely-likely.ensures.told r.0 r.2 in
    (x.0, r.1, x.1, r.3, visible_later r.0 x.0 r.1 c.args.firsts.now c.args.begun x.2 r.4)

pub returns-clause-counted : goal.returns-clause-counted
returns-clause-counted g c = λ docs same. record {
  told = λ m st v.
      let q = query_of c.args.frame.now in
      let x = c.likely-likely.ensures.told m st in
      let none = none_later m x.0 docs c.likely-likely.result q x.2 (none_of m docs c.likely-likely.result q v.accepted x.4) in
      let y = (c.tally_walk_likely.ensures.counted docs same).told x.0 x.1 (visible_later m x.0 docs c.args.firsts.now c.args.begun x.2 v, none) in
      (y.0, y.1, later_on m x.0 y.0 x.2 y.2, g.met.P.Port.keeps_on _ _ _ m x.0 y.0 x.3 y.3, y.4);
}

pub returns-clause-costs : goal.returns-clause-costs
returns-clause-costs g c = λ was docs t same is. record {
  told = λ m st h.
      let x = c.likely-likely.ensures.told m st in
      let y = (c.tally_walk_likely.ensures.costs was docs t same is).told x.0 x.1 (visible_later m x.0 docs c.args.firsts.now c.args.begun x.2 h.0, later_on was m x.0 h.1 x.2) in
      let spared = loads_spared c.likely-likely.result was y.0 0 c.args.begun t in
      (y.0, y.1, later_on m x.0 y.0 x.2 y.2, g.met.P.Port.keeps_on _ _ _ m x.0 y.0 x.3 y.3, omega (arith, y.4, c.likely-likely.ensures.loads, spared));
}
