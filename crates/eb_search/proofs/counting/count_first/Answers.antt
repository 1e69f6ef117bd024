use Rattle.std.proofs.Common.{[], length, take, drop, ap, ◌∙◌, arith}
use Rattle.std.proofs.lemmas.List.{take-append-drop, length-take-le}
use Rattle.eb_place.proofs.LaterMoments.{later_on}
use Rattle.eb_base.specs.Setting.{Setting}
use Rattle.eb_place.specs.Room.{cut}
use Rattle.eb_place.proofs.Prefixes.{prefix_trans}
use Rattle.eb_search.specs.Bounds.{loads_from}
use Rattle.eb_search.proofs.Beginnings.{cut_short}
use Rattle.eb_search.proofs.CountBounded.{count_bound_is}
use Rattle.eb_search.proofs.counting.count_first.Goals as goal

pub visible_segments-begun-requires : goal.visible_segments-begun-requires
visible_segments-begun-requires g c = c.requires

pub tally_walk-requires : goal.tally_walk-requires
tally_walk-requires g c =
    let r = c.requires in
    let docs = take c.args.count r.0.documents.accepted in
    let long = length-take-le c.args.count r.0.documents.accepted r.2 in
    let y = (c.visible_segments-begun.ensures.words docs long).told r.0 r.1 (drop c.args.count r.0.documents.accepted, take-append-drop c.args.count r.0.documents.accepted) in
    (y.0, docs, y.1, long, y.4)

pub returns-clause-counts : goal.returns-clause-counts
returns-clause-counts g c = λ docs same.
    record {
      told = λ m st pre.
          let y = (c.visible_segments-begun.ensures.words docs same).told m st pre in
          let z = (c.tally_walk.ensures.counted docs same).told y.0 y.1 y.4 in (
            z.0,
            z.1,
            later_on m y.0 z.0 y.2 z.2,
            g.met.P.Port.keeps_on _ _ _ m y.0 z.0 y.3 z.3,
            z.4,
          );
    }

pub returns-clause-loads : goal.returns-clause-loads
returns-clause-loads g c = λ m t st some is.
    let docs = take c.args.count m.documents.accepted in
    let same = length-take-le c.args.count m.documents.accepted some in
    let y = (c.visible_segments-begun.ensures.words docs same).told m st (drop c.args.count m.documents.accepted, take-append-drop c.args.count m.documents.accepted) in
    let z = (c.tally_walk.ensures.costs m docs t same is).told y.0 y.1 (y.4, y.2) in
    let zp = later_on m y.0 z.0 y.2 z.2 in
    let accepted = prefix_trans _ _ _ y.4.accepted z.2.documents.accepted in
    let b = length c.args.tally.now.buckets in (
      z.0,
      z.1,
      zp,
      g.met.P.Port.keeps_on _ _ _ m y.0 z.0 y.3 z.3,
      omega (
        arith,
        c.visible_segments-begun.ensures.loads m st,
        ap (λ (σ : Setting). σ.segments) zp.setting,
        ap (λ (σ : Setting). σ.segments) z.2.setting,
        y.4.words.all,
        cut_short y.0 docs (g.met.P.Port.lawful _ y.0 y.1) y.4.accepted,
        z.4,
        ap (λ k. loads_from [] m z.0 0 k t) (y.4.words.all ∙ ap (λ (σ : Setting). length (cut σ docs)) z.2.setting),
        count_bound_is [] m z.0 docs c.args.count t b same accepted,
      ),
    )
