use Rattle.std.proofs.Common.{length, ap, sym, ◌∙◌, arith}
use Rattle.eb_base.specs.Setting.{Setting}
use Rattle.eb_place.proofs.CountWords.{word_count}
use Rattle.eb_place.proofs.LaterMoments.{later_on}
use Rattle.eb_place.proofs.Prefixes.{prefix_self}
use Rattle.eb_cursor.specs.Frames.{query_of}
use Rattle.eb_search.proofs.Segments.{none_later}
use Rattle.eb_place.specs.Room.{cut}
use Rattle.eb_search.specs.Bounds.{loads_from}
use Rattle.eb_search.proofs.CountBounded.{count_bound_is}
use Rattle.eb_search.proofs.counting.count_likely.Goals as goal

pub visible_segments-begun-requires : goal.visible_segments-begun-requires
visible_segments-begun-requires g c =
    let r = c.requires in
    let l = c.load-count.ensures.told r.0 r.1 in
    (l.0, l.1, omega (arith, l.4 ∙ word_count l.0 (g.met.P.Port.lawful _ l.0 l.1)))

pub tally_walk_likely-requires : goal.tally_walk_likely-requires
tally_walk_likely-requires g c =
    let r = c.requires in
    let l = c.load-count.ensures.told r.0 r.1 in
    let same = sym (l.4 ∙ word_count l.0 (g.met.P.Port.lawful _ l.0 l.1)) in
    let y = (c.visible_segments-begun.ensures.words l.0.documents.accepted same).told l.0 l.1 (prefix_self l.0.documents.accepted) in
    (y.0, l.0.documents.accepted, y.1, same, y.4)

pub returns-clause-counts : goal.returns-clause-counts
returns-clause-counts g c = λ m st.
    let l = c.load-count.ensures.told m st in
    let docs = l.0.documents.accepted in
    let same = sym (l.4 ∙ word_count l.0 (g.met.P.Port.lawful _ l.0 l.1)) in
    let y = (c.visible_segments-begun.ensures.words docs same).told l.0 l.1 (prefix_self docs) in
    let z = (c.tally_walk_likely.ensures.stands docs same).told y.0 y.1 y.4 in (
      z.0,
      z.1,
      g.met.P.Port.keeps_on _ _ _ m l.0 z.0 l.3 (g.met.P.Port.keeps_on _ _ _ l.0 y.0 z.0 y.3 z.3),
      record {
        loaded = l.0;
        after = l.2;
        before = later_on l.0 y.0 z.0 y.2 z.2;
        count = sym same;
        tally = λ none.
            let there = none_later l.0 y.0 docs c.args.likely (query_of c.args.frame.now) y.2 none in
            let w = (c.tally_walk_likely.ensures.counted docs same).told y.0 y.1 (y.4, there) in
            w.4;
      },
    )

pub returns-clause-loads : goal.returns-clause-loads
returns-clause-loads g c = λ m t st is.
    let l = c.load-count.ensures.told m st in
    let docs = l.0.documents.accepted in
    let same = sym (l.4 ∙ word_count l.0 (g.met.P.Port.lawful _ l.0 l.1)) in
    let y = (c.visible_segments-begun.ensures.words docs same).told l.0 l.1 (prefix_self docs) in
    let z = (c.tally_walk_likely.ensures.costs m docs t same is).told y.0 y.1 (y.4, later_on m l.0 y.0 l.2 y.2) in
    let zp = later_on l.0 y.0 z.0 y.2 z.2 in
    let b = length c.args.tally.now.buckets in (
      z.0,
      z.1,
      later_on m l.0 z.0 l.2 zp,
      g.met.P.Port.keeps_on _ _ _ m l.0 z.0 l.3 (g.met.P.Port.keeps_on _ _ _ l.0 y.0 z.0 y.3 z.3),
      omega (
        arith,
        c.load-count.ensures.step,
        c.visible_segments-begun.ensures.loads l.0 l.1,
        ap (λ (σ : Setting). σ.segments) zp.setting,
        z.4,
        ap (λ k. loads_from c.args.likely m z.0 0 k t) (y.4.words.all ∙ ap (λ (σ : Setting). length (cut σ docs)) z.2.setting),
        count_bound_is c.args.likely m z.0 docs c.load-count.result t b same zp.documents.accepted,
      ),
    )
