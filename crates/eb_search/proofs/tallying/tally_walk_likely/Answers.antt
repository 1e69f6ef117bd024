use Rattle.std.proofs.Common.{◌≡◌, ℕ, suc, subst, ◌+◌, ◌-◌, Bool, if◌then◌else◌, List, [], length, drop, get_or, ap, sym, ◌∙◌, arith, refl}
use Rattle.eb_base.specs.Document.{Doc}
use Rattle.eb_base.specs.Query.{word}
use Rattle.eb_base.specs.Setting.{Setting}
use Rattle.eb_count.specs.Counts.{match_count}
use Rattle.eb_count.specs.Tallies.{HasCounted}
use Rattle.eb_place.specs.Room.{cut}
use Rattle.eb_place.proofs.LaterMoments.{later_on}
use Rattle.eb_cursor.specs.Costs.{word_loads}
use Rattle.eb_cursor.specs.Frames.{query_of}
use Rattle.eb_cursor.proofs.Tellings.{told_itself}
use Rattle.eb_search.specs.Bounds.{loads_from, match_loads}
use Rattle.eb_search.proofs.Beginnings.{cut_short}
use Rattle.eb_search.proofs.Bounded.{loads_from_later, loads_back}
use Rattle.eb_search.proofs.CountBounded.{loads_segment, loads_all, match_count_drop, match_loads_le}
use Rattle.eb_search.proofs.Parts.{before_end}
use Rattle.eb_search.proofs.Segments.{is_step, visible_later, none_later}
use Rattle.eb_search.proofs.Skips.{AreSkipped, before, before_le, loads_skip, tally_skip}
use Rattle.eb_search.proofs.Totals.{tally_start, tally_segment}
use Rattle.eb_search.proofs.tallying.tally_walk_likely.Goals as goal

pub loop-segment-init : goal.loop-segment-init
loop-segment-init g c = record {
  seen = record { query = refl; k = refl; ids = refl };
  within = omega arith;
  buckets = refl;
  costs = λ was docs t same is. told_itself g.met.P.Port.keeps_itself (λ m h. (h.0, h.1, omega arith));
  told = λ docs same. told_itself g.met.P.Port.keeps_itself (λ m v. v);
  counted = λ docs same. told_itself g.met.P.Port.keeps_itself (λ m v.
      let end : before m.setting docs c.args.begun ≡ length docs = ap (before m.setting docs) v.0.words.all ∙ before_end m.setting docs in (
        v.0,
        tally_start (query_of c.args.frame.now) docs (before m.setting docs c.args.begun) c.args.tally.now c.args.tally.now end refl,
        v.1,
      ));
}

pub last_below-requires : goal.last_below-requires
last_below-requires g c =
    let r = c.requires in
    let lawful = g.met.P.Port.lawful _ r.0 r.2 in
    omega (arith, c.loop-segment.invariant.within, r.4.words.all, cut_short r.0 r.1 lawful r.4.accepted, lawful.setting.segments.1)

pub tally_matches-requires : goal.tally_matches-requires
tally_matches-requires g c =
    let r = c.requires in
    let inv = c.loop-segment.invariant in
    let x = (inv.told r.1 r.3).told r.0 r.2 r.4 in
    let older : ℕ = c.in-Some.segment in
    let lawful = g.met.P.Port.lawful _ x.0 x.1 in
    let s = is_step x.0 r.1 c.args.firsts.now c.args.begun older (before x.0.setting r.1 (older + 1)) lawful x.4 (omega (arith, inv.within, c.in-Some.ensures.below)) refl in
    let many = c.documents_in-documents.ensures x.0 r.1 lawful r.3 x.4 in
    (x.0, x.1, omega (arith, many, s.some), omega (arith, many, s.long))

pub loop-segment-preserved : goal.loop-segment-preserved
loop-segment-preserved g c =
    let inv = c.loop-segment.invariant in
    let top : ℕ = c.loop-segment.top in
    let older : ℕ = c.in-Some.segment in
    let likely : List Bool = c.args.likely in
    let begun : ℕ = c.args.begun in
    let last = c.in-Some.ensures in
    let passed : AreSkipped likely (older + 1) top = λ s from under. last.last s (omega (arith, from)) under in
    let d : ℕ = top - (older + 1) in
    let gap : older + 1 + d ≡ top = omega (arith, last.below) in
    let took = c.tally_matches.ensures in
    let buckets : ℕ = length c.args.tally.now.buckets in
    record {
      seen = record { query = took.seen.query ∙ inv.seen.query; k = took.seen.k ∙ inv.seen.k; ids = took.seen.ids ∙ inv.seen.ids };
      within = omega (arith, inv.within, last.below);
      buckets = took.buckets ∙ inv.buckets;
      costs = λ was docs t same is. record {
        told = λ m st h.
            let x = (inv.costs was docs t same is).told m st h in
            let σ : Setting = x.0.setting in
            let lawful = g.met.P.Port.lawful _ x.0 x.1 in
            let s = is_step x.0 docs c.args.firsts.now begun older (before σ docs (older + 1)) lawful x.4.0 (omega (arith, inv.within, last.below)) refl in
            let many = c.documents_in-documents.ensures x.0 docs lawful same x.4.0 in
            let part : List Doc = get_or (cut σ docs) older [] in
            let y = (took.costs was part t (sym many) (inv.seen.query ∙ is)).told x.0 x.1 (s.first, x.4.1) in
            let few = cut_short x.0 docs lawful x.4.0.accepted in
            let skip = loads_skip likely was x.0 t begun d (older + 1) top gap inv.within passed in
            let more = loads_from_later likely was x.0 y.0 (older + 1) (begun - (older + 1)) t
            lawful (g.met.P.Port.lawful _ y.0 y.1) y.2 x.4.1 (omega (arith, inv.within, x.4.0.words.all, few, last.below)) in
            let one : begun - older ≡ suc (begun - (older + 1)) = omega (arith, inv.within, last.below) in
            let loads = ap (λ (b : Bool). if b then word_loads was y.0 older t else 0) last.member in
            let low = before_le σ docs d (older + 1) top gap (omega (arith, inv.within, x.4.0.words.all)) in
            let newer = match_loads_le buckets (match_count (word t) (drop (before σ docs top) docs)) (match_count (word t) (drop (before σ docs (older + 1)) docs))
            (match_count_drop (word t) docs (before σ docs (older + 1)) (before σ docs top) low) in (
              y.0,
              y.1,
              later_on m x.0 y.0 x.2 y.2,
              g.met.P.Port.keeps_on _ _ _ m x.0 y.0 x.3 y.3,
              (
                visible_later x.0 y.0 docs c.args.firsts.now begun y.2 x.4.0,
                later_on was x.0 y.0 x.4.1 y.2,
                omega (
                  arith,
                  x.4.2,
                  y.4,
                  skip,
                  more,
                  loads,
                  newer,
                  ap (λ k. match_loads k (match_count (word t) part)) inv.buckets,
                  loads_segment (word t) docs part buckets (before σ docs older) (before σ docs (older + 1)) s.rest,
                  ap (λ (τ : Setting). match_loads buckets (match_count (word t) (drop (before τ docs older) docs))) y.2.setting,
                  ap (λ k. loads_from likely was y.0 older k t) one,
                ),
              ),
            );
      };
      told = λ docs same. record {
        told = λ m st v.
            let x = (inv.told docs same).told m st v in
            let lawful = g.met.P.Port.lawful _ x.0 x.1 in
            let s = is_step x.0 docs c.args.firsts.now begun older (before x.0.setting docs (older + 1)) lawful x.4 (omega (arith, inv.within, last.below)) refl in
            let many = c.documents_in-documents.ensures x.0 docs lawful same x.4 in
            let y = (took.counted (get_or (cut x.0.setting docs) older []) (sym many)).told x.0 x.1 s.first in
            (y.0, y.1, later_on m x.0 y.0 x.2 y.2, g.met.P.Port.keeps_on _ _ _ m x.0 y.0 x.3 y.3, visible_later x.0 y.0 docs c.args.firsts.now begun y.2 x.4);
      };
      counted = λ docs same. record {
        told = λ m st v.
            let x = (inv.counted docs same).told m st v in
            let q = query_of c.args.frame.now in
            let σ : Setting = x.0.setting in
            let lawful = g.met.P.Port.lawful _ x.0 x.1 in
            let s = is_step x.0 docs c.args.firsts.now begun older (before σ docs (older + 1)) lawful x.4.0 (omega (arith, inv.within, last.below)) refl in
            let many = c.documents_in-documents.ensures x.0 docs lawful same x.4.0 in
            let part : List Doc = get_or (cut σ docs) older [] in
            let y = (took.counted part (sym many)).told x.0 x.1 s.first in
            let was = tally_skip q σ docs c.args.tally.now c.loop-segment.tally likely d (older + 1) top gap (omega (arith, inv.within, x.4.0.words.all)) x.4.2 passed x.4.1 in
            let more : HasCounted q part c.loop-segment.tally c.tally_matches.new.tally = subst (λ z. HasCounted z part c.loop-segment.tally c.tally_matches.new.tally) inv.seen.query y.4 in
            let all = tally_segment q docs part c.args.tally.now c.loop-segment.tally c.tally_matches.new.tally (before σ docs older) (before σ docs (older + 1)) s.rest was more in (
              y.0,
              y.1,
              later_on m x.0 y.0 x.2 y.2,
              g.met.P.Port.keeps_on _ _ _ m x.0 y.0 x.3 y.3,
              (
                visible_later x.0 y.0 docs c.args.firsts.now begun y.2 x.4.0,
                subst (λ (τ : Setting). HasCounted q (drop (before τ docs older) docs) c.args.tally.now c.tally_matches.new.tally) y.2.setting all,
                none_later x.0 y.0 docs likely q y.2 x.4.2,
              ),
            );
      };
    }

pub returns-clause-counted : goal.returns-clause-counted
returns-clause-counted g c = λ docs same. record {
  told = λ m st v.
      let inv = c.loop-segment.invariant in
      let x = (inv.counted docs same).told m st v in
      let q = query_of c.args.frame.now in
      let all = tally_skip q x.0.setting docs c.args.tally.now c.loop-segment.tally c.args.likely c.loop-segment.top 0 c.loop-segment.top (omega arith)
      (omega (arith, inv.within, x.4.0.words.all)) x.4.2 (λ s from under. c.in_default.ensures s under) x.4.1 in
      (x.0, x.1, x.2, x.3, all);
}

pub returns-clause-costs : goal.returns-clause-costs
returns-clause-costs g c = λ was docs t same is. record {
  told = λ m st h.
      let x = (c.loop-segment.invariant.costs was docs t same is).told m st h in
      let back = loads_back c.args.likely was x.0 c.loop-segment.top c.args.begun t c.loop-segment.invariant.within in
      (x.0, x.1, x.2, x.3, omega (arith, x.4.2, back, loads_all (word t) docs (length c.args.tally.now.buckets) (before x.0.setting docs c.loop-segment.top)));
}
