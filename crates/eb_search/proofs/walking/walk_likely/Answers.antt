use Rattle.std.proofs.Common.{◌≡◌, ℕ, suc, subst, ◌<◌, ◌≤◌, ◌+◌, ◌-◌, Bool, if◌then◌else◌, List, [], ◌++◌, length, drop, get_or, ap, sym, ◌∙◌, arith, refl}
use Rattle.eb_base.specs.Document.{Doc}
use Rattle.std.proofs.lemmas.List.{length-drop}
use Rattle.eb_base.specs.Match.{answer}
use Rattle.eb_base.specs.Setting.{Setting}
use Rattle.eb_place.specs.Room.{cut}
use Rattle.eb_place.proofs.LaterMoments.{later_on}
use Rattle.eb_cursor.specs.Costs.{word_loads}
use Rattle.eb_cursor.specs.Frames.{query_of, k_of, ids_of}
use Rattle.eb_cursor.proofs.Tellings.{told_itself}
use Rattle.eb_search.specs.Bounds.{loads_from, and_loads_in, and_loads_from}
use Rattle.eb_search.proofs.AndBounded.{and_from_later, and_from_all, and_from_step}
use Rattle.eb_search.proofs.Beginnings.{cut_short}
use Rattle.eb_search.proofs.Bounded.{loads_from_later, loads_back}
use Rattle.eb_search.proofs.Parts.{before_end}
use Rattle.eb_search.proofs.Matches.{more_first, more_next, more_full}
use Rattle.eb_search.proofs.Segments.{is_step, visible_later, none_later}
use Rattle.eb_search.proofs.Skips.{AreSkipped, before, answer_skip, loads_skip, and_skip}
use Rattle.eb_search.proofs.walking.walk_likely.Goals as goal

pub loop-segment-init : goal.loop-segment-init
loop-segment-init g c = record {
  query = refl;
  k = refl;
  within = omega arith;
  costs = λ was t is. told_itself g.met.P.Port.keeps_itself (λ m h. (h.0, h.1, omega arith));
  rounds = λ docs ts same is. told_itself g.met.P.Port.keeps_itself (λ m v. (v, omega arith));
  told = λ docs same. told_itself g.met.P.Port.keeps_itself (λ m v. v);
  ids = λ docs same. told_itself g.met.P.Port.keeps_itself (λ m v.
      let end : before m.setting docs c.args.begun ≡ length docs = ap (before m.setting docs) v.0.words.all ∙ before_end m.setting docs in (
        v.0,
        more_first (query_of c.args.frame.now) (k_of c.args.frame.now) (ids_of c.args.frame.now) docs (before m.setting docs c.args.begun) end,
        v.1,
      ));
}

pub last_below-requires : goal.last_below-requires
last_below-requires g c =
    let r = c.requires in
    let lawful = g.met.P.Port.lawful _ r.0 r.2 in
    omega (arith, c.loop-segment.invariant.within, r.4.words.all, cut_short r.0 r.1 lawful r.4.accepted, lawful.setting.segments.1)

pub returns-then-is_full-clause-ids : goal.returns-then-is_full-clause-ids
returns-then-is_full-clause-ids g c = λ docs same. record {
  told = λ m st v.
      let inv = c.loop-segment.invariant in
      let x = (inv.ids docs same).told m st v in (
        x.0,
        x.1,
        x.2,
        x.3,
        more_full (query_of c.args.frame.now) (k_of c.args.frame.now) (ids_of c.args.frame.now) docs (before x.0.setting docs c.loop-segment.top)
            (ids_of c.loop-segment.frame) (c.is_full.ensures.0 c.if-is_full.true ∙ inv.k) x.4.1,
      );
}

pub returns-then-is_full-clause-costs : goal.returns-then-is_full-clause-costs
returns-then-is_full-clause-costs g c = λ was t is. record {
  told = λ m st h.
      let x = (c.loop-segment.invariant.costs was t is).told m st h in
      (x.0, x.1, x.2, x.3, omega (arith, x.4.2, loads_back c.args.likely was x.0 c.loop-segment.top c.args.begun t c.loop-segment.invariant.within));
}

pub returns-then-is_full-clause-rounds : goal.returns-then-is_full-clause-rounds
returns-then-is_full-clause-rounds g c = λ docs ts same is. record {
  told = λ m st v.
      let x = (c.loop-segment.invariant.rounds docs ts same is).told m st v in
      (x.0, x.1, x.2, x.3, omega (arith, x.4.1, c.loop-segment.invariant.within, and_from_all c.args.likely x.0 c.loop-segment.top ts (cut x.0.setting docs)));
}

pub take_matches-requires : goal.take_matches-requires
take_matches-requires g c =
    let r = c.requires in
    let inv = c.loop-segment.invariant in
    let x = (inv.told r.1 r.3).told r.0 r.2 r.4 in
    let older : ℕ = c.in-Some.segment in
    let lawful = g.met.P.Port.lawful _ x.0 x.1 in
    let s = is_step x.0 r.1 c.args.firsts.now c.args.begun older (before x.0.setting r.1 (older + 1)) lawful x.4 (omega (arith, inv.within, c.in-Some.ensures.below)) refl in
    let many = c.documents_in-documents.ensures x.0 r.1 lawful r.3 x.4 in
    (x.0, x.1, omega (arith, many, s.some), omega (arith, many, s.long))

pub loop-segment-preserved : goal.loop-segment-preserved
loop-segment-preserved g c =
    let inv = c.loop-segment.invariant in
    let top : ℕ = c.loop-segment.top in
    let older : ℕ = c.in-Some.segment in
    let likely : List Bool = c.args.likely in
    let begun : ℕ = c.args.begun in
    let last = c.in-Some.ensures in
    let passed : AreSkipped likely (older + 1) top = λ s from under. last.last s (omega (arith, from)) under in
    let d : ℕ = top - (older + 1) in
    let gap : older + 1 + d ≡ top = omega (arith, last.below) in
    record {
      query = c.take_matches.ensures.query ∙ inv.query;
      k = c.take_matches.ensures.k ∙ inv.k;
      within = omega (arith, inv.within, last.below);
      costs = λ was t is. record {
        told = λ m st h.
            let x = (inv.costs was t is).told m st h in
            let inside : older < x.0.setting.segments = omega (arith, inv.within, x.4.0, last.below) in
            let y = (c.take_matches.ensures.costs was t (inv.query ∙ is)).told x.0 x.1 (inside, x.4.1) in
            let skip = loads_skip likely was x.0 t begun d (older + 1) top gap inv.within passed in
            let more = loads_from_later likely was x.0 y.0 (older + 1) (begun - (older + 1)) t
            (g.met.P.Port.lawful _ x.0 x.1) (g.met.P.Port.lawful _ y.0 y.1) y.2 x.4.1 (omega (arith, inv.within, x.4.0, last.below)) in
            let one : begun - older ≡ suc (begun - (older + 1)) = omega (arith, inv.within, last.below) in
            let counts = ap (λ (b : Bool). if b then word_loads was y.0 older t else 0) last.member in (
              y.0,
              y.1,
              later_on m x.0 y.0 x.2 y.2,
              g.met.P.Port.keeps_on _ _ _ m x.0 y.0 x.3 y.3,
              (
                subst (λ σ. begun ≤ σ.segments) y.2.setting x.4.0,
                later_on was x.0 y.0 x.4.1 y.2,
                omega (arith, x.4.2, y.4, skip, more, counts, ap (λ k. loads_from likely was y.0 older k t) one),
              ),
            );
      };
      rounds = λ docs ts same is. record {
        told = λ m st v.
            let x = (inv.rounds docs ts same is).told m st v in
            let segs = cut x.0.setting docs in
            let lawful = g.met.P.Port.lawful _ x.0 x.1 in
            let s = is_step x.0 docs c.args.firsts.now begun older (before x.0.setting docs (older + 1)) lawful x.4.0 (omega (arith, inv.within, last.below)) refl in
            let many = c.documents_in-documents.ensures x.0 docs lawful same x.4.0 in
            let part : List Doc = get_or segs older [] in
            let y = (c.take_matches.ensures.rounds part ts (sym many) (inv.query ∙ is)).told x.0 x.1 s.first in
            let here : older < length segs = omega (arith, inv.within, x.4.0.words.all, last.below) in
            let rest : List (List Doc) = drop (older + 1) segs in
            let inside : older + 1 + length rest ≤ x.0.setting.segments = omega (arith, length-drop (older + 1) segs, cut_short x.0 docs lawful x.4.0.accepted, here) in
            let skip = and_skip likely x.0 ts segs d (older + 1) top gap (omega (arith, inv.within, x.4.0.words.all)) passed in
            let more = and_from_later likely x.0 y.0 (older + 1) ts rest lawful (g.met.P.Port.lawful _ y.0 y.1) y.2 inside in
            let step = and_from_step likely y.0 older (older + 1) ts segs here refl in
            let counts = ap (λ (b : Bool). if b then and_loads_in y.0 older ts part else 0) last.member in (
              y.0,
              y.1,
              later_on m x.0 y.0 x.2 y.2,
              g.met.P.Port.keeps_on _ _ _ m x.0 y.0 x.3 y.3,
              (
                visible_later x.0 y.0 docs c.args.firsts.now begun y.2 x.4.0,
                omega (
                  arith,
                  x.4.1,
                  y.4,
                  skip,
                  more,
                  step,
                  counts,
                  inv.within,
                  last.below,
                  ap (λ (σ : Setting). and_loads_from likely y.0 older ts (drop older (cut σ docs))) y.2.setting,
                ),
              ),
            );
      };
      told = λ docs same. record {
        told = λ m st v.
            let x = (inv.told docs same).told m st v in
            let lawful = g.met.P.Port.lawful _ x.0 x.1 in
            let s = is_step x.0 docs c.args.firsts.now begun older (before x.0.setting docs (older + 1)) lawful x.4 (omega (arith, inv.within, last.below)) refl in
            let many = c.documents_in-documents.ensures x.0 docs lawful same x.4 in
            let y = (c.take_matches.ensures.ids (get_or (cut x.0.setting docs) older []) (sym many)).told x.0 x.1 s.first in
            (y.0, y.1, later_on m x.0 y.0 x.2 y.2, g.met.P.Port.keeps_on _ _ _ m x.0 y.0 x.3 y.3, visible_later x.0 y.0 docs c.args.firsts.now begun y.2 x.4);
      };
      ids = λ docs same. record {
        told = λ m st v.
            let x = (inv.ids docs same).told m st v in
            let q = query_of c.args.frame.now in
            let k = k_of c.args.frame.now in
            let own : List ℕ = ids_of c.args.frame.now in
            let σ : Setting = x.0.setting in
            let lawful = g.met.P.Port.lawful _ x.0 x.1 in
            let s = is_step x.0 docs c.args.firsts.now begun older (before σ docs (older + 1)) lawful x.4.0 (omega (arith, inv.within, last.below)) refl in
            let many = c.documents_in-documents.ensures x.0 docs lawful same x.4.0 in
            let part : List Doc = get_or (cut σ docs) older [] in
            let y = (c.take_matches.ensures.ids part (sym many)).told x.0 x.1 s.first in
            let skip = answer_skip q (k - length own) σ docs likely d (older + 1) top gap (omega (arith, inv.within, x.4.0.words.all)) x.4.2 passed in
            let found : ids_of c.loop-segment.frame ≡ own ++ answer q (k - length own) (drop (before σ docs (older + 1)) docs) = x.4.1 ∙ ap (λ (z : List ℕ). own ++ z) (sym skip) in
            let more : ids_of c.take_matches.new.frame ≡ ids_of c.loop-segment.frame ++ answer q (k - length (ids_of c.loop-segment.frame)) part =
            y.4 ∙ (λ i. ids_of c.loop-segment.frame ++ answer (inv.query i) (inv.k i - length (ids_of c.loop-segment.frame)) part) in
            let all = more_next q k own docs part (before σ docs older) (before σ docs (older + 1)) (ids_of c.loop-segment.frame) (ids_of c.take_matches.new.frame) s.rest found more in (
              y.0,
              y.1,
              later_on m x.0 y.0 x.2 y.2,
              g.met.P.Port.keeps_on _ _ _ m x.0 y.0 x.3 y.3,
              (
                visible_later x.0 y.0 docs c.args.firsts.now begun y.2 x.4.0,
                all ∙ ap (λ (τ : Setting). own ++ answer q (k - length own) (drop (before τ docs older) docs)) y.2.setting,
                none_later x.0 y.0 docs likely q y.2 x.4.2,
              ),
            );
      };
    }

pub returns-clause-ids : goal.returns-clause-ids
returns-clause-ids g c = λ docs same. record {
  told = λ m st v.
      let inv = c.loop-segment.invariant in
      let x = (inv.ids docs same).told m st v in
      let q = query_of c.args.frame.now in
      let own : List ℕ = ids_of c.args.frame.now in
      let left : ℕ = k_of c.args.frame.now - length own in
      let skip = answer_skip q left x.0.setting docs c.args.likely c.loop-segment.top 0 c.loop-segment.top (omega arith)
      (omega (arith, inv.within, x.4.0.words.all)) x.4.2 (λ s from under. c.in_default.ensures s under) in
      (x.0, x.1, x.2, x.3, x.4.1 ∙ ap (λ (z : List ℕ). own ++ z) (sym skip));
}

pub returns-clause-costs : goal.returns-clause-costs
returns-clause-costs g c = λ was t is. record {
  told = λ m st h.
      let x = (c.loop-segment.invariant.costs was t is).told m st h in
      (x.0, x.1, x.2, x.3, omega (arith, x.4.2, loads_back c.args.likely was x.0 c.loop-segment.top c.args.begun t c.loop-segment.invariant.within));
}

pub returns-clause-rounds : goal.returns-clause-rounds
returns-clause-rounds g c = λ docs ts same is. record {
  told = λ m st v.
      let x = (c.loop-segment.invariant.rounds docs ts same is).told m st v in
      (x.0, x.1, x.2, x.3, omega (arith, x.4.1, c.loop-segment.invariant.within, and_from_all c.args.likely x.0 c.loop-segment.top ts (cut x.0.setting docs)));
}
