use Rattle.std.proofs.Common.{◌-◌, ◌<◌, length, None, refl, ap, sym, subst, ◌∙◌, arith}
use Rattle.eb_base.specs.Query.{word}
use Rattle.eb_place.proofs.ConverterWords.{later_converted}
use Rattle.eb_place.proofs.LaterMoments.{later_on, inside_later}
use Rattle.eb_cursor.specs.Accepted.{accepted_in}
use Rattle.eb_cursor.specs.Frames.{query_of}
use Rattle.eb_cursor.specs.Greatest.{IsGreatest, IsGreatestMatch}
use Rattle.eb_cursor.proofs.Asking.{first_so_many}
use Rattle.eb_cursor.proofs.Openings.{are_first}
use Rattle.eb_cursor.proofs.Owing.{word_loads_later, firsts_later}
use Rattle.eb_cursor.proofs.Tellings.{told_as}
use Rattle.eb_search.specs.Bounds.{match_loads}
use Rattle.eb_search.proofs.CountBounded.{loads_next, loads_all}
use Rattle.eb_search.proofs.Segments.{first_later, under_way}
use Rattle.eb_search.proofs.Totals.{tally_start, tally_next, tally_last, tally_all}
use Rattle.eb_search.proofs.tallying.tally_matches.Goals as goal

pub loop-end-init : goal.loop-end-init
loop-end-init g c = record {
  seen = c.start.ensures.seen;
  within = omega arith;
  buckets = refl;
  costs = λ was docs t same is. record {
    told = λ m st h.
        let inside = (are_first m c.args.segment docs (g.met.P.Port.lawful _ m st) (omega (arith, same, c.requires.2)) h.0).inside in
        let x = (c.start.ensures.costs was t is).told m st (inside, h.1) in (
          x.0,
          x.1,
          x.2,
          x.3,
          record { inside = inside_later m x.0 c.args.segment x.2 inside; since = later_on was m x.0 h.1 x.2; left = x.4.0; owes = x.4.1; loads = omega (arith, x.4.2) },
        );
  };
  told = λ docs same. told_as g.met.P.Port.lawful (c.start.ensures.ready docs same) (λ m p. p) (λ m n w p asks. (
    under_way m n c.args.segment docs c.start.new.self c.args.documents w.later p asks,
    tally_start (query_of c.args.frame.now) docs c.args.documents c.args.tally.now c.args.tally.now (sym same) refl,
  ));
}

pub at_most-requires : goal.at_most-requires
at_most-requires g c =
    let r = c.requires in
    let w = first_so_many (accepted_in r.0 c.args.segment) c.args.documents r.3 in
    let x = (c.loop-end.invariant.told w.0 w.2).told r.0 r.1 w.1 in
    let u = x.4.0 in
    (u.asked, x.0, w.0, u.asks (c.loop-end.end - 1) (omega (arith, c.loop-end-test.true)), x.1, u.later)

pub returns-in_default-clause-counted : goal.returns-in_default-clause-counted
returns-in_default-clause-counted g c = λ docs same.
    let inv = c.loop-end.invariant in
    record {
      told = λ m st p.
          let x = (inv.told docs same).told m st p in
          let u = x.4.0 in
          let may = u.asks (c.loop-end.end - 1) (omega (arith, c.loop-end-test.true)) in
          let y = (c.at_most.ensures.ready u.asked docs may).told x.0 x.1 u.later in
          let none : IsGreatestMatch (query_of c.args.frame.now) docs (c.loop-end.end - 1) None =
          subst (λ z. IsGreatestMatch z docs (c.loop-end.end - 1) None) inv.seen.query (c.in_default.ensures.found u.asked x.0 docs may x.1 u.later) in (
            y.0,
            y.1,
            later_on m x.0 y.0 x.2 y.2,
            g.met.P.Port.keeps_on _ _ _ m x.0 y.0 x.3 y.3,
            tally_last (query_of c.args.frame.now) docs c.args.tally.now c.loop-end.tally c.loop-end.end (omega (arith, inv.within, same)) none x.4.1,
          );
    }

pub tally_document-requires : goal.tally_document-requires
tally_document-requires g c =
    let r = c.requires in
    let inv = c.loop-end.invariant in
    let w = first_so_many (accepted_in r.0 c.args.segment) c.args.documents r.3 in
    let x = (inv.told w.0 w.2).told r.0 r.1 w.1 in
    let u = x.4.0 in
    let may = u.asks (c.loop-end.end - 1) (omega (arith, c.loop-end-test.true)) in
    let found = c.in-Some.ensures.found u.asked x.0 w.0 may x.1 u.later in
    let y = (c.at_most.ensures.ready u.asked w.0 may).told x.0 x.1 u.later in
    (y.0, w.0, y.1, first_later x.0 y.0 c.args.segment w.0 y.2 u.first, omega (arith, found.within, inv.within, w.2, c.loop-end-test.true))

pub loop-end-smaller : goal.loop-end-smaller
loop-end-smaller g c =
    let r = c.requires in
    let w = first_so_many (accepted_in r.0 c.args.segment) c.args.documents r.3 in
    let x = (c.loop-end.invariant.told w.0 w.2).told r.0 r.1 w.1 in
    let u = x.4.0 in
    let may = u.asks (c.loop-end.end - 1) (omega (arith, c.loop-end-test.true)) in
    let found = c.in-Some.ensures.found u.asked x.0 w.0 may x.1 u.later in
    omega (arith, found.within, c.loop-end-test.true)

pub loop-end-preserved : goal.loop-end-preserved
loop-end-preserved g c =
    let r = c.requires in
    let inv = c.loop-end.invariant in
    let before = first_so_many (accepted_in r.0 c.args.segment) c.args.documents r.3 in
    let at = (inv.told before.0 before.2).told r.0 r.1 before.1 in
    let falls = (c.in-Some.ensures.found at.4.0.asked at.0 before.0 (at.4.0.asks (c.loop-end.end - 1) (omega (arith, c.loop-end-test.true))) at.1 at.4.0.later).within in
    record {
      seen = record {
        query = c.at_most.ensures.seen.query ∙ inv.seen.query;
        k = c.at_most.ensures.seen.k ∙ inv.seen.k;
        ids = c.at_most.ensures.seen.ids ∙ inv.seen.ids;
      };
      within = omega (arith, falls, inv.within);
      buckets = c.tally_document.ensures.buckets ∙ inv.buckets;
      costs = λ was docs t same is. record {
        told = λ m st h.
            let s = c.args.segment in
            let b = (inv.told docs same).told m st h.0 in
            let u = b.4.0 in
            let may = u.asks (c.loop-end.end - 1) (omega (arith, c.loop-end-test.true)) in
            let found : IsGreatest (word t) docs (c.loop-end.end - 1) c.in-Some.document =
            subst (λ q. IsGreatest q docs (c.loop-end.end - 1) c.in-Some.document) (inv.seen.query ∙ is) (c.in-Some.ensures.found u.asked b.0 docs may b.1 u.later) in
            let low : c.in-Some.document < length docs = omega (arith, falls, inv.within, same, c.loop-end-test.true) in
            let x = (inv.costs was docs t same is).told m st h in
            let y = (c.at_most.ensures.costs s t x.4.left).told x.0 x.1 x.4.owes in
            let z = (c.tally_document.ensures.counted docs found.matches.0 found.matches.1 low).told y.0 y.1 (first_later m y.0 s docs (later_on m x.0 y.0 x.2 y.2) h.0) in
            let l = later_on x.0 y.0 z.0 y.2 z.2 in
            let more = loads_next (word t) docs (length c.args.tally.now.buckets) c.loop-end.end c.in-Some.document c.loop-end-test.true (omega (arith, inv.within, same)) found in (
              z.0,
              z.1,
              later_on m x.0 z.0 x.2 l,
              g.met.P.Port.keeps_on _ _ _ m x.0 z.0 x.3 (g.met.P.Port.keeps_on _ _ _ x.0 y.0 z.0 y.3 z.3),
              record {
                inside = inside_later x.0 z.0 s l x.4.inside;
                since = later_on was x.0 z.0 x.4.since l;
                left = y.4.0;
                owes = record { query = y.4.1.query; costs = firsts_later y.0 z.0 s t _ y.4.0 (g.met.P.Port.lawful _ y.0 y.1) z.2 y.4.1.costs };
                loads = omega (
                  arith,
                  x.4.loads,
                  y.4.2,
                  c.tally_document.ensures.loads,
                  ap (λ k. match_loads k 1) inv.buckets,
                  more,
                  word_loads_later was x.0 z.0 s t (g.met.P.Port.lawful _ x.0 x.1) (g.met.P.Port.lawful _ z.0 z.1) l x.4.inside (later_converted was x.0 s x.4.since),
                );
              },
            );
      };
      told = λ docs same. record {
        told = λ m st p.
            let x = (inv.told docs same).told m st p in
            let u = x.4.0 in
            let may = u.asks (c.loop-end.end - 1) (omega (arith, c.loop-end-test.true)) in
            let y = (c.at_most.ensures.ready u.asked docs may).told x.0 x.1 u.later in
            let found : IsGreatest (query_of c.args.frame.now) docs (c.loop-end.end - 1) c.in-Some.document =
            subst (λ q. IsGreatest q docs (c.loop-end.end - 1) c.in-Some.document) inv.seen.query (c.in-Some.ensures.found u.asked x.0 docs may x.1 u.later) in
            let low : c.in-Some.document < length docs = omega (arith, falls, inv.within, same, c.loop-end-test.true) in
            let z = (c.tally_document.ensures.counted docs found.matches.0 found.matches.1 low).told y.0 y.1 (first_later x.0 y.0 c.args.segment docs y.2 u.first) in
            let l = later_on x.0 y.0 z.0 y.2 z.2 in (
              z.0,
              z.1,
              later_on m x.0 z.0 x.2 l,
              g.met.P.Port.keeps_on _ _ _ m x.0 z.0 x.3 (g.met.P.Port.keeps_on _ _ _ x.0 y.0 z.0 y.3 z.3),
              (
                record { first = first_later x.0 z.0 c.args.segment docs l u.first; asked = y.0; later = z.2; asks = λ document h. y.4 document (omega (arith, falls, h)) },
                tally_next (query_of c.args.frame.now) docs c.args.tally.now c.loop-end.tally c.tally_document.new.tally c.loop-end.end c.in-Some.document
                    c.loop-end-test.true (omega (arith, inv.within, same)) found z.4 x.4.1,
              ),
            );
      };
    }

pub returns-clause-counted : goal.returns-clause-counted
returns-clause-counted g c = λ docs same. record {
  told = λ m st p.
      let x = (c.loop-end.invariant.told docs same).told m st p in
      (x.0, x.1, x.2, x.3, tally_all (query_of c.args.frame.now) docs c.args.tally.now c.loop-end.tally c.loop-end.end (omega (arith, c.loop-end-test.false)) x.4.1);
}

pub returns-in_default-clause-costs : goal.returns-in_default-clause-costs
returns-in_default-clause-costs g c = λ was docs t same is. record {
  told = λ m st h.
      let s = c.args.segment in
      let x = (c.loop-end.invariant.costs was docs t same is).told m st h in
      let y = (c.at_most.ensures.costs s t x.4.left).told x.0 x.1 x.4.owes in (
        y.0,
        y.1,
        later_on m x.0 y.0 x.2 y.2,
        g.met.P.Port.keeps_on _ _ _ m x.0 y.0 x.3 y.3,
        omega (
          arith,
          x.4.loads,
          y.4.2,
          loads_all (word t) docs (length c.args.tally.now.buckets) c.loop-end.end,
          word_loads_later was x.0 y.0 s t (g.met.P.Port.lawful _ x.0 x.1) (g.met.P.Port.lawful _ y.0 y.1) y.2 x.4.inside (later_converted was x.0 s x.4.since),
        ),
      );
}

pub returns-clause-costs : goal.returns-clause-costs
returns-clause-costs g c = λ was docs t same is. record {
  told = λ m st h.
      let x = (c.loop-end.invariant.costs was docs t same is).told m st h in
      (x.0, x.1, x.2, x.3, omega (arith, x.4.loads, loads_all (word t) docs (length c.args.tally.now.buckets) c.loop-end.end));
}
