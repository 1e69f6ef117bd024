use Rattle.std.proofs.Common.{◌≢◌, ◌≤◌, length, arith, ◌∙◌, sym, subst, refl}
use Rattle.eb_cursor.specs.Lists.{gives}
use Rattle.eb_cursor.specs.Posted.{has_places}
use Rattle.eb_cursor.specs.Ready.{AllLeaves}
use Rattle.eb_cursor.proofs.Tops.{top_le}
use Rattle.eb_cursor.proofs.Readies.{leaves_lower}
use Rattle.eb_cursor.proofs.Phrases.{start_round_of, leaves_at, leaves_of}
use Rattle.eb_cursor.proofs.Tellings.{told_itself, told_on}
use Rattle.eb_cursor.proofs.phrase.starts_below.Goals as goal

pub loop-place-init : goal.loop-place-init
loop-place-init g c = record {
  falls = omega arith;
  loads = omega arith;
  found = λ docs ts last h. told_itself g.met.P.Port.keeps_itself (λ m r. (refl, leaves_lower (gives m) docs ts c.args.cursors.now c.args.end last h r));
}

pub terms_below-found-requires-clause-small : goal.terms_below-found-requires-clause-small
terms_below-found-requires-clause-small g c =
    omega (arith, c.room_below-room.ensures, top_le (has_places (length c.args.cursors.now)) c.loop-place.place, c.loop-place.invariant.falls, c.loop-place.auto.cursors)

pub terms_below-found-requires-clause-ready : goal.terms_below-found-requires-clause-ready
terms_below-found-requires-clause-ready g c = let r = c.requires.ready in
    let i = (c.loop-place.invariant.found r.1 r.2 r.3 r.5).told r.0 r.4 (leaves_of (gives r.0) r.1 r.2 c.args.cursors.now r.3 r.6) in (
      i.0,
      r.1,
      r.2,
      c.loop-place.place,
      i.1,
      omega (arith, c.room_below-room.ensures, top_le (has_places (length c.args.cursors.now)) c.loop-place.place),
      leaves_at (gives i.0) r.1 r.2 c.loop-place.cursors c.loop-place.place i.4.1,
    )

pub returns-then-found-place-clause-found : goal.returns-then-found-place-clause-found
returns-then-found-place-clause-found g c = λ docs ts last h.
    let under : c.room_below-room.result ≤ c.loop-place.place = omega (arith, c.room_below-room.ensures, top_le (has_places (length c.args.cursors.now)) c.loop-place.place) in
    told_on g.met.P.Port.lawful g.met.P.Port.keeps_on (c.loop-place.invariant.found docs ts last h) (c.terms_below-found.ensures.found docs ts c.loop-place.place under)
    (λ l r. r) (λ l m w r i. leaves_at (gives m) docs ts c.loop-place.cursors c.loop-place.place i.1)
    (λ l m n w1 w2 r i run.
    let v = start_round_of (gives m) (gives n) docs ts c.loop-place.cursors c.terms_below-found.new.cursors
    (length c.args.cursors.now) c.loop-place.place c.room_below-room.result c.terms_below-found.result c.loop-place.place (sym c.loop-place.auto.cursors) c.room_below-room.ensures i.1 run in
    (sym (i.0 ∙ v.2 c.if-found-place.true), subst (λ y. AllLeaves (gives n) docs ts c.terms_below-found.new.cursors y) c.if-found-place.true v.3))

pub loop-place-smaller : goal.loop-place-smaller
loop-place-smaller g c =
    let r = c.requires.ready in
    let under : c.room_below-room.result ≤ c.loop-place.place = omega (arith, c.room_below-room.ensures, top_le (has_places (length c.args.cursors.now)) c.loop-place.place) in
    let i = (c.loop-place.invariant.found r.1 r.2 r.3 r.5).told r.0 r.4 (leaves_of (gives r.0) r.1 r.2 c.args.cursors.now r.3 r.6) in
    let x = (c.terms_below-found.ensures.found r.1 r.2 c.loop-place.place under).told i.0 i.1 (leaves_at (gives i.0) r.1 r.2 c.loop-place.cursors c.loop-place.place i.4.1) in
    let w = start_round_of (gives i.0) (gives x.0) r.1 r.2 c.loop-place.cursors c.terms_below-found.new.cursors
    (length c.args.cursors.now) c.loop-place.place c.room_below-room.result c.terms_below-found.result c.loop-place.place (sym c.loop-place.auto.cursors) c.room_below-room.ensures i.4.1 x.4 in
    let le : c.terms_below-found.result ≤ c.loop-place.place = w.0 in
    let ne : c.terms_below-found.result ≢ c.loop-place.place = c.if-found-place.false in
    omega arith

pub loop-place-preserved : goal.loop-place-preserved
loop-place-preserved g c =
    let under : c.room_below-room.result ≤ c.loop-place.place = omega (arith, c.room_below-room.ensures, top_le (has_places (length c.args.cursors.now)) c.loop-place.place) in
    let r = c.requires.ready in
    let i = (c.loop-place.invariant.found r.1 r.2 r.3 r.5).told r.0 r.4 (leaves_of (gives r.0) r.1 r.2 c.args.cursors.now r.3 r.6) in
    let x = (c.terms_below-found.ensures.found r.1 r.2 c.loop-place.place under).told i.0 i.1 (leaves_at (gives i.0) r.1 r.2 c.loop-place.cursors c.loop-place.place i.4.1) in
    record {
      falls = omega (arith, x.4.falls, c.loop-place.invariant.falls);
      loads = omega (arith, c.terms_below-found.ensures.loads, c.loop-place.invariant.loads);
      found = λ docs ts last h. told_on g.met.P.Port.lawful g.met.P.Port.keeps_on (c.loop-place.invariant.found docs ts last h) (c.terms_below-found.ensures.found docs ts c.loop-place.place under)
          (λ l r. r) (λ l m w r i. leaves_at (gives m) docs ts c.loop-place.cursors c.loop-place.place i.1)
          (λ l m n w1 w2 r i run.
          let v = start_round_of (gives m) (gives n) docs ts c.loop-place.cursors c.terms_below-found.new.cursors (length c.args.cursors.now)
          c.loop-place.place c.room_below-room.result c.terms_below-found.result c.loop-place.place (sym c.loop-place.auto.cursors) c.room_below-room.ensures i.1 run in
          (i.0 ∙ v.1, v.3));
    }
