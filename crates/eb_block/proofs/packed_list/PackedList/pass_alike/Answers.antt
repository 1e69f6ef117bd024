use Rattle.std.proofs.Common.{refl, ap, ◌∙◌, arith}
use Rattle.eb_place.proofs.LaterMoments.{later_self, later_on}
use Rattle.eb_block.specs.Reading.{remaining}
use Rattle.eb_block.proofs.Loads.{remaining_held}
use Rattle.eb_block.proofs.packed_list.PackedList.pass_alike.Goals as goal

pub alike-init : goal.alike-init
alike-init g c = (
  c.requires.held,
  c.requires.full,
  omega arith,
  omega arith,
  λ some. omega arith,
  omega arith,
  λ s t rest b. record { told = λ m st h. (m, st, later_self m, g.met.P.Port.keeps_itself _ m st, (rest, b, h, omega arith, refl)) },
)

pub pass_like-requires : goal.pass_like-requires
pass_like-requires g c =
    let r = c.requires.reads in
    let n = (c.alike.invariant.6 r.1 r.2 r.3 r.4).told r.0 r.5 r.6 in
    (n.0, r.1, r.2, n.4.0, n.4.1, n.1, n.4.2)

pub alike-preserved : goal.alike-preserved
alike-preserved g c =
    let e = c.pass_like.ensures in
    let yes = c.alike-test.true in
    let i = c.alike.invariant in
    let was = remaining_held c.alike.self i.0 in
    let now = remaining_held c.pass_like.new.self (e.held yes) in
    let less = e.less yes in
    let full = e.full yes in
    let goes = e.goes yes in
    let before = i.1 (omega (arith, less)) in (
      e.held yes,
      λ some. full,
      omega (arith, less, i.2),
      omega (arith, i.3, was, now, less, full, goes, before),
      λ some. omega (arith, i.4 (omega (arith, less)), less, goes),
      omega (arith, i.5, was, now, less, full, before),
      λ s t rest b. record {
        told = λ m st h.
            (let n = (i.6 s t rest b).told m st h in
            let k = (e.told s t n.4.0 n.4.1).told n.0 n.1 n.4.2 in
            (k.0, k.1, later_on m n.0 k.0 n.2 k.2, g.met.P.Port.keeps_on _ _ _ m n.0 k.0 n.3 k.3, (k.4.0, k.4.1, k.4.2, omega (arith, n.4.3, k.4.3), k.4.4 ∙ n.4.4)));
      },
    )

pub alike-smaller : goal.alike-smaller
alike-smaller g c = omega (arith, c.pass_like.ensures.less c.alike-test.true)

pub returns : goal.returns
returns g c =
    let e = c.pass_like.ensures in
    let no = c.alike-test.false in
    let i = c.alike.invariant in
    let left = ap (λ q. q.left) (e.stays no) in
    let all = ap (λ q. remaining q) (e.stays no) in
    let waits = e.waits no in
    record {
      less = omega (arith, left, i.2);
      fewer = omega (arith, all, i.5);
      loads = omega (arith, all, i.3, waits);
      whole = λ some. omega (arith, left, i.4 (omega (arith, left, some)), waits);
      told = λ s t rest b. record {
        told = λ m st h.
            (let n = (i.6 s t rest b).told m st h in
            let k = (e.told s t n.4.0 n.4.1).told n.0 n.1 n.4.2 in
            (k.0, k.1, later_on m n.0 k.0 n.2 k.2, g.met.P.Port.keeps_on _ _ _ m n.0 k.0 n.3 k.3, (k.4.0, k.4.1, k.4.2, omega (arith, n.4.3, k.4.3), k.4.4 ∙ n.4.4)));
      };
    }
