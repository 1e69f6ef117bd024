use Rattle.std.proofs.Common.{◌≤◌, false, leb, refl, ap, sym, ◌∙◌, subst, arith}
use Rattle.eb_place.proofs.LaterMoments.{later_self, later_on}
use Rattle.eb_place.specs.Postings.{at_most}
use Rattle.eb_block.specs.Reading.{ListStands, remaining}
use Rattle.eb_block.proofs.Copies.{same_block}
use Rattle.eb_block.proofs.Standing.{drop_held, at_end, stopped, stopped_fewer}
use Rattle.eb_block.proofs.packed_list.PackedList.seek_inside.Goals as goal

pub returns-then-self-eq0-clause-told : goal.returns-then-self-eq0-clause-told
returns-then-self-eq0-clause-told g c = λ s t rest b. record {
  told = λ m st h.
      (let p = c.args.self.now in
      let d = drop_held m s t p rest b c.args.most h (λ held. c.requires.above) in
      let end = at_end m s t p record p { held = false } d.0 b c.args.most d.1 refl c.if-self-eq0.true refl refl (λ held. c.requires.above) c.requires.near in
      (m, st, later_self m, g.met.P.Port.keeps_itself c.args.port.now m st, (b, subst (λ zs. ListStands m s t record p { held = false } zs b) (sym end ∙ d.2) d.1, omega arith)));
}

pub above-init : goal.above-init
above-init g c = (
  omega (arith, c.if-self-eq0.false),
  c.requires.above,
  refl,
  refl,
  omega arith,
  omega arith,
  λ s t rest b. record { told = λ m st h. (m, st, later_self m, g.met.P.Port.keeps_itself _ m st, (rest, b, h, omega arith, refl)) },
)

pub pass_above-requires-clause-reads : goal.pass_above-requires-clause-reads
pass_above-requires-clause-reads g c =
    let r = c.requires.reads in
    let n = (c.above.invariant.6 r.1 r.2 r.3 r.4).told r.0 r.5 r.6 in
    (n.0, r.1, r.2, n.4.0, n.4.1, n.1, n.4.2)

pub above-preserved : goal.above-preserved
above-preserved g c =
    let e = c.pass_above.ensures in
    let i = c.above.invariant in
    let on = e.goes c.above-test.true in (
      on.0,
      on.1,
      same_block c.args.self.now c.above.list c.pass_above.new.self i.2 e.same,
      omega (arith, e.loads, i.3),
      omega (arith, e.one, e.less, i.4),
      omega (arith, e.less, i.5),
      λ s t rest b. record {
        told = λ m st h.
            (let n = (i.6 s t rest b).told m st h in
            let k = (e.told s t n.4.0 n.4.1).told n.0 n.1 n.4.2 in
            (k.0, k.1, later_on m n.0 k.0 n.2 k.2, g.met.P.Port.keeps_on _ _ _ m n.0 k.0 n.3 k.3, (k.4.0, k.4.1, k.4.2, omega (arith, n.4.3, k.4.3), k.4.4 ∙ n.4.4)));
      },
    )

pub returns : goal.returns
returns g c =
    let e = c.pass_above.ensures in
    let i = c.above.invariant in
    let p = c.args.self.now in
    let q = c.pass_above.new.self in
    let same = same_block p c.above.list q i.2 e.same in
    let left = ap (λ z. z.left) same in
    record {
      next = refl;
      loads = omega (arith, e.loads, i.3);
      fewer = subst (λ z. remaining record z { held = leb q.last c.args.most } ≤ remaining p) same (stopped_fewer p q (leb q.last c.args.most) (omega (arith, e.less, i.5)) left);
      few = omega (arith, e.one, e.less, i.4);
      told = λ s t rest b. record {
        told = λ m st h.
            (let n = (i.6 s t rest b).told m st h in
            let k = (e.told s t n.4.0 n.4.1).told n.0 n.1 n.4.2 in
            let done = stopped k.0 s t p q rest k.4.0 k.4.1 c.args.most k.4.2 (k.4.4 ∙ n.4.4) e.held (e.ends c.above-test.false) left (ap (λ z. z.header) same) c.requires.above c.requires.near in (
              k.0,
              k.1,
              later_on m n.0 k.0 n.2 k.2,
              g.met.P.Port.keeps_on c.args.port.now c.above.port c.pass_above.new.port m n.0 k.0 n.3 k.3,
              (
                k.4.1,
                subst (λ z. ListStands k.0 s t record z { held = leb q.last c.args.most } (at_most c.args.most rest) k.4.1) same done,
                omega (arith, n.4.3, k.4.3),
              ),
            ));
      };
    }
