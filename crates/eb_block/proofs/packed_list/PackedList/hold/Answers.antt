use Rattle.std.proofs.Common.{◌≡◌, ◌≤◌, false, ap, ◌∙◌, subst, arith}
use Rattle.eb_place.proofs.LaterMoments.{later_self}
use Rattle.eb_block.specs.Reading.{ListStands}
use Rattle.eb_block.proofs.packed_list.PackedList.hold.Goals as goal

pub returns-then-self-clause-told : goal.returns-then-self-clause-told
returns-then-self-clause-told g c = λ s t rest b. record { told = λ m st h. (m, st, later_self m, g.met.P.Port.keeps_itself c.args.port.now m st, (b, h, omega arith, c.if-self.true)) }

pub returns-then-self-gt0 : goal.returns-then-self-gt0
returns-then-self-gt0 g c = record {
  one = c.step.ensures.one;
  told = λ s t rest b. record {
    told = λ m st h.
        (let n = (c.step.ensures.told s t rest b).told m st h in
        (n.0, n.1, n.2, n.3, (n.4.0, n.4.1, omega (arith, n.4.2), c.step.ensures.held)));
  };
}

pub enter-requires-clause-reads : goal.enter-requires-clause-reads
enter-requires-clause-reads g c =
    let r = c.requires in
    let n = (c.peek.ensures.told r.1 r.2 r.3 r.4).told r.0 r.5 r.6 in
    (n.0, r.1, r.2, r.3, n.4.0, n.4.1)

pub returns : goal.returns
returns g c = record {
  one = c.peek.ensures.one;
  told = λ s t rest b. record {
    told = λ m st h.
        (let n = (c.peek.ensures.told s t rest b).told m st h in
        let k = c.enter.ensures.told n.0 s t rest n.4.0 n.4.1 in
        let p = c.peek.new.self in
        let same = c.peek.ensures.same in
        let free : p.held ≡ false = ap (λ q. q.held) same ∙ c.if-self.false in
        let z : p.inside ≡ 0 = ap (λ q. q.inside) same ∙ (let low = c.if-self-gt0.false in omega arith) in
        let e : k.0 ≡ rest = k.4.same free z in
        let low : k.1 ≤ n.4.0 = k.3 in
        (n.0, n.1, n.2, n.3, (k.1, subst (λ zs. ListStands n.0 s t c.enter.new.self zs k.1) e k.2, omega (arith, n.4.2, low), c.enter.ensures.held)));
  };
}
