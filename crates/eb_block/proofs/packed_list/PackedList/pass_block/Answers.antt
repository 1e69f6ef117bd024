use Rattle.std.proofs.Common.{◌≡◌, ◌≤◌, ◌<◌, ◌∙◌, true, refl, ap, subst, arith, inr}
use Rattle.std.specs.Bool.{MatchBool}
use Rattle.eb_place.specs.Packed.{packed}
use Rattle.eb_place.specs.Seen.{segment}
use Rattle.eb_place.proofs.LaterMoments.{later_on, later_self}
use Rattle.eb_block.specs.Reading.{packed_start}
use Rattle.eb_block.proofs.Loads.{loaded_some, remaining_held}
use Rattle.eb_block.proofs.Reading.{can_enter}
use Rattle.eb_block.proofs.packed_list.PackedList.pass_block.Goals as goal

pub returns-then-self-eq0-clause-told : goal.returns-then-self-eq0-clause-told
returns-then-self-eq0-clause-told g c = λ s t rest b. record { told = λ m st h. (m, st, later_self m, g.met.P.Port.keeps_itself c.args.port.now m st, (rest, b, h, omega arith, refl)) }

pub returns-then-is_at-clause-near : goal.returns-then-is_at-clause-near
returns-then-is_at-clause-near g c z =
    let p = c.args.self.now in
    inr (inr (subst (λ z. MatchBool z ((p.held ≡ true) × (p.last ≤ c.args.most)) (p.held ≡ true → c.args.most < p.last)) c.if-is_at.true c.is_at.ensures))

pub returns-then-is_at-clause-told : goal.returns-then-is_at-clause-told
returns-then-is_at-clause-told g c = λ s t rest b. record { told = λ m st h. (m, st, later_self m, g.met.P.Port.keeps_itself c.args.port.now m st, (rest, b, h, omega arith, refl)) }

pub posting_in-requires : goal.posting_in-requires
posting_in-requires g c =
    let r = c.requires in
    let n = (c.peek.ensures.told r.1 r.2 r.3 r.4).told r.0 r.5 r.6 in
    (can_enter (packed r.2 (segment n.0 r.1)) (packed_start n.0 r.1 n.4.1.number) c.peek.new.self r.3 n.4.0 n.4.1.reads c.peek.ensures.loaded).small

pub returns-then-posting_in-most-clause-told : goal.returns-then-posting_in-most-clause-told
returns-then-posting_in-most-clause-told g c = λ s t rest b. record {
  told = λ m st h.
      (let n = (c.peek.ensures.told s t rest b).told m st h in
      (n.0, n.1, n.2, n.3, (rest, n.4.0, n.4.1, omega (arith, n.4.2), refl)));
}

pub enter-requires-clause-reads : goal.enter-requires-clause-reads
enter-requires-clause-reads g c =
    let r = c.requires in
    let n = (c.peek.ensures.told r.1 r.2 r.3 r.4).told r.0 r.5 r.6 in
    (n.0, r.1, r.2, r.3, n.4.0, n.4.1)

pub returns-then-posting_in-most-clause-stays : goal.returns-then-posting_in-most-clause-stays
returns-then-posting_in-most-clause-stays g c = λ no. omega (arith, c.peek.ensures.paid, loaded_some c.peek.new.self.header c.peek.ensures.loaded)

pub pass_alike-requires-clause-reads : goal.pass_alike-requires-clause-reads
pass_alike-requires-clause-reads g c =
    let r = c.requires in
    let n = (c.peek.ensures.told r.1 r.2 r.3 r.4).told r.0 r.5 r.6 in
    let k = c.enter.ensures.told n.0 r.1 r.2 r.3 n.4.0 n.4.1 in
    (n.0, r.1, r.2, k.0, k.1, n.1, k.2)

pub returns-clause-less : goal.returns-clause-less
returns-clause-less g c = λ yes. omega (arith, c.pass_alike.ensures.less, c.enter.ensures.less, ap (λ q. q.left) c.peek.ensures.same)

pub returns-clause-fewer : goal.returns-clause-fewer
returns-clause-fewer g c = λ yes. omega (
  arith,
  c.pass_alike.ensures.fewer,
  remaining_held c.enter.new.self c.enter.ensures.held,
  c.enter.ensures.count,
  ap (λ q. q.left) c.peek.ensures.same,
)

pub returns-clause-goes : goal.returns-clause-goes
returns-clause-goes g c = λ yes. omega (
  arith,
  c.pass_alike.ensures.loads,
  remaining_held c.enter.new.self c.enter.ensures.held,
  c.enter.ensures.count,
  c.peek.ensures.paid,
  ap (λ q. q.left) c.peek.ensures.same,
)

pub returns-clause-whole : goal.returns-clause-whole
returns-clause-whole g c = λ yes some. omega (
  arith,
  c.pass_alike.ensures.whole some,
  c.pass_alike.ensures.less,
  c.enter.ensures.full (omega (arith, c.pass_alike.ensures.less, some)),
  c.enter.ensures.count,
  c.peek.ensures.paid,
  ap (λ q. q.left) c.peek.ensures.same,
)

pub returns-clause-told : goal.returns-clause-told
returns-clause-told g c = λ s t rest b. record {
  told = λ m st h.
      (let n = (c.peek.ensures.told s t rest b).told m st h in
      let k = c.enter.ensures.told n.0 s t rest n.4.0 n.4.1 in
      let low : k.1 ≤ n.4.0 = k.3 in
      let v = (c.pass_alike.ensures.told s t k.0 k.1).told n.0 n.1 k.2 in (
        v.0,
        v.1,
        later_on m n.0 v.0 n.2 v.2,
        g.met.P.Port.keeps_on _ _ _ m n.0 v.0 n.3 v.3,
        (v.4.0, v.4.1, v.4.2, omega (arith, n.4.2, low, v.4.3), v.4.4 ∙ k.4.skips c.args.most (omega (arith, c.posting_in.ensures, c.if-posting_in-most.false))),
      ));
}
