use Rattle.std.proofs.Common.{◌≤◌, refl, ap, sym, ◌∙◌, arith}
use Rattle.eb_place.specs.Packed.{packed}
use Rattle.eb_place.specs.Seen.{segment}
use Rattle.eb_place.proofs.LaterMoments.{later_self}
use Rattle.eb_block.specs.Reading.{packed_start}
use Rattle.eb_block.proofs.Loads.{loaded_some}
use Rattle.eb_block.proofs.Reading.{can_enter}
use Rattle.eb_block.proofs.packed_list.PackedList.pass_like.Goals as goal

pub returns-then-self-le128-clause-told : goal.returns-then-self-le128-clause-told
returns-then-self-le128-clause-told g c = λ s t rest b. record { told = λ m st h. (m, st, later_self m, g.met.P.Port.keeps_itself c.args.port.now m st, (rest, b, h, omega arith, refl)) }

pub posting_in-requires : goal.posting_in-requires
posting_in-requires g c =
    let r = c.requires in
    let n = (c.peek.ensures.told r.1 r.2 r.3 r.4).told r.0 r.5 r.6 in
    (can_enter (packed r.2 (segment n.0 r.1)) (packed_start n.0 r.1 n.4.1.number) c.peek.new.self r.3 n.4.0 n.4.1.reads c.peek.ensures.loaded).small

pub returns-then-posting_in-most-clause-told : goal.returns-then-posting_in-most-clause-told
returns-then-posting_in-most-clause-told g c = λ s t rest b. record {
  told = λ m st h.
      (let n = (c.peek.ensures.told s t rest b).told m st h in
      (n.0, n.1, n.2, n.3, (rest, n.4.0, n.4.1, omega (arith, n.4.2), refl)));
}

pub returns-then-posting_in-most-clause-waits : goal.returns-then-posting_in-most-clause-waits
returns-then-posting_in-most-clause-waits g c = λ no. omega (arith, c.peek.ensures.paid, loaded_some c.peek.new.self.header c.peek.ensures.loaded)

pub returns-then-width_in-self-clause-told : goal.returns-then-width_in-self-clause-told
returns-then-width_in-self-clause-told g c = λ s t rest b. record {
  told = λ m st h.
      (let n = (c.peek.ensures.told s t rest b).told m st h in
      (n.0, n.1, n.2, n.3, (rest, n.4.0, n.4.1, omega (arith, n.4.2), refl)));
}

pub returns-then-width_in-self-clause-waits : goal.returns-then-width_in-self-clause-waits
returns-then-width_in-self-clause-waits g c = λ no. omega (arith, c.peek.ensures.paid, loaded_some c.peek.new.self.header c.peek.ensures.loaded)

pub enter_like-requires-clause-reads : goal.enter_like-requires-clause-reads
enter_like-requires-clause-reads g c =
    let r = c.requires in
    let n = (c.peek.ensures.told r.1 r.2 r.3 r.4).told r.0 r.5 r.6 in
    (n.0, r.1, r.2, r.3, n.4.0, n.4.1)

pub enter_like-requires-clause-many : goal.enter_like-requires-clause-many
enter_like-requires-clause-many g c = omega (arith, ap (λ q. q.left) c.peek.ensures.same, c.if-self-le128.false)

pub enter_like-requires-clause-alike : goal.enter_like-requires-clause-alike
enter_like-requires-clause-alike g c = sym c.width_in.ensures ∙ c.if-width_in-self.false

pub returns-clause-less : goal.returns-clause-less
returns-clause-less g c = λ yes. omega (arith, c.enter_like.ensures.less, ap (λ q. q.left) c.peek.ensures.same)

pub returns-clause-told : goal.returns-clause-told
returns-clause-told g c = λ s t rest b. record {
  told = λ m st h.
      (let n = (c.peek.ensures.told s t rest b).told m st h in
      let k = c.enter_like.ensures.told n.0 s t rest n.4.0 n.4.1 in
      let low : k.1 ≤ n.4.0 = k.3 in
      (n.0, n.1, n.2, n.3, (k.0, k.1, k.2, omega (arith, n.4.2, low), k.4.skips c.args.most (omega (arith, c.posting_in.ensures, c.if-posting_in-most.false)))));
}
