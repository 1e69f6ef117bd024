use Rattle.std.proofs.Common.{Bool, sym, ◌∙◌, refl, subst, arith}
use Rattle.eb_place.proofs.LaterMoments.{later_on}
use Rattle.eb_place.specs.Postings.{at_most}
use Rattle.eb_block.specs.Reading.{ListStands}
use Rattle.eb_block.proofs.Loads.{seek_few, seek_near}
use Rattle.eb_block.proofs.Standing.{at_low, gives_some}
use Rattle.eb_block.proofs.packed_list.PackedList.next_at_most.Goals as goal

pub give-requires : goal.give-requires
give-requires g c =
    let r = c.requires in
    let n = (c.seek_near.ensures.told r.1 r.2 r.3 r.4).told r.0 r.5 r.6 in
    (n.0, r.1, r.2, n.4.0, n.4.1, n.1, n.4.2)

pub returns-then-self-most : goal.returns-then-self-most
returns-then-self-most g c = record {
  loads = λ m s t rest b st h.
      (let n = (c.seek_near.ensures.told s t rest b).told m st h in
      let q = c.seek_near.new.self in
      let low = at_low n.0 s t q n.4.0 n.4.1 c.args.most n.4.2 c.if-self-most.true c.seek_near.ensures.near in
      let end = subst (λ zs. ListStands n.0 s t q zs n.4.1) (sym low ∙ n.4.4) n.4.2 in
      let few = seek_few m n.0 n.0 s t c.args.self.now q q rest n.4.0 c.args.most b n.4.1 n.4.1 c.args.steps.now c.seek_near.new.steps c.seek_near.new.steps
      h n.4.2 end c.seek_near.ensures.loads refl refl (omega arith) in
      omega (arith, few, c.give.ensures.one));
  few = λ m s t rest b st h.
      (let n = (c.seek_near.ensures.told s t rest b).told m st h in
      let q = c.seek_near.new.self in
      let low = at_low n.0 s t q n.4.0 n.4.1 c.args.most n.4.2 c.if-self-most.true c.seek_near.ensures.near in
      let end = subst (λ zs. ListStands n.0 s t q zs n.4.1) (sym low ∙ n.4.4) n.4.2 in
      let few = seek_near m n.0 s t c.args.self.now q q rest c.args.most b n.4.1 c.args.steps.now c.seek_near.new.steps c.seek_near.new.steps
      h end c.seek_near.ensures.loads c.seek_near.ensures.fewer (omega arith) (omega arith) in
      omega (arith, few, c.give.ensures.one));
  told = λ s t rest b. record {
    told = λ m st h.
        (let n = (c.seek_near.ensures.told s t rest b).told m st h in
        let q = c.seek_near.new.self in
        let low = at_low n.0 s t q n.4.0 n.4.1 c.args.most n.4.2 c.if-self-most.true c.seek_near.ensures.near in
        let end = subst (λ zs. ListStands n.0 s t q zs n.4.1) (sym low ∙ n.4.4) n.4.2 in
        let k = (c.give.ensures.told s t (at_most c.args.most rest) n.4.1).told n.0 n.1 end in
        (k.0, k.1, later_on m n.0 k.0 n.2 k.2, g.met.P.Port.keeps_on _ _ _ m n.0 k.0 n.3 k.3, (k.4.0, k.4.1, omega (arith, n.4.3, k.4.2))));
  };
}

pub seek_inside-found-requires-clause-reads : goal.seek_inside-found-requires-clause-reads
seek_inside-found-requires-clause-reads g c =
    let r = c.requires in
    let n = (c.seek_near.ensures.told r.1 r.2 r.3 r.4).told r.0 r.5 r.6 in
    (n.0, r.1, r.2, n.4.0, n.4.1, n.1, n.4.2)

pub returns-then-found : goal.returns-then-found
returns-then-found g c = record {
  loads = λ m s t rest b st h.
      (let n = (c.seek_near.ensures.told s t rest b).told m st h in
      let k = (c.seek_inside-found.ensures.told s t n.4.0 n.4.1).told n.0 n.1 n.4.2 in
      let q = record c.seek_inside-found.new.self { held = c.seek_inside-found.result } in
      let end = subst (λ zs. ListStands k.0 s t q zs k.4.0) n.4.4 k.4.1 in
      let few = seek_few m n.0 k.0 s t c.args.self.now c.seek_near.new.self q rest n.4.0 c.args.most b n.4.1 k.4.0 c.args.steps.now c.seek_near.new.steps c.seek_inside-found.new.steps
      h n.4.2 end c.seek_near.ensures.loads c.seek_inside-found.ensures.next c.seek_inside-found.ensures.loads c.seek_inside-found.ensures.fewer in
      omega (arith, few));
  few = λ m s t rest b st h.
      (let n = (c.seek_near.ensures.told s t rest b).told m st h in
      let k = (c.seek_inside-found.ensures.told s t n.4.0 n.4.1).told n.0 n.1 n.4.2 in
      let q = record c.seek_inside-found.new.self { held = c.seek_inside-found.result } in
      let end = subst (λ zs. ListStands k.0 s t q zs k.4.0) n.4.4 k.4.1 in
      let few = seek_near m k.0 s t c.args.self.now c.seek_near.new.self q rest c.args.most b k.4.0 c.args.steps.now c.seek_near.new.steps c.seek_inside-found.new.steps
      h end c.seek_near.ensures.loads c.seek_near.ensures.fewer c.seek_inside-found.ensures.few c.seek_inside-found.ensures.fewer in
      omega (arith, few));
  told = λ s t rest b. record {
    told = λ m st h.
        (let n = (c.seek_near.ensures.told s t rest b).told m st h in
        let k = (c.seek_inside-found.ensures.told s t n.4.0 n.4.1).told n.0 n.1 n.4.2 in
        let q = record c.seek_inside-found.new.self { held = c.seek_inside-found.result } in
        let end = subst (λ zs. ListStands k.0 s t q zs k.4.0) n.4.4 k.4.1 in
        let gives = gives_some k.0 s t q (at_most c.args.most rest) k.4.0 end c.if-found.true in
        (k.0, k.1, later_on m n.0 k.0 n.2 k.2, g.met.P.Port.keeps_on _ _ _ m n.0 k.0 n.3 k.3, (k.4.0, gives, omega (arith, n.4.3, k.4.2))));
  };
}

pub give-requires-2 : goal.give-requires-2
give-requires-2 g c =
    let r = c.requires in
    let n = (c.seek_near.ensures.told r.1 r.2 r.3 r.4).told r.0 r.5 r.6 in
    let k = (c.seek_inside-found.ensures.told r.1 r.2 n.4.0 n.4.1).told n.0 n.1 n.4.2 in (
      k.0,
      r.1,
      r.2,
      at_most c.args.most n.4.0,
      k.4.0,
      k.1,
      subst (λ (x : Bool). ListStands k.0 r.1 r.2 record c.seek_inside-found.new.self { held = x } (at_most c.args.most n.4.0) k.4.0) c.if-found.false k.4.1,
    )

pub returns : goal.returns
returns g c = record {
  loads = λ m s t rest b st h.
      (let n = (c.seek_near.ensures.told s t rest b).told m st h in
      let k = (c.seek_inside-found.ensures.told s t n.4.0 n.4.1).told n.0 n.1 n.4.2 in
      let q = record c.seek_inside-found.new.self { held = c.seek_inside-found.result } in
      let end = subst (λ zs. ListStands k.0 s t q zs k.4.0) n.4.4 k.4.1 in
      let few = seek_few m n.0 k.0 s t c.args.self.now c.seek_near.new.self q rest n.4.0 c.args.most b n.4.1 k.4.0 c.args.steps.now c.seek_near.new.steps c.seek_inside-found.new.steps
      h n.4.2 end c.seek_near.ensures.loads c.seek_inside-found.ensures.next c.seek_inside-found.ensures.loads c.seek_inside-found.ensures.fewer in
      omega (arith, few, c.give-2.ensures.one));
  few = λ m s t rest b st h.
      (let n = (c.seek_near.ensures.told s t rest b).told m st h in
      let k = (c.seek_inside-found.ensures.told s t n.4.0 n.4.1).told n.0 n.1 n.4.2 in
      let q = record c.seek_inside-found.new.self { held = c.seek_inside-found.result } in
      let end = subst (λ zs. ListStands k.0 s t q zs k.4.0) n.4.4 k.4.1 in
      let few = seek_near m k.0 s t c.args.self.now c.seek_near.new.self q rest c.args.most b k.4.0 c.args.steps.now c.seek_near.new.steps c.seek_inside-found.new.steps
      h end c.seek_near.ensures.loads c.seek_near.ensures.fewer c.seek_inside-found.ensures.few c.seek_inside-found.ensures.fewer in
      omega (arith, few, c.give-2.ensures.one));
  told = λ s t rest b. record {
    told = λ m st h.
        (let n = (c.seek_near.ensures.told s t rest b).told m st h in
        let k = (c.seek_inside-found.ensures.told s t n.4.0 n.4.1).told n.0 n.1 n.4.2 in
        let q = record c.seek_inside-found.new.self { held = c.seek_inside-found.result } in
        let end = subst (λ zs. ListStands k.0 s t q zs k.4.0) n.4.4 k.4.1 in
        let free = subst (λ (x : Bool). ListStands k.0 s t record c.seek_inside-found.new.self { held = x } (at_most c.args.most rest) k.4.0) c.if-found.false end in
        let v = (c.give-2.ensures.told s t (at_most c.args.most rest) k.4.0).told k.0 k.1 free in (
          v.0,
          v.1,
          later_on m k.0 v.0 (later_on m n.0 k.0 n.2 k.2) v.2,
          g.met.P.Port.keeps_on _ _ _ m k.0 v.0 (g.met.P.Port.keeps_on _ _ _ m n.0 k.0 n.3 k.3) v.3,
          (v.4.0, v.4.1, omega (arith, n.4.3, k.4.2, v.4.2)),
        ));
  };
}
