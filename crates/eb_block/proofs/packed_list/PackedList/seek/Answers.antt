use Rattle.std.proofs.Common.{sym, ◌∙◌, refl, subst, arith}
use Rattle.eb_place.proofs.LaterMoments.{later_on}
use Rattle.eb_block.specs.Reading.{ListStands}
use Rattle.eb_block.proofs.Loads.{seek_few, seek_near}
use Rattle.eb_block.proofs.Standing.{at_low}
use Rattle.eb_block.proofs.packed_list.PackedList.seek.Goals as goal

pub seek_inside-self-requires-clause-reads : goal.seek_inside-self-requires-clause-reads
seek_inside-self-requires-clause-reads g c =
    let r = c.requires in
    let n = (c.seek_near.ensures.told r.1 r.2 r.3 r.4).told r.0 r.5 r.6 in
    (n.0, r.1, r.2, n.4.0, n.4.1, n.1, n.4.2)

pub returns-then-self-most : goal.returns-then-self-most
returns-then-self-most g c = record {
  loads = λ m s t rest b st h.
      (let n = (c.seek_near.ensures.told s t rest b).told m st h in
      let k = (c.seek_inside-self.ensures.told s t n.4.0 n.4.1).told n.0 n.1 n.4.2 in
      let q = record c.seek_inside-self.new.self { held = c.seek_inside-self.result } in
      let end = subst (λ zs. ListStands k.0 s t q zs k.4.0) n.4.4 k.4.1 in
      seek_few m n.0 k.0 s t c.args.self.now c.seek_near.new.self q rest n.4.0 c.args.most b n.4.1 k.4.0 c.args.steps.now c.seek_near.new.steps c.seek_inside-self.new.steps
      h n.4.2 end c.seek_near.ensures.loads c.seek_inside-self.ensures.next c.seek_inside-self.ensures.loads c.seek_inside-self.ensures.fewer);
  few = λ m s t rest b st h.
      (let n = (c.seek_near.ensures.told s t rest b).told m st h in
      let k = (c.seek_inside-self.ensures.told s t n.4.0 n.4.1).told n.0 n.1 n.4.2 in
      let q = record c.seek_inside-self.new.self { held = c.seek_inside-self.result } in
      let end = subst (λ zs. ListStands k.0 s t q zs k.4.0) n.4.4 k.4.1 in
      seek_near m k.0 s t c.args.self.now c.seek_near.new.self q rest c.args.most b k.4.0 c.args.steps.now c.seek_near.new.steps c.seek_inside-self.new.steps
      h end c.seek_near.ensures.loads c.seek_near.ensures.fewer c.seek_inside-self.ensures.few c.seek_inside-self.ensures.fewer);
  told = λ s t rest b. record {
    told = λ m st h.
        (let n = (c.seek_near.ensures.told s t rest b).told m st h in
        let k = (c.seek_inside-self.ensures.told s t n.4.0 n.4.1).told n.0 n.1 n.4.2 in
        let q = record c.seek_inside-self.new.self { held = c.seek_inside-self.result } in
        let end = subst (λ zs. ListStands k.0 s t q zs k.4.0) n.4.4 k.4.1 in
        (k.0, k.1, later_on m n.0 k.0 n.2 k.2, g.met.P.Port.keeps_on _ _ _ m n.0 k.0 n.3 k.3, (k.4.0, end, omega (arith, n.4.3, k.4.2))));
  };
}

pub returns-else-self-most : goal.returns-else-self-most
returns-else-self-most g c = record {
  loads = λ m s t rest b st h.
      (let n = (c.seek_near.ensures.told s t rest b).told m st h in
      let q = c.seek_near.new.self in
      let low = at_low n.0 s t q n.4.0 n.4.1 c.args.most n.4.2 (omega (arith, c.if-self-most.false)) c.seek_near.ensures.near in
      let end = subst (λ zs. ListStands n.0 s t q zs n.4.1) (sym low ∙ n.4.4) n.4.2 in
      seek_few m n.0 n.0 s t c.args.self.now q q rest n.4.0 c.args.most b n.4.1 n.4.1 c.args.steps.now c.seek_near.new.steps c.seek_near.new.steps
      h n.4.2 end c.seek_near.ensures.loads refl refl (omega arith));
  few = λ m s t rest b st h.
      (let n = (c.seek_near.ensures.told s t rest b).told m st h in
      let q = c.seek_near.new.self in
      let low = at_low n.0 s t q n.4.0 n.4.1 c.args.most n.4.2 (omega (arith, c.if-self-most.false)) c.seek_near.ensures.near in
      let end = subst (λ zs. ListStands n.0 s t q zs n.4.1) (sym low ∙ n.4.4) n.4.2 in
      seek_near m n.0 s t c.args.self.now q q rest c.args.most b n.4.1 c.args.steps.now c.seek_near.new.steps c.seek_near.new.steps
      h end c.seek_near.ensures.loads c.seek_near.ensures.fewer (omega arith) (omega arith));
  told = λ s t rest b. record {
    told = λ m st h.
        (let n = (c.seek_near.ensures.told s t rest b).told m st h in
        let q = c.seek_near.new.self in
        let low = at_low n.0 s t q n.4.0 n.4.1 c.args.most n.4.2 (omega (arith, c.if-self-most.false)) c.seek_near.ensures.near in
        let end = subst (λ zs. ListStands n.0 s t q zs n.4.1) (sym low ∙ n.4.4) n.4.2 in
        (n.0, n.1, n.2, n.3, (n.4.1, end, n.4.3)));
  };
}
