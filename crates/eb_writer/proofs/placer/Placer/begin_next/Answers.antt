use Rattle.std.proofs.Common.{◌+◌, sym, subst, arith, refl}
use Rattle.eb_writer.specs.Progress.{PlacerProgress, PlacerStands}
use Rattle.eb_writer.proofs.Ends.{documents_few}
use Rattle.eb_writer.proofs.Adding.{next_ready, starts_next, begins_same, stands_same, stands_accepted, accepted_same, accepted_on}
use Rattle.eb_writer.proofs.placer.Placer.begin_next.Goals as goal

pub make_plan-requires-clause-ready : goal.make_plan-requires-clause-ready
make_plan-requires-clause-ready g c =
    let r = c.requires in
    let h = subst (λ z. PlacerStands z r.0) (sym c.self.view_is) r.2 in
    (r.0, r.1, next_ready _ r.0 (g.met.P.Port.lawful _ r.0 r.1) h r.4)

pub begin-requires : goal.begin-requires
begin-requires g c =
    let r = c.requires in
    let m = r.0 in
    let h = subst (λ z. PlacerStands z m) (sym c.self.view_is) r.2 in
    let is = g.met.P.Port.lawful _ m r.1 in
    let n = c.make_plan.ensures m r.1 (next_ready _ m is h r.4) in
    let e = g.met.P.Pen.pen_keeps _ _ m n.0 n.3 in
    (n.0, n.1, begins_same _ m n.0 c.args.document.now (g.met.P.Port.lawful _ n.0 n.1) n.2 e n.4.limits h r.3 r.4, (stands_same _ m n.0 n.2 e h).documents)

pub store_rest-self-inside-requires : goal.store_rest-self-inside-requires
store_rest-self-inside-requires g c =
    let r = c.requires in
    let m = r.0 in
    let h = subst (λ z. PlacerStands z m) (sym c.self.view_is) r.2 in
    let is = g.met.P.Port.lawful _ m r.1 in
    let n = c.make_plan.ensures m r.1 (next_ready _ m is h r.4) in
    let js = g.met.P.Port.lawful _ n.0 n.1 in
    let e = g.met.P.Pen.pen_keeps _ _ m n.0 n.3 in
    let k = c.begin.ensures.written n.0 n.1 (begins_same _ m n.0 c.args.document.now js n.2 e n.4.limits h r.3 r.4, (stands_same _ m n.0 n.2 e h).documents) in
    let b = starts_next _ m n.0 k.0 c.args.document.now c.make_plan.new.plan is js n.2 e h r.3 r.4 n.4 k.3.0 k.3.1 in
    (k.0, k.1, b.come, b.tells, b.tokens, b.counted)

pub overflow_add-self-2 : goal.overflow_add-self-2
overflow_add-self-2 g c =
    let r = c.requires in
    let h = subst (λ z. PlacerStands z r.0) (sym c.self.view_is) r.2 in
    omega (arith, h.documents, documents_few r.0 (g.met.P.Port.lawful _ r.0 r.1))

pub returns : goal.returns
returns g c = record {
  written = λ m st q.
      (let h = subst (λ z. PlacerStands z m) (sym c.self.view_is) q.0 in
      let d = c.args.document.now in
      let is = g.met.P.Port.lawful _ m st in
      let n = c.make_plan.ensures m st (next_ready _ m is h q.2) in
      let js = g.met.P.Port.lawful _ n.0 n.1 in
      let e = g.met.P.Pen.pen_keeps _ _ m n.0 n.3 in
      let k = c.begin.ensures.written n.0 n.1 (begins_same _ m n.0 d js n.2 e n.4.limits h q.1 q.2, (stands_same _ m n.0 n.2 e h).documents) in
      let b = starts_next _ m n.0 k.0 d c.make_plan.new.plan is js n.2 e h q.1 q.2 n.4 k.3.0 k.3.1 in
      let o = c.store_rest-self-inside.ensures.written k.0 k.1 (b.come, b.tells, b.tokens, b.counted) in
      let a = accepted_on n.0 k.0 o.0 d k.3.0 o.3.0 in
      let p : PlacerProgress = record { setting = c.self.inside.config; segments = c.self.inside.segments; documents = c.self.inside.documents; used = c.self.inside.used } in
      let r : PlacerProgress = record { setting = c.self.inside.config; segments = c.self.inside.segments + 1; documents = c.self.inside.documents + 1; used = c.store_rest-self-inside.result } in (
        o.0,
        o.1,
        g.met.P.Port.same_on _ _ _ (g.met.P.Port.same_on _ _ _ (g.met.P.Port.keeps_same _ _ m n.0 n.3) k.2) o.2,
        (
          b.room,
          accepted_same m n.0 o.0 d n.2 e a,
          omega (arith, h.documents),
          stands_accepted p r n.0 o.0 d c.self.inside.segments (stands_same p m n.0 n.2 e h) (begins_same p m n.0 d js n.2 e n.4.limits h q.1 q.2).placed a refl refl refl o.3.1,
        ),
      ));
}
