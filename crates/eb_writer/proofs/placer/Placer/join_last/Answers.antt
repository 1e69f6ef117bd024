use Rattle.std.proofs.Common.{◌≤◌, ◌+◌, ◌-◌, ◌∙◌, sym, subst, arith, refl}
use Rattle.eb_writer.specs.Progress.{PlacerProgress, PlacerStands}
use Rattle.eb_writer.proofs.Ends.{documents_few}
use Rattle.eb_writer.proofs.Adding.{last_ready, fits_last, starts_last, stands_same, stands_accepted, accepted_same}
use Rattle.eb_writer.proofs.placer.Placer.join_last.Goals as goal

pub make_plan-requires-clause-ready : goal.make_plan-requires-clause-ready
make_plan-requires-clause-ready g c =
    let r = c.requires in
    let h = subst (λ z. PlacerStands z r.0) (sym c.self.view_is) r.2 in
    (r.0, r.1, last_ready _ r.0 (g.met.P.Port.lawful _ r.0 r.1) h (omega (arith, c.if-self-eq0.false)))

pub returns-then-not-is_within : goal.returns-then-not-is_within
returns-then-not-is_within g c = (
  c.self.view_is,
  λ m st hh.
      (let h = subst (λ z. PlacerStands z m) (sym c.self.view_is) hh in
      let some : 1 ≤ c.self.inside.segments = omega (arith, c.if-self-eq0.false) in
      let n = c.make_plan.ensures m st (last_ready _ m (g.met.P.Port.lawful _ m st) h some) in
      (n.0, n.1, n.3, (λ l. sym (fits_last _ m c.args.document.now c.make_plan.new.plan h some n.4) ∙ sym c.is_within.ensures ∙ c.if-not-is_within.true), n.2, g.met.P.Pen.pen_keeps _ _ m n.0 n.3)),
)

pub store_rest-self-inside-requires : goal.store_rest-self-inside-requires
store_rest-self-inside-requires g c =
    let r = c.requires in
    let m = r.0 in
    let h = subst (λ z. PlacerStands z m) (sym c.self.view_is) r.2 in
    let some : 1 ≤ c.self.inside.segments = omega (arith, c.if-self-eq0.false) in
    let is = g.met.P.Port.lawful _ m r.1 in
    let n = c.make_plan.ensures m r.1 (last_ready _ m is h some) in
    let e = g.met.P.Pen.pen_keeps _ _ m n.0 n.3 in
    let b = starts_last _ m n.0 c.args.document.now c.make_plan.new.plan is (g.met.P.Port.lawful _ n.0 n.1) n.2 e h some n.4 (sym c.is_within.ensures ∙ c.if-not-is_within.false) in
    (n.0, n.1, b.come, b.tells, b.tokens, b.counted)

pub overflow_add-self : goal.overflow_add-self
overflow_add-self g c =
    let r = c.requires in
    let h = subst (λ z. PlacerStands z r.0) (sym c.self.view_is) r.2 in
    omega (arith, h.documents, documents_few r.0 (g.met.P.Port.lawful _ r.0 r.1))

pub returns : goal.returns
returns g c m st hh =
    let h = subst (λ z. PlacerStands z m) (sym c.self.view_is) hh in
    let d = c.args.document.now in
    let some : 1 ≤ c.self.inside.segments = omega (arith, c.if-self-eq0.false) in
    let is = g.met.P.Port.lawful _ m st in
    let n = c.make_plan.ensures m st (last_ready _ m is h some) in
    let e = g.met.P.Pen.pen_keeps _ _ m n.0 n.3 in
    let b = starts_last _ m n.0 d c.make_plan.new.plan is (g.met.P.Port.lawful _ n.0 n.1) n.2 e h some n.4 (sym c.is_within.ensures ∙ c.if-not-is_within.false) in
    let o = c.store_rest-self-inside.ensures.written n.0 n.1 (b.come, b.tells, b.tokens, b.counted) in
    let p : PlacerProgress = record { setting = c.self.inside.config; segments = c.self.inside.segments; documents = c.self.inside.documents; used = c.self.inside.used } in
    let q : PlacerProgress = record { setting = c.self.inside.config; segments = c.self.inside.segments; documents = c.self.inside.documents + 1; used = c.store_rest-self-inside.result } in (
      o.0,
      o.1,
      g.met.P.Port.same_on _ _ _ (g.met.P.Port.keeps_same _ _ m n.0 n.3) o.2,
      b.room,
      accepted_same m n.0 o.0 d n.2 e o.3.0,
      omega (arith, h.documents),
      stands_accepted p q n.0 o.0 d (c.self.inside.segments - 1) (stands_same p m n.0 n.2 e h) b.placed o.3.0 refl (omega arith) refl o.3.1,
    )
