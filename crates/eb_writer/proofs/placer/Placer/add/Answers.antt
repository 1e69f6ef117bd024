use Rattle.std.proofs.Common.{◌≡◌, ◌<◌, ◌+◌, ◌∙◌, ap, sym, subst, arith, length}
use Rattle.eb_base.specs.Setting.{Setting}
use Rattle.eb_place.specs.declared.moment.Documents.{Documents}
use Rattle.eb_place.specs.Room.{cut, has_room}
use Rattle.eb_writer.specs.Progress.{PlacerStands}
use Rattle.eb_writer.proofs.Adding.{segments_few, stands_same, full_same, accepted_same, no_room}
use Rattle.eb_writer.proofs.placer.Placer.add.Goals as goal

pub returns-then-self-segments-clause-full : goal.returns-then-self-segments-clause-full
returns-then-self-segments-clause-full g c m st h =
    let N = c.in_default.ensures in
    let n = N.1 m st h in
    let h' = subst (λ z. PlacerStands z m) (sym (c.self.view_is ∙ N.0)) h in
    let e : length (cut m.setting m.documents.accepted) ≡ m.setting.segments = sym h'.segments ∙ c.if-self-segments.true ∙ c.segments.ensures ∙ ap (λ (σ : Setting). σ.segments) h'.setting in
    (n.0, n.1, n.2, no_room m c.args.document.now (g.met.P.Port.lawful _ m st) e n.3, n.4, n.5, subst (λ z. PlacerStands z n.0) (sym N.0) (stands_same _ m n.0 n.4 n.5 h))

pub begin_next-requires : goal.begin_next-requires
begin_next-requires g c =
    let r = c.requires in
    let N = c.in_default.ensures in
    let n = N.1 r.0 r.1 r.2 in
    let hn = stands_same _ r.0 n.0 n.4 n.5 r.2 in
    let h' = subst (λ z. PlacerStands z n.0) (sym (c.self.view_is ∙ N.0)) hn in
    let low : length (cut n.0.setting n.0.documents.accepted) < n.0.setting.segments =
    omega (arith, c.if-self-segments.false, c.segments.ensures, h'.segments, ap (λ (σ : Setting). σ.segments) h'.setting, segments_few n.0 (g.met.P.Port.lawful _ n.0 n.1)) in
    (n.0, n.1, subst (λ z. PlacerStands z n.0) (sym N.0) hn, full_same r.0 n.0 c.args.document.now n.4 n.5 n.3, low)

pub returns-clause-ok : goal.returns-clause-ok
returns-clause-ok g c m st h =
    let d = c.args.document.now in
    let N = c.in_default.ensures in
    let n = N.1 m st h in
    let hn = stands_same _ m n.0 n.4 n.5 h in
    let h' = subst (λ z. PlacerStands z n.0) (sym (c.self.view_is ∙ N.0)) hn in
    let low : length (cut n.0.setting n.0.documents.accepted) < n.0.setting.segments =
    omega (arith, c.if-self-segments.false, c.segments.ensures, h'.segments, ap (λ (σ : Setting). σ.segments) h'.setting, segments_few n.0 (g.met.P.Port.lawful _ n.0 n.1)) in
    let o = c.begin_next.ensures.written n.0 n.1 (subst (λ z. PlacerStands z n.0) (sym N.0) hn, full_same m n.0 d n.4 n.5 n.3, low) in (
      o.0,
      o.1,
      g.met.P.Port.same_on _ _ _ (g.met.P.Port.keeps_same _ _ m n.0 n.2) o.2,
      (λ i. has_room (n.4.setting i) ((sym n.5 i).accepted) d) ∙ o.3.0,
      accepted_same m n.0 o.0 d n.4 n.5 o.3.1,
      o.3.2 ∙ ap (λ (x : Documents). length x.accepted + 1) n.5,
      o.3.3,
    )
