use Rattle.std.proofs.Common.{◌≡◌, ◌≤◌, length, get_or, refl, ap, sym, ◌∙◌, subst, arith}
use Rattle.std.proofs.lemmas.List.{get_or-map}
use Rattle.std.proofs.lemmas.List.Elements.{All-get_or}
use Rattle.eb_blend.specs.declared.adding.Turn.{Turn}
use Rattle.eb_blend.specs.Adding.{writers_of, HasTurned}
use Rattle.eb_blend.proofs.Each.{as_many, made_at, length_map}
use Rattle.eb_blend.proofs.adding.take_turns.Goals as goal

pub returns : goal.returns
returns g c = record {
  turned = λ p w t lt is.
      let e = (c.each_place.ensures p t lt).1 in
      subst (λ (x : Turn × Turn). HasTurned w.setting (length c.args.indexes.now) p c.args.items.now x.0 x.1) (λ j. (e.argument_is j, e.left j)) (e.call w is);
}

pub each_place-requires-after_bounds : goal.each_place-requires-after_bounds
each_place-requires-after_bounds g c κs within = λ i p lt is.
    let ts = c.args.turns.now in
    let ws = c.args.indexes.now in
    let made = c.requires.made in
    let long : length (writers_of ts) ≡ length ts = length_map (λ (t : Turn). t.writer) ts in
    let many : length (writers_of ts) ≡ length ws = as_many (writers_of ts) ws made in
    let own : p.now.writer ≡ get_or (writers_of ts) i p.now.writer = ap (λ (t : Turn). t.writer) is ∙ sym (get_or-map (λ (t : Turn). t.writer) ts i p.now p.now.writer lt) in
    let room = All-get_or (λ (t : Turn). length c.args.items.now ≤ length t.full.items) ts i p.now lt c.requires.room in (
      omega (arith, lt, long, many),
      (
        refl,
        (
          (λ w at. made_at (writers_of ts) ws i p.now.writer w made (omega (arith, lt, long)) own at),
          subst (λ (t : Turn). length c.args.items.now ≤ length t.full.items) (sym is) room,
        ),
      ),
    )
