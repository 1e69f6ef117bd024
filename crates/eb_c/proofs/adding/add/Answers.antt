use Rattle.std.proofs.Common.{◌≡◌, rules, true, List, [], ◌∷◌, ◌++◌, ap, ◌∙◌, sym, subst}
use Rattle.eb_base.specs.Document.{Doc}
use Rattle.eb_base.specs.Setting.{Setting}
use Rattle.eb_place.specs.Room.{has_room}
use Rattle.eb_flat.specs.Flat.{StandsFor}
use Rattle.eb_writer.specs.Progress.{PlacerProgress, PlacerStands}
use Rattle.eb_c.specs.Holding.{setting_of, progress_of}
use Rattle.eb_c.proofs.Addings.{with_added}
use Rattle.eb_c.proofs.adding.add.Goals as goal

pub returns-then-placed-clause-added : goal.returns-then-placed-clause-added
returns-then-placed-clause-added c docs h =
    let σ : Setting = setting_of c.args.index.now in
    let d : Doc = c.args.document.now in
    let image : StandsFor (record { setting = c.args.config; words = c.args.words.now }) h.moment =
    subst (λ (σ : Setting). StandsFor (record { setting = σ; words = c.args.words.now }) h.moment) (sym c.requires.setting) h.image in
    let placer : PlacerStands c.placer_of-placer.result h.moment = subst (λ (p : PlacerProgress). PlacerStands p h.moment) (sym c.placer_of-placer.ensures) h.placer in
    let w = c.if-placed.ensures.placed h.moment image placer in
    let room : has_room σ docs d ≡ true = (λ t. has_room (sym h.image.setting t) (sym h.accepted t) d) ∙ w.0 in
    let stands : PlacerStands (progress_of c.index_of.result) w.1 = subst (λ (p : PlacerProgress). PlacerStands p w.1) (sym c.index_of.ensures.progress) w.3 in
    with_added σ docs d _ _ _ _ w.1 c.if-placed.true room c.index_of.ensures.mark w.2 stands (w.4 ∙ ap (λ (l : List Doc). l ++ d ∷ []) h.accepted) (search rules)
