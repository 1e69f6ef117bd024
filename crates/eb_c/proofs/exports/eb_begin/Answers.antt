use Rattle.std.proofs.Common.{◌≡◌, ℕ, List, replicate, refl, ap, ap₂, sym, subst, ◌∙◌}
use Rattle.eb_base.specs.Setting.{Setting, words_of}
use Rattle.eb_place.specs.Moments.{empty_moment}
use Rattle.eb_flat.proofs.FlatImages.{stands_first}
use Rattle.eb_writer.specs.Progress.{PlacerProgress, PlacerStands}
use Rattle.eb_c.specs.Holding.{setting_of}
use Rattle.eb_c.proofs.exports.eb_begin.Goals as goal

pub returns-clause-index : goal.returns-clause-index
returns-clause-index c _ =
    let config = c.in-Some.config in
    let named = c.in-Some.ensures.1 in
    let placer = subst (λ (p : PlacerProgress). PlacerStands p (empty_moment config)) (sym c.index_of.ensures.progress) c.new.ensures in
    let zero : c.fill.new.self ≡ replicate (words_of config) 0 = c.fill.ensures.after (λ y h. h) ∙ ap (λ (n : ℕ). replicate n 0) (c.if-words.false ∙ c.words.ensures.words) in
    let same : setting_of c.index_of.result ≡ config = placer.setting in
    let flat = ap₂ (λ (σ : Setting) (ws : List ℕ). record { setting = σ; words = ws }) same zero in
    (same ∙ named, record { mark = c.index_of.ensures.mark; moment = empty_moment config; image = stands_first _ config c.words.ensures.setting flat; placer = placer; accepted = refl })
