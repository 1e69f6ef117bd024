use Rattle.std.proofs.Common.{◌<◌, rules, refl, sym, ◌∙◌, subst}
use Rattle.eb_base.specs.Setting.{Setting, words_of}
use Rattle.eb_place.proofs.LaterMoments.{later_self}
use Rattle.eb_flat.proofs.FlatImages.{stands_same, place_in_words, word_in_words}
use Rattle.eb_flat.proofs.words.FlatWordsPort.load.Goals as goal

pub index-requires : goal.index-requires
index-requires g c = let r = c.requires in let h = place_in_words _ r.0 _ (stands_same _ _ r.0 c.self.view_is r.1) r.2 in search (rules, h)

pub returns-clause-told : goal.returns-clause-told
returns-clause-told g c m h =
    let r = c.requires in
    let inside : c.args.place < words_of m.setting = subst (λ (σ : Setting). c.args.place < words_of σ) (r.1.setting ∙ sym h.setting) r.2 in
    let word_is = word_in_words _ m _ c.index.result.now (stands_same _ _ m c.self.view_is h) inside in
    (m, h, later_self m, (refl, refl), c.index.ensures ∙ word_is)
