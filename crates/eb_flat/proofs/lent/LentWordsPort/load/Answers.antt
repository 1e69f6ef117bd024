use Rattle.std.proofs.Common.{◌<◌, refl, sym, ◌∙◌, subst}
use Rattle.eb_base.specs.Setting.{Setting, words_of}
use Rattle.eb_place.proofs.LaterMoments.{later_self}
use Rattle.eb_flat.proofs.FlatImages.{place_in_words, word_in_words}
use Rattle.eb_flat.proofs.lent.LentWordsPort.load.Goals as goal

pub bounds-self-place : goal.bounds-self-place
bounds-self-place g c = let r = c.requires in place_in_words _ r.0 _ r.1 r.2

pub returns-clause-told : goal.returns-clause-told
returns-clause-told g c m h =
    let r = c.requires in
    let inside : c.args.place < words_of m.setting = subst (λ (σ : Setting). c.args.place < words_of σ) (r.1.setting ∙ sym h.setting) r.2 in
    (m, h, later_self m, (refl, refl), word_in_words _ m _ _ h inside)
