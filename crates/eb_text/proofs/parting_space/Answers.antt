use Rattle.std.proofs.Common.{◌≡◌, ◌+◌, ◌++◌, length, take, drop, subst, sym}
use Rattle.unicode_segmentation.specs.Word.{words}
use Rattle.eb_text.specs.Parting.{IsParting}
use Rattle.eb_text.proofs.Words.{words_alone, words_at}
use Rattle.eb_text.proofs.parting_space.Goals as goal

pub returns-then-is_parting-clause-parts : goal.returns-then-is_parting-clause-parts
returns-then-is_parting-clause-parts c =
    words_at c.args.text.now c.utf8.text c.loop-place.place (subst (λ s. IsParting s c.loop-place.place) c.as_bytes-bytes.ensures.value (c.is_parting.ensures c.if-is_parting.true))

pub returns-clause-parts : goal.returns-clause-parts
returns-clause-parts c =
    let text = c.args.text.now in
    subst (λ s. words text ≡ words (take (length s) text) ++ words (drop (length s + 1) text)) (sym c.as_bytes-bytes.ensures.value) (words_alone text)
