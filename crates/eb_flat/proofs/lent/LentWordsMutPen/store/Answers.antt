use Rattle.std.proofs.Common.{◌<◌, refl, arith}
use Rattle.eb_base.specs.Setting.{words_of}
use Rattle.eb_flat.proofs.FlatImages.{stands_stored, next_in_words}
use Rattle.eb_place.proofs.NextStore.{next_in_table}
use Rattle.eb_flat.proofs.lent.LentWordsMutPen.store.Goals as goal

pub offset_bounds-self-place : goal.offset_bounds-self-place
offset_bounds-self-place c =
    let r = c.requires in
    let inside : c.args.place < words_of r.0.setting = next_in_table r.0 _ _ _ r.1.moment r.2 in
    let few = r.1.moment.setting.words in
    omega (arith, inside, few)

pub bounds-self-place : goal.bounds-self-place
bounds-self-place c = let r = c.requires in next_in_words _ r.0 _ _ _ r.1 r.2

pub returns : goal.returns
returns c m h next = (stands_stored _ m _ _ _ h next, (refl, refl))
