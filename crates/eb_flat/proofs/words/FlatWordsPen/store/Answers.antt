use Rattle.std.proofs.Common.{rules, ap}
use Rattle.eb_flat.specs.Flat.{Flat}
use Rattle.eb_flat.proofs.FlatImages.{stands_same, stands_stored, next_in_words}
use Rattle.eb_flat.proofs.words.FlatWordsPen.store.Goals as goal

pub index_mut-requires : goal.index_mut-requires
index_mut-requires c = let r = c.requires in let h = next_in_words _ r.0 _ _ _ (stands_same _ _ r.0 c.self.view_is r.1) r.2 in search (rules, h)

pub returns : goal.returns
returns c m h next =
    (stands_stored _ m _ _ _ (stands_same _ _ m c.self.view_is h) next, ap (λ (f : Flat). f.setting) c.self.view_is)
