-- The part of a segment's room that its terms take.
use Rattle.std.specs.Prelude.{◌*◌, Bool, ◌&&◌, List, length, sum_by, nat_le}
use Rattle.eb_base.specs.Term.{Term}
use Rattle.eb_base.specs.Setting.{Setting}
use Rattle.eb_place.specs.Layout.{pool_slices}
use Rattle.eb_place.specs.Postings.{distinct}
use Rattle.eb_place.specs.Room.{text_words, all_slices}

-- a segment has room for these terms, in this order: for the distinct ones, their text words, and
-- in each pool their slices
abbrev pub holds_terms : Setting → List Term → Bool
holds_terms σ ts = nat_le (length (distinct ts)) σ.terms && nat_le (sum_by text_words (distinct ts)) (4 * σ.terms)
    && nat_le (all_slices 0 ts) (pool_slices σ 0) && nat_le (all_slices 1 ts) (pool_slices σ 1)
    && nat_le (all_slices 2 ts) (pool_slices σ 2) && nat_le (all_slices 3 ts) (pool_slices σ 3)
