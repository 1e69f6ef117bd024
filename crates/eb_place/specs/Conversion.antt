-- The stores that convert a segment, in order.
use Rattle.std.specs.Prelude.{ℕ, ◌+◌, ◌*◌, ◌^◌, List, [], ◌∷◌, ◌++◌, length, get_or}
use Rattle.eb_base.specs.Term.{Term}
use Rattle.eb_base.specs.Document.{Doc}
use Rattle.eb_base.specs.Setting.{Setting}
use Rattle.eb_place.specs.Layout.Slot.{slot}
use Rattle.eb_place.specs.Layout.Region.{converted_region, directory_region, packed_region}
use Rattle.eb_place.specs.Postings.{terms_of, distinct, frequency}
use Rattle.eb_place.specs.Packed.{packed}
use Rattle.eb_place.specs.Room.{cut}
use Rattle.eb_place.specs.Placing.{Store, in_row, pairs_of}

-- the stores of the terms from number k on, with `start` packed words in use: the words of the
-- packed list of each, and then its directory word, where the list begins and how many postings it
-- has
unfoldable pub pack_stores : ℕ → List Doc → ℕ → ℕ → List Term → List Store
pack_stores s seg start k [] = []
pack_stores s seg start k (t ∷ ts) = in_row s packed_region start (packed t seg)
    ++ (slot s directory_region k, start * 2 ^ 32 + frequency t seg)
    ∷ pack_stores s seg (start + length (packed t seg)) (k + 1) ts

-- the stores that convert a segment: those of its terms, and last the converted word
unfoldable pub convert_stores : ℕ → List Doc → List Store
convert_stores s seg = pack_stores s seg 0 0 (distinct (terms_of seg)) ++ (slot s converted_region 0, 1) ∷ []

-- those of segment s of a history
unfoldable pub segment_stores : Setting → List Doc → ℕ → List Store
segment_stores σ docs s = convert_stores s (get_or (cut σ docs) s [])

-- the conversion of segment s of a history: pairs of place and value, in the order of the stores
abbrev pub conversion : Setting → List Doc → ℕ → List (ℕ × ℕ)
conversion σ docs s = pairs_of σ (segment_stores σ docs s)
