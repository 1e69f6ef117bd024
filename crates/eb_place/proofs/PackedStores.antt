-- No conversion stores to a word of the writer, and all its stores are within the table.
use Rattle.std.proofs.Common.{◌≡◌, ℕ, zero, suc, ◌+◌, ◌*◌, ◌<◌, ◌≤◌, Bool, true, false, List, [], ◌∷◌, length, take, reverse, get_or, refl, arith, sum_by, lit<}
use Rattle.std.proofs.lemmas.List.{length-reverse}
use Rattle.std.proofs.lemmas.List.Sums.{sum_by-cons, sum_by-le-sum_by}
use Rattle.eb_base.specs.Term.{Term}
use Rattle.eb_base.specs.Document.{Doc}
use Rattle.eb_base.specs.Setting.{Setting}
use Rattle.eb_place.specs.declared.moment.Conversions.{Conversions}
use Rattle.eb_place.specs.Layout.{Slot, size}
use Rattle.eb_place.specs.Layout.Slot.{published, slot}
use Rattle.eb_place.specs.Layout.Region.{first_region, converted_region, cell_region, text_place_region, tail_region}
use Rattle.eb_place.specs.Layout.Region.{text_region, id_region, pool_0, pool_1, pool_2, pool_3, directory_region, packed_region}
use Rattle.eb_place.specs.Postings.{count_of, distinct, postings, terms_of}
use Rattle.eb_place.specs.Room.{cut}
use Rattle.eb_place.specs.Packed.{packed, packed_list}
use Rattle.eb_place.specs.Placing.{Store, in_row}
use Rattle.eb_place.specs.Conversion.{pack_stores, convert_stores, segment_stores}
use Rattle.eb_place.specs.Moments.{conversions, conversion_stores}
use Rattle.eb_place.proofs.TermCounts.{total_count}
use Rattle.eb_place.proofs.BlockFields.{packed_short}
use Rattle.eb_place.proofs.EnoughPackedWords.{postings_few, length-postings}
use Rattle.eb_place.proofs.FreshPoolWords.{Each, Each-append}
use Rattle.eb_place.proofs.FreshPoolWords.Each.{none, more}
use Rattle.eb_place.proofs.StoresWithinTable.{IsWithin}
use Rattle.eb_place.proofs.WordsOfTokens.{Room, Each-take}

-- the words of the converter
unfoldable pub is_packed : Slot → Bool
is_packed published = false
is_packed (slot s first_region i) = false
is_packed (slot s converted_region i) = true
is_packed (slot s cell_region i) = false
is_packed (slot s text_place_region i) = false
is_packed (slot s tail_region i) = false
is_packed (slot s text_region i) = false
is_packed (slot s id_region i) = false
is_packed (slot s pool_0 i) = false
is_packed (slot s pool_1 i) = false
is_packed (slot s pool_2 i) = false
is_packed (slot s pool_3 i) = false
is_packed (slot s directory_region i) = true
is_packed (slot s packed_region i) = true

-- a store to a word of the converter, within the index
pub record IsPackedStore (σ : Setting) (y : Store) : Type 0 where
  pub within : IsWithin σ y
  pub packed : is_packed y.0 ≡ true

row_packed : (σ : Setting) (s i : ℕ) (vs : List ℕ) → s < σ.segments → i + length vs ≤ 34 * σ.terms → Each (IsPackedStore σ) (in_row s packed_region i vs)
unfolding size is_packed
row_packed σ s i [] h l = none
row_packed σ s i (v ∷ vs) h l = more (record { within = (h, omega arith); packed = refl }) (row_packed σ s (i + 1) vs h (omega arith))

packs : (σ : Setting) (s : ℕ) (seg : List Doc) (start k : ℕ) (ts : List Term) → s < σ.segments
    → start + sum_by (λ t. length (packed t seg)) ts ≤ 34 * σ.terms → k + length ts ≤ σ.terms → Each (IsPackedStore σ) (pack_stores s seg start k ts)
unfolding pack_stores size is_packed
packs σ s seg start k [] h l m = none
packs σ s seg start k (t ∷ ts) h l m =
    let e = sum_by-cons (λ (u : Term). length (packed u seg)) t ts in
    Each-append (row_packed σ s start (packed t seg) h (omega arith))
    (more (record { within = (h, omega arith); packed = refl }) (packs σ s seg (start + length (packed t seg)) (k + 1) ts h (omega arith) (omega arith)))

pub packed_few : (t : Term) (seg : List Doc) → length (packed t seg) ≤ count_of t (terms_of seg)
unfolding packed_list
packed_few t seg = omega (arith, packed_short (length (reverse (postings t seg))) (reverse (postings t seg)), length-reverse (postings t seg), length-postings t seg)

-- the stores of a conversion are such
pub segment_packs : (σ : Setting) (docs : List Doc) (s : ℕ) → Room σ s (terms_of (get_or (cut σ docs) s [])) → Each (IsPackedStore σ) (segment_stores σ docs s)
unfolding segment_stores convert_stores size is_packed
segment_packs σ docs s room =
    let seg = get_or (cut σ docs) s [] in
    let fits = room.fits in
    let few = fits.few in
    Each-append (packs σ s seg 0 0 (distinct (terms_of seg)) room.inside
    (omega (
      arith,
      sum_by-le-sum_by (λ t. length (packed t seg)) (λ t. count_of t (terms_of seg)) (distinct (terms_of seg)) (λ t. packed_few t seg),
      total_count (terms_of seg),
      postings_few σ (terms_of seg) fits,
    )) (omega arith))
    (more (record { within = (room.inside, lit< tt); packed = refl }) none)

-- and those of all conversions so far
pub conversions_pack : (σ : Setting) (docs : List Doc) (n : ℕ) → ((s : ℕ) → s < n → Room σ s (terms_of (get_or (cut σ docs) s []))) → Each (IsPackedStore σ) (conversions σ docs n)
unfolding conversions
conversions_pack σ docs zero h = none
conversions_pack σ docs (suc n) h = Each-append (conversions_pack σ docs n (λ s l. h s (omega arith))) (segment_packs σ docs n (h n (omega arith)))

-- and those of a conversion part
pub all_packed : (σ : Setting) (docs : List Doc) (c : Conversions) → ((s : ℕ) → s < c.converted → Room σ s (terms_of (get_or (cut σ docs) s [])))
    → (1 ≤ c.packed → Room σ c.converted (terms_of (get_or (cut σ docs) c.converted [])))
    → Each (IsPackedStore σ) (conversion_stores σ docs c)
unfolding conversion_stores
all_packed σ docs c h k = Each-append (conversions_pack σ docs c.converted h) (some c.packed k)
  where
    some : (n : ℕ) → (1 ≤ n → Room σ c.converted (terms_of (get_or (cut σ docs) c.converted []))) → Each (IsPackedStore σ) (take n (segment_stores σ docs c.converted))
    some zero k = none
    some (suc n) k = Each-take (suc n) (segment_packs σ docs c.converted (k (omega arith)))
