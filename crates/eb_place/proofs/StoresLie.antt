-- Where the stores of placings and conversions go, and how many packed words there are.
use Rattle.std.proofs.Common.{◌≡◌, ℕ, ◌*◌, ◌<◌, ◌≤◌, ◌⊎◌, true, false, not, List, [], ◌∷◌, ◌++◌, length, get_or, sum_by, fold, max, Contains, refl, sym, arith, inl, inr}
use Rattle.std.proofs.lemmas.Bool.{false≢true}
use Rattle.std.proofs.lemmas.List.Elements.{All-contains}
use Rattle.std.proofs.lemmas.List.Sums.{sum_by-le-sum_by}
use Rattle.eb_base.specs.Document.{Doc}
use Rattle.eb_base.specs.Setting.{Setting, IsSetting}
use Rattle.eb_place.specs.Layout.{Slot, Region, place}
use Rattle.eb_place.specs.Layout.Slot.{published, slot}
use Rattle.eb_place.specs.Layout.Region.{first_region, converted_region, cell_region, text_place_region, tail_region}
use Rattle.eb_place.specs.Layout.Region.{text_region, id_region, pool_0, pool_1, pool_2, pool_3, directory_region, packed_region}
use Rattle.eb_place.specs.Postings.{count_of, terms_of, distinct}
use Rattle.eb_place.specs.Room.{cut, IsLawful}
use Rattle.eb_place.specs.Placing.{Store, pairs_of, placing, doc_stores}
use Rattle.eb_place.specs.Packed.{block, width_of, differences, packed}
use Rattle.eb_place.specs.Conversion.{segment_stores, conversion}
use Rattle.eb_place.specs.StoringLaws.{is_converters, LiesIn}
use Rattle.eb_place.proofs.TermCounts.{total_count}
use Rattle.eb_place.proofs.EnoughPackedWords.{postings_few}
use Rattle.eb_place.proofs.BlockFields.{block_short}
use Rattle.eb_place.proofs.PlacesOfSlots.{InTable}
use Rattle.eb_place.proofs.FreshPoolWords.{Each, All-from_Each}
use Rattle.eb_place.proofs.FreshPoolWords.Each.{none, more}
use Rattle.eb_place.proofs.WordsOfTokens.{Each-map}
use Rattle.eb_place.proofs.WordsAtMoment.{placed_all, joins, lawful_front, lawful_last}
use Rattle.eb_place.proofs.PackedStores.{is_packed, segment_packs, packed_few}
use Rattle.eb_place.proofs.NextStore.{IsWriters, doc_writers}

-- ---- where they go

pub pairs_are : (σ : Setting) (P : Slot → Type 0) (xs : List Store) → Each (λ (y : Store). P y.0) xs → Each (λ (z : ℕ × ℕ). (x : Slot) × (z.0 ≡ place σ x) × P x) (pairs_of σ xs)
pairs_are σ P [] none = none
pairs_are σ P (x ∷ xs) (more h t) = more (x.0, refl, h) (pairs_are σ P xs t)

writers_region : (s : ℕ) (r : Region) (i : ℕ) → is_packed (slot s r i) ≡ false → not (is_converters r) ≡ true
unfolding is_packed
writers_region s first_region i h = refl
writers_region s converted_region i h = absurd (false≢true (sym h))
writers_region s cell_region i h = refl
writers_region s text_place_region i h = refl
writers_region s tail_region i h = refl
writers_region s text_region i h = refl
writers_region s id_region i h = refl
writers_region s pool_0 i h = refl
writers_region s pool_1 i h = refl
writers_region s pool_2 i h = refl
writers_region s pool_3 i h = refl
writers_region s directory_region i h = absurd (false≢true (sym h))
writers_region s packed_region i h = absurd (false≢true (sym h))

converters_region : (s : ℕ) (r : Region) (i : ℕ) → is_packed (slot s r i) ≡ true → is_converters r ≡ true
unfolding is_packed
converters_region s first_region i h = absurd (false≢true h)
converters_region s converted_region i h = refl
converters_region s cell_region i h = absurd (false≢true h)
converters_region s text_place_region i h = absurd (false≢true h)
converters_region s tail_region i h = absurd (false≢true h)
converters_region s text_region i h = absurd (false≢true h)
converters_region s id_region i h = absurd (false≢true h)
converters_region s pool_0 i h = absurd (false≢true h)
converters_region s pool_1 i h = absurd (false≢true h)
converters_region s pool_2 i h = absurd (false≢true h)
converters_region s pool_3 i h = absurd (false≢true h)
converters_region s directory_region i h = refl
converters_region s packed_region i h = refl

writers_lie : (σ : Setting) (at : ℕ) (x : Slot) → at ≡ place σ x → IsWriters σ x → (at ≡ 0) ⊎ LiesIn σ (λ r. not (is_converters r)) at
unfolding place
writers_lie σ at published e w = inl e
writers_lie σ at (slot s r i) e w = inr (record { segment = s; region = r; index = i; inside = w.within.0; within = w.within.1; passes = writers_region s r i w.plain; is = e })

-- a word of the converter, within the index
abbrev pub IsConverters : Setting → Slot → Type 0
IsConverters σ x = InTable σ x × (is_packed x ≡ true)

converters_lie : (σ : Setting) (at : ℕ) (x : Slot) → at ≡ place σ x → IsConverters σ x → LiesIn σ is_converters at
unfolding is_packed
converters_lie σ at published e w = absurd (false≢true w.1)
converters_lie σ at (slot s r i) e w = record { segment = s; region = r; index = i; inside = w.0.0; within = w.0.1; passes = converters_region s r i w.1; is = e }

-- the stores of a placing
pub placing_lies : (σ : Setting) (docs : List Doc) (d : Doc) (at v : ℕ) → IsSetting σ → IsLawful σ (docs ++ d ∷ [])
    → Contains (placing σ docs d) (at, v) → (at ≡ 0) ⊎ LiesIn σ (λ r. not (is_converters r)) at
placing_lies σ docs d at v k h c =
    let p = placed_all σ docs k (lawful_front σ docs (d ∷ []) h) in
    let all = pairs_are σ (IsWriters σ) (doc_stores σ docs d) (doc_writers σ docs d _ _ (joins σ docs d k p.short (lawful_last σ docs d h))) in
    let x = All-contains (λ (z : ℕ × ℕ). (x : Slot) × (z.0 ≡ place σ x) × IsWriters σ x) (placing σ docs d) (at, v) (All-from_Each all) c in
    writers_lie σ at x.0 x.1 x.2

-- those of a conversion
pub conversion_lies : (σ : Setting) (docs : List Doc) (s at v : ℕ) → IsSetting σ → IsLawful σ docs → s < length (cut σ docs) → Contains (conversion σ docs s) (at, v) → LiesIn σ is_converters at
conversion_lies σ docs s at v k h l c =
    let p = placed_all σ docs k h in
    let short = p.short in
    let each : Each (λ (z : Store). IsConverters σ z.0) (segment_stores σ docs s) = Each-map (λ z f. (f.within, f.packed)) (segment_packs σ docs s (p.room s (omega arith))) in
    let x =
    All-contains (λ (z : ℕ × ℕ). (x : Slot) × (z.0 ≡ place σ x) × IsConverters σ x) (conversion σ docs s) (at, v) (All-from_Each (pairs_are σ (IsConverters σ) (segment_stores σ docs s) each)) c in
    converters_lie σ at x.0 x.1 x.2

-- ---- how many packed words there are

pub packs_fit : (σ : Setting) (docs : List Doc) (s : ℕ) → IsSetting σ → IsLawful σ docs → s < length (cut σ docs)
    → sum_by (λ t. length (packed t (get_or (cut σ docs) s []))) (distinct (terms_of (get_or (cut σ docs) s []))) ≤ 34 * σ.terms
packs_fit σ docs s k h l =
    let p = placed_all σ docs k h in
    let short = p.short in
    let seg = get_or (cut σ docs) s [] in
    let room = p.room s (omega arith) in
    omega (
      arith,
      sum_by-le-sum_by (λ t. length (packed t seg)) (λ t. count_of t (terms_of seg)) (distinct (terms_of seg)) (λ t. packed_few t seg),
      total_count (terms_of seg),
      postings_few σ (terms_of seg) room.fits,
    )

pub block_few : (xs : List ℕ) → 1 ≤ length xs → length (block xs) ≤ length xs
unfolding block
block_few xs h = block_short (width_of (fold max 0 (differences xs))) xs (omega arith) h
