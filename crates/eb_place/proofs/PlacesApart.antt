-- The places of placings and of conversions are apart.
use Rattle.std.proofs.Common.{◌≡◌, ℕ, ◌<◌, List, [], ◌∷◌, ◌++◌, length, Contains, ap, sym, ◌∙◌, arith}
use Rattle.std.proofs.lemmas.Bool.{false≢true}
use Rattle.std.proofs.lemmas.List.Elements.{All-contains}
use Rattle.eb_base.specs.Document.{Doc}
use Rattle.eb_base.specs.Setting.{Setting, IsSetting}
use Rattle.eb_place.specs.Layout.{Slot, place}
use Rattle.eb_place.specs.Room.{cut, IsLawful}
use Rattle.eb_place.specs.Placing.{Store, placing, doc_stores}
use Rattle.eb_place.specs.Conversion.{segment_stores, conversion}
use Rattle.eb_place.proofs.PlacesOfSlots.{place_once}
use Rattle.eb_place.proofs.FreshPoolWords.{Each, All-from_Each}
use Rattle.eb_place.proofs.WordsOfTokens.{Each-map}
use Rattle.eb_place.proofs.WordsAtMoment.{placed_all, joins, lawful_front, lawful_last}
use Rattle.eb_place.proofs.PackedStores.{is_packed, segment_packs}
use Rattle.eb_place.proofs.NextStore.{IsWriters, doc_writers}
use Rattle.eb_place.proofs.StoresLie.{pairs_are, IsConverters}

-- no place is stored by a placing and by a conversion
pub places_apart : (σ : Setting) (docs all : List Doc) (d : Doc) (s at v w : ℕ) → IsSetting σ → IsLawful σ (docs ++ d ∷ []) → IsLawful σ all → s < length (cut σ all)
    → Contains (placing σ docs d) (at, v) → Contains (conversion σ all s) (at, w) → ⊥
places_apart σ docs all d s at v w k h l inside x y =
    let p = placed_all σ docs k (lawful_front σ docs (d ∷ []) h) in
    let q = placed_all σ all k l in
    let writers = pairs_are σ (IsWriters σ) (doc_stores σ docs d) (doc_writers σ docs d _ _ (joins σ docs d k p.short (lawful_last σ docs d h))) in
    let short = q.short in
    let packs : Each (λ (z : Store). IsConverters σ z.0) (segment_stores σ all s) = Each-map (λ z f. (f.within, f.packed)) (segment_packs σ all s (q.room s (omega arith))) in
    let a = All-contains (λ (z : ℕ × ℕ). (x : Slot) × (z.0 ≡ place σ x) × IsWriters σ x) (placing σ docs d) (at, v) (All-from_Each writers) x in
    let b =
    All-contains (λ (z : ℕ × ℕ). (x : Slot) × (z.0 ≡ place σ x) × IsConverters σ x) (conversion σ all s) (at, w) (All-from_Each (pairs_are σ (IsConverters σ) (segment_stores σ all s) packs)) y in
    let same : a.0 ≡ b.0 = place_once σ a.0 b.0 a.2.within b.2.0 (sym a.1 ∙ b.1) in
    false≢true (sym a.2.plain ∙ ap is_packed same ∙ b.2.1)
