-- A recording pen from store to store.
use Rattle.std.proofs.Common.{◌≡◌, ℕ, ◌+◌, ◌<◌, ◌≤◌, ◌==◌, Bool, true, false, if◌then◌else◌, List, [], ◌∷◌, ◌++◌, refl, ap, sym, ◌∙◌, arith}
use Rattle.std.proofs.lemmas.Bool.{eqb-true, eq-eqb, false≢true}
use Rattle.std.proofs.lemmas.List.{map-append}
use Rattle.eb_base.specs.Document.{Doc}
use Rattle.eb_base.specs.Setting.{Setting}
use Rattle.eb_place.specs.declared.moment.Conversions.{Conversions}
use Rattle.eb_place.specs.declared.moment.Moment.{Moment}
use Rattle.eb_place.specs.Layout.{place}
use Rattle.eb_place.specs.Layout.Slot.{slot}
use Rattle.eb_place.specs.Layout.Region.{converted_region}
use Rattle.eb_place.specs.Placing.{Store, pairs_of}
use Rattle.eb_place.specs.Moments.{placings_after, document_stores, empty_moment, IsMoment}
use Rattle.eb_place.specs.NextStores.{IsNext, after_store, IsNextPut, after_put}
use Rattle.eb_place.proofs.NextStore.{next_store, stored_stores}
use Rattle.eb_place.proofs.ConverterWords.{closed_room}
use Rattle.eb_place.proofs.NextPuts.{put_ends}

-- before the first document nothing is stored
pub nothing_stored : (σ : Setting) → pairs_of σ (document_stores σ (empty_moment σ).documents) ≡ []
unfolding document_stores placings_after
nothing_stored σ = refl

-- the stores with the next one
pub one_recorded : (m : Moment) (d : Doc) (at value : ℕ) (xs : List (ℕ × ℕ)) → IsNext m d at value → xs ≡ pairs_of m.setting (document_stores m.setting m.documents)
    → xs ++ (at, value) ∷ [] ≡ pairs_of (after_store m d).setting (document_stores (after_store m d).setting (after_store m d).documents)
unfolding after_store
one_recorded m d at value xs n e =
    let k = next_store m d at value n in
    let pair : (at, value) ∷ [] ≡ pairs_of m.setting ((k.slot, value) ∷ []) = ap (λ (p : ℕ). (p, value) ∷ []) k.place in
    ap (λ (l : List (ℕ × ℕ)). l ++ (at, value) ∷ []) e
    ∙ ap (λ (l : List (ℕ × ℕ)). pairs_of m.setting (document_stores m.setting m.documents) ++ l) pair
    ∙ sym (map-append (λ (x : Store). (place m.setting x.0, x.1)) (document_stores m.setting m.documents) ((k.slot, value) ∷ []))
    ∙ ap (pairs_of m.setting) (sym (stored_stores m d at value n))

-- a store of the writer leaves the conversions
pub same_conversions : (m : Moment) (d : Doc) → (after_store m d).conversions ≡ m.conversions
unfolding after_store
same_conversions m d = refl

-- and one of the converter the documents
pub same_stores : (m : Moment) → pairs_of (after_put m).setting (document_stores (after_put m).setting (after_put m).documents) ≡ pairs_of m.setting (document_stores m.setting m.documents)
unfolding after_put
same_stores m = refl

-- the segment that is converted next is one of the index
pub next_inside : (m : Moment) (at value : ℕ) → IsMoment m → IsNextPut m at value → m.conversions.converted < m.setting.segments
next_inside m at value is n = (closed_room m m.conversions.converted is n.closed).inside

-- an index has few segments
pub segments_few : (m : Moment) → IsMoment m → m.setting.segments ≤ 64
segments_few m is = let few = is.setting.segments in omega arith

-- the conversions after a put, by whether it is at the converted word
pub record IsCounted (m : Moment) (last : Bool) : Type 0 where
  pub converted : (after_put m).conversions.converted ≡ m.conversions.converted + (if last then 1 else 0)
  pub whole : last ≡ true → (after_put m).conversions.packed ≡ 0

pub counted : (m : Moment) (at value : ℕ) (last : Bool) → IsMoment m → IsNextPut m at value
    → last ≡ (at == place m.setting (slot m.conversions.converted converted_region 0)) → IsCounted m last
counted m at value true is n e =
    let k = (put_ends m at value is n).last (eqb-true _ _ (sym e)) in
    record { converted = ap (λ (c : Conversions). c.converted) k ∙ omega arith; whole = λ z. ap (λ (c : Conversions). c.packed) k }
counted m at value false is n e =
    let k = (put_ends m at value is n).other (λ z. false≢true (e ∙ eq-eqb _ _ z)) in
    record { converted = ap (λ (c : Conversions). c.converted) k ∙ omega arith; whole = λ z. absurd (false≢true z) }
