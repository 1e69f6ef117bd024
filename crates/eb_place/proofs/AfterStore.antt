-- The moment after a store is a moment, and a later one.
use Rattle.std.proofs.Common.{◌≡◌, ℕ, suc, ◌+◌, ◌<◌, Bool, true, false, ltb, List, [], ◌∷◌, ◌++◌, length, take, get_or, refl, ap, sym, ◌∙◌, subst, arith, inl, inr}
use Rattle.std.proofs.lemmas.Bool.{cases_lt, ltb-true}
use Rattle.std.proofs.lemmas.List.{length_push, take_at, take-append-le, get_or_append_left}
use Rattle.std.proofs.Math.Seq.{get_or-append_seam}
use Rattle.eb_base.specs.Document.{Doc, IsDocument}
use Rattle.eb_base.specs.Setting.{Setting, IsSetting}
use Rattle.eb_place.specs.declared.moment.Moment.{Moment}
use Rattle.eb_place.specs.Room.{cut, has_room, IsLawful}
use Rattle.eb_place.specs.Placing.{doc_stores}
use Rattle.eb_place.specs.Conversion.{segment_stores}
use Rattle.eb_place.specs.Moments.{placings_after, document_stores, conversions, conversion_stores, value_after, word, with_current, IsMoment, IsBegun, empty_moment}
use Rattle.eb_place.specs.Later.{IsNotBefore}
use Rattle.eb_place.specs.NextStores.{stores_done, IsCurrent, IsNext, after_store, documents_after}
use Rattle.eb_place.proofs.LawfulHistories.{rooms_at, rooms_by}
use Rattle.eb_place.proofs.CutSegments.{closed_stays}
use Rattle.eb_place.proofs.LaterMoments.{later_self, reaches_stored}
use Rattle.eb_place.proofs.NextStore.{segment_stays, started_stored, started_more, accepted_lawful}

-- a lawful history with a document that has room is lawful
pub lawful_push : (σ : Setting) (docs : List Doc) (d : Doc) → IsLawful σ docs → IsDocument d → has_room σ docs d ≡ true → IsLawful σ (docs ++ d ∷ [])
lawful_push σ docs d h i r = record { documents = limits; rooms = rooms_by σ (docs ++ d ∷ []) rooms }
  where
    limits : (k : ℕ) (e : Doc) → k < length (docs ++ d ∷ []) → IsDocument (get_or (docs ++ d ∷ []) k e)
    limits k e l = elim (cases_lt k (length docs)) [
      | inl low ↦ subst IsDocument (sym (get_or_append_left docs (d ∷ []) e k low)) (h.documents k e low)
      | inr high ↦ let q : k ≡ length docs = omega (arith, length_push docs d) in subst IsDocument (sym (ap (λ z. get_or (docs ++ d ∷ []) z e) q ∙ get_or-append_seam docs d [] e)) i
    ]

    rooms : (k : ℕ) (e : Doc) → k < length (docs ++ d ∷ []) → has_room σ (take k (docs ++ d ∷ [])) (get_or (docs ++ d ∷ []) k e) ≡ true
    rooms k e l = elim (cases_lt k (length docs)) [
      | inl low ↦ subst (λ (w : List Doc). has_room σ w (get_or (docs ++ d ∷ []) k e) ≡ true) (sym (take-append-le k docs (d ∷ []) (omega arith)))
          (subst (λ (w : Doc). has_room σ (take k docs) w ≡ true) (sym (get_or_append_left docs (d ∷ []) e k low)) (rooms_at σ docs h k e low))
      | inr high ↦ let q : k ≡ length docs = omega (arith, length_push docs d) in
          subst (λ (w : List Doc). has_room σ w (get_or (docs ++ d ∷ []) k e) ≡ true) (sym (take_at docs (d ∷ []) k (sym q)))
          (subst (λ (w : Doc). has_room σ docs w ≡ true) (sym (ap (λ z. get_or (docs ++ d ∷ []) z e) q ∙ get_or-append_seam docs d [] e)) r)
    ]

begun_if : (σ : Setting) (docs : List Doc) (d : Doc) (i : ℕ) (b : Bool) → ltb (suc i) (length (doc_stores σ docs d)) ≡ b
    → IsBegun σ (documents_after b docs d (suc i)).accepted (documents_after b docs d (suc i)).current
begun_if σ docs d i true e = (omega arith, ltb-true _ _ e)
begun_if σ docs d i false e = tt

-- the moment after a store is one
pub moment_stored : (m : Moment) (d : Doc) (p v : ℕ) → IsMoment m → IsNext m d p v → IsMoment (after_store m d)
unfolding after_store
moment_stored m d p v is n =
    let σ = m.setting in
    let docs = m.documents.accepted in
    let c = m.documents.current in
    let b = ltb (suc (stores_done c)) (length (doc_stores σ docs d)) in
    let e : with_current (documents_after b docs d (suc (stores_done c))) ≡ docs ++ d ∷ [] = started_stored docs c d b (suc (stores_done c)) n.current in
    let more = started_more docs c d n.current in
    let f = e ∙ more.1 in
    let longer : (s : ℕ) → s + 1 < length (cut σ (with_current m.documents)) → s + 1 < length (cut σ (with_current (documents_after b docs d (suc (stores_done c))))) =
    λ s l. (let k = closed_stays σ (with_current m.documents) more.0 s l in omega (arith, k.0, ap (λ z. length (cut σ z)) f)) in
    record {
      setting = is.setting;
      lawful = subst (IsLawful σ) (sym e) (lawful_push σ docs d (accepted_lawful m is) n.limits n.room);
      begun = begun_if σ docs d (stores_done c) b refl;
      closed = λ s l. longer s (is.closed s l);
      packs = λ l. (
        longer m.conversions.converted (is.packs l).0,
        (let k = ap (λ z. length (segment_stores σ z m.conversions.converted)) f ∙ ap length (segment_stays σ (with_current m.documents) more.0 m.conversions.converted (is.packs l).0) in
            omega (arith, k, (is.packs l).1)),
      );
    }

-- the moment after a store is not before the moment
pub later_stored : (m : Moment) (d : Doc) → IsCurrent m.documents.current d → IsNotBefore (after_store m d) m
unfolding after_store
later_stored m d is = record { setting = refl; documents = reaches_stored m.documents.accepted m.documents.current d _ is; conversions = (later_self m).conversions }

-- the moment without a document is one
pub moment_nothing : (σ : Setting) → IsSetting σ → IsMoment (empty_moment σ)
moment_nothing σ k = record {
  setting = k;
  lawful = record { documents = λ i d l. absurd (omega arith); rooms = rooms_by σ [] (λ i d l. absurd (omega arith)) };
  begun = tt;
  closed = λ s l. absurd (omega arith);
  packs = λ l. absurd (omega arith);
}

-- all its words are 0
pub word_nothing : (σ : Setting) (p : ℕ) → word (empty_moment σ) p ≡ 0
unfolding word document_stores placings_after conversion_stores conversions value_after
word_nothing σ p = refl
