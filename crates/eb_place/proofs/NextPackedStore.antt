-- One more store of a conversion.
use Rattle.std.proofs.Common.{◌≡◌, ℕ, suc, ◌<◌, ◌==◌, Bool, true, false, cond, ltb, List, [], ◌∷◌, ◌++◌, length, take, refl, ap, sym, ◌∙◌, arith, inl, inr, append-nil, append_assoc, Some}
use Rattle.std.specs.Prelude.{slice_get}
use Rattle.std.proofs.lemmas.Bool.{ltb-true, ltb-false}
use Rattle.std.proofs.lemmas.List.{map-append}
use Rattle.eb_base.specs.Document.{Doc}
use Rattle.eb_base.specs.Setting.{Setting, words_of}
use Rattle.eb_place.specs.declared.moment.Conversions.{Conversions}
use Rattle.eb_place.specs.declared.moment.Moment.{Moment}
use Rattle.eb_place.specs.Layout.{place}
use Rattle.eb_place.specs.Placing.{Store, pairs_of}
use Rattle.eb_place.specs.Conversion.{segment_stores}
use Rattle.eb_place.specs.Moments.{value_after, with_current, document_stores, conversions, conversion_stores, word, IsMoment, IsClosed}
use Rattle.eb_place.specs.Later.{ReachesPacked, IsNotBefore}
use Rattle.eb_place.specs.NextStores.{IsNextPut, conversions_after, after_put}
use Rattle.eb_place.proofs.NextAddresses.{value_after-append}
use Rattle.eb_place.proofs.PlacesOfSlots.{place_in}
use Rattle.eb_place.proofs.LaterMoments.{later_self}
use Rattle.eb_place.proofs.WordsAtMoment.{placed_all}
use Rattle.eb_place.proofs.PackedStores.{segment_packs}
use Rattle.eb_place.proofs.NextStore.{find, take_next, take_whole, each_at}

more_packed : (σ : Setting) (docs : List Doc) (c : Conversions) (x : Store) → slice_get (segment_stores σ docs c.converted) c.packed ≡ Some x
    → (b : Bool) → ltb (suc c.packed) (length (segment_stores σ docs c.converted)) ≡ b → conversion_stores σ docs (conversions_after b c) ≡ conversion_stores σ docs c ++ x ∷ []
unfolding conversion_stores conversions
more_packed σ docs c x next true long =
    ap (λ (l : List Store). conversions σ docs c.converted ++ l) (take_next _ _ _ next)
    ∙ sym (append_assoc (conversions σ docs c.converted) (take c.packed (segment_stores σ docs c.converted)) (x ∷ []))
more_packed σ docs c x next false last =
    append-nil _
    ∙ ap (λ (l : List Store). conversions σ docs c.converted ++ l) (sym (take_whole _ _ (ltb-false _ _ last)) ∙ take_next _ _ _ next)
    ∙ sym (append_assoc (conversions σ docs c.converted) (take c.packed (segment_stores σ docs c.converted)) (x ∷ []))

-- one more store of a conversion changes the word at its own place alone
pub word_packed : (m : Moment) (p v q : ℕ) → IsNextPut m p v → word (after_put m) q ≡ cond (p == q) v (word m q)
unfolding word after_put value_after
word_packed m p v q n =
    let σ = m.setting in
    let docs = with_current m.documents in
    let D = document_stores σ m.documents in
    let C = conversion_stores σ docs m.conversions in
    let k = find σ (segment_stores σ docs m.conversions.converted) m.conversions.packed p v n.pair in
    let x : Store = (k.0, v) in
    ap (λ (z : List Store). value_after q 0 (pairs_of σ (D ++ z))) (more_packed σ docs m.conversions x k.1 _ refl)
    ∙ ap (λ (z : List Store). value_after q 0 (pairs_of σ z)) (sym (append_assoc D C (x ∷ [])))
    ∙ ap (value_after q 0) (map-append (λ (y : Store). (place σ y.0, y.1)) (D ++ C) (x ∷ []))
    ∙ value_after-append q 0 (pairs_of σ (D ++ C)) (pairs_of σ (x ∷ []))
    ∙ ap (λ (z : ℕ). cond (z == q) v (word m q)) (sym k.2)

-- the next place is one of the index
pub packed_in_table : (m : Moment) (p v : ℕ) → IsMoment m → IsNextPut m p v → p < words_of m.setting
packed_in_table m p v is n =
    let σ = m.setting in
    let docs = with_current m.documents in
    let k = find σ (segment_stores σ docs m.conversions.converted) m.conversions.packed p v n.pair in
    let a = placed_all σ docs is.setting is.lawful in
    let short = a.short in
    let c = n.closed in
    let w = each_at (segment_stores σ docs m.conversions.converted) m.conversions.packed (k.0, v) (segment_packs σ docs m.conversions.converted (a.room m.conversions.converted (omega arith))) k.1 in
    omega (arith, place_in σ k.0 w.within, k.2)

packed_moment : (m : Moment) (b : Bool) → IsMoment m → IsClosed m m.conversions.converted
    → ltb (suc m.conversions.packed) (length (segment_stores m.setting (with_current m.documents) m.conversions.converted)) ≡ b
    → IsMoment record { setting = m.setting; documents = m.documents; conversions = conversions_after b m.conversions }
packed_moment m true is c e = record { setting = is.setting; lawful = is.lawful; begun = is.begun; closed = is.closed; packs = λ l. (c, ltb-true _ _ e) }
packed_moment m false is c e = record { setting = is.setting; lawful = is.lawful; begun = is.begun; closed = λ s l. omega arith; packs = λ l. absurd (omega arith) }

-- the moment after a put is one
pub moment_packed : (m : Moment) (p v : ℕ) → IsMoment m → IsNextPut m p v → IsMoment (after_put m)
unfolding after_put
moment_packed m p v is n = packed_moment m _ is n.closed refl

reaches_packed : (c : Conversions) (b : Bool) → ReachesPacked c (conversions_after b c)
reaches_packed c true = inr (refl, omega arith)
reaches_packed c false = inl (omega arith)

-- and not before the moment
pub later_packed : (m : Moment) → IsNotBefore (after_put m) m
unfolding after_put
later_packed m = record { setting = refl; documents = (later_self m).documents; conversions = reaches_packed m.conversions _ }

-- of the same setting
pub setting_packed : (m : Moment) → (after_put m).setting ≡ m.setting
unfolding after_put
setting_packed m = refl
