-- One more store: the next pair of a placing changes one word, and the moment stays one.
use Rattle.std.proofs.Common.{◌≡◌, ℕ, zero, suc, ◌+◌, ◌<◌, ◌≤◌, ◌==◌, Bool, true, false, cond, ltb, List, [], ◌∷◌, ◌++◌, length}
use Rattle.std.proofs.Common.{take, refl, ap, sym, ◌∙◌, subst, arith, if◌then◌else◌, append-nil, append_assoc, Option, Some, None}
use Rattle.std.specs.Prelude.{slice_get}
use Rattle.std.proofs.lemmas.Bool.{ltb-false, eq-eqb, ne_eqb, false≢true}
use Rattle.std.proofs.lemmas.List.{map-append}
use native.Mathlib.Decide.{ℕ_discrete}
use Rattle.eb_base.specs.Document.{Doc}
use Rattle.eb_base.specs.Setting.{Setting, words_of}
use Rattle.eb_place.specs.declared.moment.Conversions.{Conversions}
use Rattle.eb_place.specs.declared.moment.Moment.{Moment}
use Rattle.eb_place.specs.Layout.{Slot, place}
use Rattle.eb_place.specs.Layout.Slot.{published}
use Rattle.eb_place.specs.Room.{cut, IsLawful}
use Rattle.eb_place.specs.Placing.{Store, pairs_of, doc_stores}
use Rattle.eb_place.specs.Conversion.{segment_stores}
use Rattle.eb_place.specs.Moments.{placings, value_after, with_current, current_of, current_stores, document_stores, conversions, conversion_stores, word, IsMoment}
use Rattle.eb_place.specs.NextStores.{stores_done, IsCurrent, IsNext, after_store, documents_after}
use Rattle.eb_place.proofs.CutSegments.{closed_stays}
use Rattle.eb_place.proofs.NextAddresses.{value_after-append}
use Rattle.eb_place.proofs.PlacesOfSlots.{InTable, place_in, untouched}
use Rattle.eb_place.proofs.FreshPoolWords.{Each, Each-append, All-from_Each}
use Rattle.eb_place.proofs.FreshPoolWords.Each.{none, more}
use Rattle.eb_place.proofs.StoresWithinTable.{IsWithin}
use Rattle.eb_place.proofs.WordsOfTokens.{Each-map}
use Rattle.eb_place.proofs.StoresOfDocuments.{doc_within}
use Rattle.eb_place.proofs.WordsAtMoment.{placed_all, Joins, joins, placings_push, lawful_front}
use Rattle.eb_place.proofs.PackedStores.{is_packed}
use Rattle.eb_place.proofs.CountWords.{body, body_split, body_writes, writes_plain}
use Rattle.eb_place.proofs.ReaderWords.{moment_packs}

-- ---- conversions of closed segments stay when documents come

-- the conversion of a closed segment is the same with further documents
pub segment_stays : (σ : Setting) (docs ds : List Doc) (s : ℕ) → s + 1 < length (cut σ docs) → segment_stores σ (docs ++ ds) s ≡ segment_stores σ docs s
unfolding segment_stores
segment_stays σ docs ds s h = ap (λ z. Rattle.eb_place.specs.Conversion.convert_stores s z) (closed_stays σ docs ds s h).1

-- so are those of all closed segments
pub conversions_stay : (σ : Setting) (docs ds : List Doc) (n : ℕ) → ((s : ℕ) → s < n → s + 1 < length (cut σ docs)) → conversions σ (docs ++ ds) n ≡ conversions σ docs n
unfolding conversions
conversions_stay σ docs ds zero h = refl
conversions_stay σ docs ds (suc n) h = λ i. conversions_stay σ docs ds n (λ s l. h s (omega arith)) i ++ segment_stays σ docs ds n (h n (omega arith)) i

-- and those of a conversion part
pub all_stay : (σ : Setting) (docs ds : List Doc) (c : Conversions) → ((s : ℕ) → s < c.converted → s + 1 < length (cut σ docs)) → (1 ≤ c.packed → c.converted + 1 < length (cut σ docs))
    → conversion_stores σ (docs ++ ds) c ≡ conversion_stores σ docs c
unfolding conversion_stores
all_stay σ docs ds c h k = λ i. conversions_stay σ docs ds c.converted h i ++ last c.packed k i
  where
    last : (n : ℕ) → (1 ≤ n → c.converted + 1 < length (cut σ docs)) → take n (segment_stores σ (docs ++ ds) c.converted) ≡ take n (segment_stores σ docs c.converted)
    last zero k = refl
    last (suc n) k = ap (take (suc n)) (segment_stays σ docs ds c.converted (k (omega arith)))

-- ---- the next store

-- the next pair is that of a store
pub record NextStore (σ : Setting) (docs : List Doc) (d : Doc) (i p v : ℕ) : Type 0 where
  pub slot : Slot
  pub is : slice_get (doc_stores σ docs d) i ≡ Some (slot, v)
  pub place : p ≡ place σ slot

-- a pair of a list of stores is that of a store
pub find : (σ : Setting) (xs : List Store) (i p v : ℕ) → slice_get (pairs_of σ xs) i ≡ Some (p, v) → (x : Slot) × (slice_get xs i ≡ Some (x, v)) × (p ≡ place σ x)
find σ [] i p v h = absurd cc
find σ (x ∷ xs) zero p v h = let e : (place σ x.0, x.1) ≡ (p, v) = cc in (x.0, ap (λ (z : ℕ). Some (x.0, z)) (ap (λ (z : ℕ × ℕ). z.1) e), ap (λ (z : ℕ × ℕ). z.0) (sym e))
find σ (x ∷ xs) (suc i) p v h = find σ xs i p v h

-- the next pair is that of a store
pub next_store : (m : Moment) (d : Doc) (p v : ℕ) → IsNext m d p v → NextStore m.setting m.documents.accepted d (stores_done m.documents.current) p v
next_store m d p v n = let r = find m.setting (doc_stores m.setting m.documents.accepted d) (stores_done m.documents.current) p v n.pair in record { slot = r.0; is = r.1; place = r.2 }

-- one more store is the next one
pub take_next : (xs : List Store) (i : ℕ) (x : Store) → slice_get xs i ≡ Some x → take (suc i) xs ≡ take i xs ++ x ∷ []
take_next [] i x e = absurd cc
take_next (y ∷ xs) zero x e = let s : y ≡ x = cc in ap (λ (z : Store). z ∷ []) s
take_next (y ∷ xs) (suc i) x e = ap (λ (z : List Store). y ∷ z) (take_next xs i x e)

-- no more stores than there are
pub take_whole : (xs : List Store) (n : ℕ) → length xs ≤ n → take n xs ≡ xs
take_whole [] zero h = refl
take_whole [] (suc n) h = refl
take_whole (x ∷ xs) zero h = absurd (omega arith)
take_whole (x ∷ xs) (suc n) h = ap (λ (z : List Store). x ∷ z) (take_whole xs n (omega arith))

-- the stores that are done of the document that is being placed
pub current_is : (σ : Setting) (docs : List Doc) (c : Option (Doc × ℕ)) (d : Doc) → IsCurrent c d → current_stores σ docs c ≡ take (stores_done c) (doc_stores σ docs d)
current_is σ docs None d is = refl
current_is σ docs (Some c) d is = ap (λ (e : Doc). take c.1 (doc_stores σ docs e)) is

stores_stored : (σ : Setting) (docs : List Doc) (c : Option (Doc × ℕ)) (d : Doc) (x : Store) → IsCurrent c d → slice_get (doc_stores σ docs d) (stores_done c) ≡ Some x
    → (b : Bool) → ltb (suc (stores_done c)) (length (doc_stores σ docs d)) ≡ b
    → document_stores σ (documents_after b docs d (suc (stores_done c))) ≡ document_stores σ record { accepted = docs; current = c } ++ x ∷ []
unfolding document_stores
stores_stored σ docs c d x is next true long =
    ap (λ (l : List Store). placings σ docs ++ l) (take_next _ _ _ next ∙ ap (λ (l : List Store). l ++ x ∷ []) (sym (current_is σ docs c d is)))
    ∙ sym (append_assoc (placings σ docs) (current_stores σ docs c) (x ∷ []))
stores_stored σ docs c d x is next false last =
    append-nil _
    ∙ placings_push σ docs d
    ∙ ap (λ (l : List Store). placings σ docs ++ l) (sym (take_whole _ _ (ltb-false _ _ last)) ∙ take_next _ _ _ next ∙ ap (λ (l : List Store). l ++ x ∷ []) (sym (current_is σ docs c d is)))
    ∙ sym (append_assoc (placings σ docs) (current_stores σ docs c) (x ∷ []))

-- the history with the document that is being placed, after the store
pub started_stored : (docs : List Doc) (c : Option (Doc × ℕ)) (d : Doc) (b : Bool) (i : ℕ) → IsCurrent c d → with_current (documents_after b docs d i) ≡ docs ++ d ∷ []
started_stored docs c d true i is = refl
started_stored docs c d false i is = append-nil (docs ++ d ∷ [])

-- the history with the document grows from what it was
pub started_more : (docs : List Doc) (c : Option (Doc × ℕ)) (d : Doc) → IsCurrent c d → (ds : List Doc) × (docs ++ d ∷ [] ≡ (docs ++ current_of c) ++ ds)
started_more docs None d is = (d ∷ [], ap (λ z. z ++ d ∷ []) (sym (append-nil docs)))
started_more docs (Some c) d is = ([], ap (λ (e : Doc). docs ++ e ∷ []) (sym is) ∙ sym (append-nil (docs ++ c.0 ∷ [])))

-- what a store is: within the table, and of the writer
pub record IsWriters (σ : Setting) (x : Slot) : Type 0 where
  pub within : InTable σ x
  pub plain : is_packed x ≡ false

-- what holds of each store holds of this one
pub each_at : {X : Type 0} {Q : X → Type 0} (xs : List X) (i : ℕ) (x : X) → Each Q xs → slice_get xs i ≡ Some x → Q x
each_at [] i x h e = absurd cc
each_at {Q = Q} (y ∷ xs) zero x (more h t) e = let s : y ≡ x = cc in subst Q s h
each_at (y ∷ xs) (suc i) x (more h t) e = each_at xs i x t e

-- the stores of a placing are none of the converter
pub doc_writers : (σ : Setting) (docs : List Doc) (d : Doc) (s : ℕ) (before : List Doc) → Joins σ docs d s before → Each (λ (y : Store). IsWriters σ y.0) (doc_stores σ docs d)
unfolding is_packed
doc_writers σ docs d s before j =
    let B = body σ s before (length docs) d in
    let all = subst (Each (IsWithin σ)) (body_split σ s before (length docs) d) (doc_within σ s before (length docs) d j.room j.few) in
    subst (Each (λ (y : Store). IsWriters σ y.0)) (sym (j.stores ∙ body_split σ s before (length docs) d))
    (both (B ++ (published, length docs + 1) ∷ []) all (Each-append (Each-map (λ y w. (writes_plain s y.0 w).0) (body_writes σ s before (length docs) d)) (more refl none)))
  where
    both : (xs : List Store) → Each (IsWithin σ) xs → Each (λ (y : Store). is_packed y.0 ≡ false) xs → Each (λ (y : Store). IsWriters σ y.0) xs
    both [] none none = none
    both (x ∷ xs) (more a t) (more b u) = more (record { within = a; plain = b }) (both xs t u)

pub accepted_lawful : (m : Moment) → IsMoment m → IsLawful m.setting m.documents.accepted
accepted_lawful m is = lawful_front m.setting m.documents.accepted (current_of m.documents.current) is.lawful

-- the next store goes to a word of the writer, within the table
pub next_writers : (m : Moment) (d : Doc) (p v : ℕ) → IsMoment m → (n : IsNext m d p v) → IsWriters m.setting (next_store m d p v n).slot
next_writers m d p v is n =
    let k = next_store m d p v n in
    let q = placed_all m.setting m.documents.accepted is.setting (accepted_lawful m is) in
    each_at (doc_stores m.setting m.documents.accepted d) (stores_done m.documents.current) (k.slot, v)
    (doc_writers m.setting m.documents.accepted d _ _ (joins m.setting m.documents.accepted d is.setting q.short (record { limits = n.limits; there = n.room }))) k.is

-- the next place is one of the index
pub next_in_table : (m : Moment) (d : Doc) (p v : ℕ) → IsMoment m → IsNext m d p v → p < words_of m.setting
next_in_table m d p v is n = let k = next_store m d p v n in let w = next_writers m d p v is n in omega (arith, place_in m.setting k.slot w.within, k.place)

-- the conversions are as before
pub conversions_same : (m : Moment) (d : Doc) (p v : ℕ) → IsMoment m → IsNext m d p v
    → conversion_stores m.setting (with_current (after_store m d).documents) m.conversions ≡ conversion_stores m.setting (with_current m.documents) m.conversions
unfolding after_store
conversions_same m d p v is n =
    let docs = m.documents.accepted in
    let c = m.documents.current in
    let more = started_more docs c d n.current in
    let e = started_stored docs c d (ltb (suc (stores_done c)) (length (doc_stores m.setting docs d))) (suc (stores_done c)) n.current ∙ more.1 in
    ap (λ z. conversion_stores m.setting z m.conversions) e
    ∙ all_stay m.setting (with_current m.documents) more.0 m.conversions is.closed (λ l. (is.packs l).0)

-- the writer's stores with one more
pub stored_stores : (m : Moment) (d : Doc) (p v : ℕ) → (n : IsNext m d p v)
    → document_stores m.setting (after_store m d).documents ≡ document_stores m.setting m.documents ++ ((next_store m d p v n).slot, v) ∷ []
unfolding after_store
stored_stores m d p v n = stores_stored m.setting m.documents.accepted m.documents.current d ((next_store m d p v n).slot, v) n.current (next_store m d p v n).is _ refl

value_elsewhere : (σ : Setting) (q p w : ℕ) (x : Slot) (xs : List Store) → InTable σ x → p ≡ place σ x → p ≡ q
    → Each (IsWithin σ) xs → Each (λ (y : Store). y.0 ≡ x → ⊥) xs → value_after q w (pairs_of σ xs) ≡ w
value_elsewhere σ q p w x xs h e k all other = ap (λ z. value_after z w (pairs_of σ xs)) (sym k ∙ e) ∙ untouched σ x w xs h (All-from_Each all) (All-from_Each other)

-- a store leaves the setting
pub setting_stored : (m : Moment) (d : Doc) → (after_store m d).setting ≡ m.setting
unfolding after_store
setting_stored m d = refl

-- one more store of a document changes the word at its own place alone
pub word_stored : (m : Moment) (d : Doc) (p v q : ℕ) → IsMoment m → IsNext m d p v → word (after_store m d) q ≡ cond (p == q) v (word m q)
unfolding word after_store value_after
word_stored m d p v q is n =
    let σ = m.setting in
    let D = document_stores σ m.documents in
    let C = conversion_stores σ (with_current m.documents) m.conversions in
    let k = next_store m d p v n in
    let w = next_writers m d p v is n in
    let packs = moment_packs m is in
    let left : word (after_store m d) q ≡ value_after q (if place σ k.slot == q then v else value_after q 0 (pairs_of σ D)) (pairs_of σ C) =
    (λ i. value_after q 0 (pairs_of σ (stored_stores m d p v n i ++ conversions_same m d p v is n i)))
    ∙ ap (value_after q 0) (map-append (λ (y : Store). (place σ y.0, y.1)) (D ++ (k.slot, v) ∷ []) C)
    ∙ value_after-append q 0 (pairs_of σ (D ++ (k.slot, v) ∷ [])) (pairs_of σ C)
    ∙ ap (λ z. value_after q z (pairs_of σ C))
    (ap (value_after q 0) (map-append (λ (y : Store). (place σ y.0, y.1)) D ((k.slot, v) ∷ [])) ∙ value_after-append q 0 (pairs_of σ D) (pairs_of σ ((k.slot, v) ∷ []))) in
    let right : word m q ≡ value_after q (value_after q 0 (pairs_of σ D)) (pairs_of σ C) =
    ap (value_after q 0) (map-append (λ (y : Store). (place σ y.0, y.1)) D C) ∙ value_after-append q 0 (pairs_of σ D) (pairs_of σ C) in
    elim (ℕ_discrete p q) [
      | yes e ↦ left ∙ ap (λ (b : Bool). value_after q (cond b v (value_after q 0 (pairs_of σ D))) (pairs_of σ C)) (eq-eqb (place σ k.slot) q (sym k.place ∙ e))
          ∙ value_elsewhere σ q p v k.slot C w.within k.place e (Each-map (λ y z. z.within) packs) (Each-map (λ y z o. false≢true (sym w.plain ∙ ap is_packed (sym o) ∙ z.packed)) packs)
          ∙ ap (λ (b : Bool). cond b v (word m q)) (sym (eq-eqb p q e))
      | no o ↦ left ∙ ap (λ (b : Bool). value_after q (cond b v (value_after q 0 (pairs_of σ D))) (pairs_of σ C)) (ne_eqb (place σ k.slot) q (λ e. o (k.place ∙ e)))
          ∙ sym right ∙ ap (λ (b : Bool). cond b v (word m q)) (sym (ne_eqb p q o))
    ]
