-- The id words of accepted documents.
use Rattle.std.proofs.Common.{◌≡◌, ℕ, zero, suc, ◌+◌, ◌-◌, ◌/◌, ◌%◌, ◌^◌, ◌<◌, ◌==◌, ◌&&◌, Bool, true, false, List, [], ◌∷◌, ◌++◌, length, map, take}
use Rattle.std.proofs.Common.{get_or, refl, ap, sym, ◌∙◌, subst, arith, inl, inr, nat_le, sum_by, append-nil, append_assoc, Option, Some, None}
use Rattle.std.proofs.lemmas.Bool.{cases_lt, false≢true}
use Rattle.std.proofs.lemmas.List.{length_push, map-append, length-map, take_all, get_or_append_left}
use Rattle.std.proofs.Math.Seq.{get_or-append_seam}
use native.Mathlib.Decide.{ℕ_discrete}
use Rattle.eb_base.specs.Term.{Term}
use Rattle.eb_base.specs.Document.{Doc}
use Rattle.eb_base.specs.Setting.{Setting, IsSetting}
use Rattle.eb_place.specs.declared.moment.Moment.{Moment}
use Rattle.eb_place.specs.Layout.{Slot, size, pool_slot, pool_region, place}
use Rattle.eb_place.specs.Layout.Slot.{published, slot}
use Rattle.eb_place.specs.Layout.Region.{first_region, converted_region, cell_region, text_place_region, tail_region}
use Rattle.eb_place.specs.Layout.Region.{text_region, id_region, pool_0, pool_1, pool_2, pool_3, directory_region, packed_region}
use Rattle.eb_place.specs.Postings.{count_of, distinct, posting_of, terms_of}
use Rattle.eb_place.specs.Room.{text_words, cut, IsLawful}
use Rattle.eb_place.specs.Address.{pool_at, begins, address_of}
use Rattle.eb_place.specs.Placing.{Store, in_row, text_of, enter_stores, append_stores, token_stores, tokens_stores, stores_in, doc_stores}
use Rattle.eb_place.specs.Moments.{placings, current_of, current_stores, document_stores, word, IsMoment}
use Rattle.eb_place.proofs.FreshPoolWords.{Each, Each-append, Each-if}
use Rattle.eb_place.proofs.FreshPoolWords.Each.{none, more}
use Rattle.eb_place.proofs.PlacesOfSlots.{InTable}
use Rattle.eb_place.proofs.WordsOfTokens.{val, val_stored, val_keeps, Each-map, Each-take}
use Rattle.eb_place.proofs.StoresOfDocuments.{doc_within, doc_elsewhere, first_stores, stores_split}
use Rattle.eb_place.proofs.WordsAtMoment.{Placed, placed_all, Joins, joins, placings_push, lawful_front, lawful_last}
use Rattle.eb_place.proofs.PackedStores.{is_packed}
use Rattle.eb_place.proofs.ReaderWords.{word_of_writer}

-- the words that tokens store
unfoldable pub of_token : Slot → Bool
of_token published = false
of_token (slot s first_region i) = false
of_token (slot s converted_region i) = false
of_token (slot s cell_region i) = true
of_token (slot s text_place_region i) = true
of_token (slot s tail_region i) = true
of_token (slot s text_region i) = true
of_token (slot s id_region i) = false
of_token (slot s pool_0 i) = true
of_token (slot s pool_1 i) = true
of_token (slot s pool_2 i) = true
of_token (slot s pool_3 i) = true
of_token (slot s directory_region i) = false
of_token (slot s packed_region i) = false

row_kind : (s i : ℕ) (vs : List ℕ) → Each (λ (y : Store). of_token y.0 ≡ true) (in_row s text_region i vs)
unfolding of_token
row_kind s i [] = none
row_kind s i (v ∷ vs) = more refl (row_kind s (i + 1) vs)

pool_kind : (s a : ℕ) → of_token (pool_slot s a) ≡ true
unfolding pool_slot of_token
pool_kind s a = region (a / 2 ^ 30) (a % 2 ^ 30)
  where
    region : (p i : ℕ) → of_token (slot s (pool_region p) i) ≡ true
    region zero i = refl
    region (suc zero) i = refl
    region (suc (suc zero)) i = refl
    region (suc (suc (suc p))) i = refl

token_kind : (σ : Setting) (s : ℕ) (ts : List Term) (u : Term) (p : ℕ) → Each (λ (y : Store). of_token y.0 ≡ true) (token_stores σ s ts u p)
unfolding token_stores enter_stores append_stores of_token
token_kind σ s ts u p =
    Each-append
    (Each-if (count_of u ts == 0) (λ z. Each-append (row_kind s (sum_by text_words (distinct ts)) (text_of u)) (more refl (more refl none))))
    (Each-append (Each-if (begins (count_of u ts) && nat_le 1 (pool_at (count_of u ts))) (λ z. more (pool_kind s (address_of u (count_of u ts) ts - 1)) none))
    (more (pool_kind s (address_of u (count_of u ts) ts)) (more refl none)))

-- the stores of tokens are none of ids
pub tokens_kind : (σ : Setting) (s n p : ℕ) (ts us : List Term) → Each (λ (y : Store). of_token y.0 ≡ true) (tokens_stores σ s n p ts us)
unfolding tokens_stores
tokens_kind σ s n p ts [] = none
tokens_kind σ s n p ts (u ∷ us) = Each-append (token_kind σ s ts u (posting_of n p)) (tokens_kind σ s n (p + 1) (ts ++ u ∷ []) us)

not_id : (s i : ℕ) (x : Slot) → of_token x ≡ true → x ≡ slot s id_region i → ⊥
unfolding of_token
not_id s i x h e = false≢true (sym (ap of_token e) ∙ h)

id_index : (s i j : ℕ) → slot s id_region i ≡ slot s id_region j → i ≡ j
id_index s i j e = cc

first_not_id : (s v i c : ℕ) (seg : List Doc) → Each (λ (y : Store). y.0 ≡ slot v id_region i → ⊥) (first_stores s seg c)
unfolding first_stores
first_not_id s v i c seg = Each-if (length seg == 0) (λ z. more (λ e. absurd cc) none)

-- no other id word is stored
others : (σ : Setting) (s : ℕ) (seg : List Doc) (count : ℕ) (d : Doc) (i : ℕ) → i < length seg → Each (λ (y : Store). y.0 ≡ slot s id_region i → ⊥) (stores_in σ s seg count d)
others σ s seg count d i h = subst (Each (λ (y : Store). y.0 ≡ slot s id_region i → ⊥)) (sym (stores_split σ s seg count d))
    (Each-append (first_not_id s s i count seg) (Each-append (Each-map (λ y k. not_id s i y.0 k) (tokens_kind σ s (length seg) 0 (terms_of seg) d.terms))
    (more (λ e. let q = id_index s (length seg) i e in omega arith) (more (λ e. absurd cc) none))))

id_within : (σ : Setting) (s i : ℕ) → s < σ.segments → i < σ.docs → InTable σ (slot s id_region i)
unfolding size
id_within σ s i h l = (h, l)

-- the ids of documents
abbrev pub ids_of : List Doc → List ℕ
ids_of seg = map (λ d. d.id) seg

-- the id words after whole documents
abbrev pub Ids : Setting → List Doc → Type 0
Ids σ docs = (s i : ℕ) → s < σ.segments → i < length (get_or (cut σ docs) s []) → val σ (placings σ docs) (slot s id_region i) ≡ get_or (ids_of (get_or (cut σ docs) s [])) i 0

-- the stores of the document that belongs into segment s leave the ids of the documents before it
pub ids_keep : (σ : Setting) (docs : List Doc) (d : Doc) (v : ℕ) (before : List Doc) (r s i : ℕ) → Placed σ docs → Joins σ docs d v before → s < σ.segments → i < length (get_or (cut σ docs) s [])
    → val σ (placings σ docs ++ take r (doc_stores σ docs d)) (slot s id_region i) ≡ val σ (placings σ docs) (slot s id_region i)
ids_keep σ docs d v before r s i p j h l =
    let few = p.few s in
    let w = doc_within σ v before (length docs) d j.room j.few in
    ap (λ z. val σ (placings σ docs ++ take r z) (slot s id_region i)) j.stores
    ∙ val_keeps σ (placings σ docs) (take r (stores_in σ v before (length docs) d)) (slot s id_region i) (id_within σ s i h (omega arith)) (Each-take r w) (Each-take r (apart (ℕ_discrete v s)))
  where
    apart : Dec (v ≡ s) → Each (λ (y : Store). y.0 ≡ slot s id_region i → ⊥) (stores_in σ v before (length docs) d)
    apart (yes e) = subst (λ z. Each (λ (y : Store). y.0 ≡ slot z id_region i → ⊥) (stores_in σ v before (length docs) d)) e
        (others σ v before (length docs) d i (omega (arith, ap length j.old, ap (λ z. length (get_or (cut σ docs) z [])) e)))
    apart (no o) = Each-map (λ y k. k id_region i) (doc_elsewhere σ v s before (length docs) d o)

id_stored : (σ : Setting) (docs : List Doc) (d : Doc) (v : ℕ) (before : List Doc) → Joins σ docs d v before → val σ (placings σ docs ++ doc_stores σ docs d) (slot v id_region (length before)) ≡ d.id
id_stored σ docs d v before j =
    let L = placings σ docs in
    let F = first_stores v before (length docs) in
    let T = tokens_stores σ v (length before) 0 (terms_of before) d.terms in
    let x : Store = (slot v id_region (length before), d.id) in
    let y : Store = (published, length docs + 1) in
    let e : L ++ doc_stores σ docs d ≡ (((L ++ F) ++ T) ++ x ∷ []) ++ y ∷ [] = ap (λ z. L ++ z) (j.stores ∙ stores_split σ v before (length docs) d) ∙ simp append_assoc in
    ap (λ z. val σ z (slot v id_region (length before))) e
    ∙ val_keeps σ (((L ++ F) ++ T) ++ x ∷ []) (y ∷ []) (slot v id_region (length before)) (id_within σ v (length before) j.inside j.few) (more tt none) (more (λ q. absurd cc) none)
    ∙ val_stored σ ((L ++ F) ++ T) (slot v id_region (length before)) d.id

ids_push : (σ : Setting) (docs : List Doc) (d : Doc) (v : ℕ) (before : List Doc) → Placed σ docs → Joins σ docs d v before → Ids σ docs → Ids σ (docs ++ d ∷ [])
ids_push σ docs d v before p j h s i inside l =
    let whole : take (length (doc_stores σ docs d)) (doc_stores σ docs d) ≡ doc_stores σ docs d = take_all (length (doc_stores σ docs d)) (doc_stores σ docs d) (omega arith) in
    let e = placings_push σ docs d in
    let keep : i < length (get_or (cut σ docs) s []) → val σ (placings σ (docs ++ d ∷ [])) (slot s id_region i) ≡ get_or (ids_of (get_or (cut σ docs) s [])) i 0 =
    λ k. ap (λ z. val σ z (slot s id_region i)) (e ∙ ap (λ z. placings σ docs ++ z) (sym whole)) ∙ ids_keep σ docs d v before (length (doc_stores σ docs d)) s i p j inside k ∙ h s i inside k in
    elim (ℕ_discrete s v) [
      | no o ↦ let q = j.other s o in keep (omega (arith, l, ap length q)) ∙ ap (λ z. get_or (ids_of z) i 0) (sym q)
      | yes q ↦
          let here : get_or (cut σ (docs ++ d ∷ [])) s [] ≡ before ++ d ∷ [] = ap (λ z. get_or (cut σ (docs ++ d ∷ [])) z []) q ∙ j.here in
          let old : get_or (cut σ docs) s [] ≡ before = ap (λ z. get_or (cut σ docs) z []) q ∙ j.old in
          let n : ids_of (get_or (cut σ (docs ++ d ∷ [])) s []) ≡ ids_of before ++ d.id ∷ [] = ap ids_of here ∙ map-append (λ (x : Doc). x.id) before (d ∷ []) in
          let m = length-map before (λ (x : Doc). x.id) in
          elim (cases_lt i (length before)) [
            | inl low ↦ keep (omega (arith, ap length old)) ∙ ap (λ z. get_or (ids_of z) i 0) old ∙ sym (ap (λ z. get_or z i 0) n ∙ get_or_append_left (ids_of before) (d.id ∷ []) 0 i (omega arith))
            | inr high ↦
                let at : i ≡ length before = omega (arith, l, ap length here, length_push before d) in
                (λ k. val σ (e k) (slot (q k) id_region (at k))) ∙ id_stored σ docs d v before j
                ∙ sym (ap (λ z. get_or z i 0) n ∙ ap (λ k. get_or (ids_of before ++ d.id ∷ []) k 0) (let r : i ≡ length (ids_of before) = omega arith in r)
                ∙ get_or-append_seam (ids_of before) d.id [] 0)
          ]
    ]

ids_after : (σ : Setting) (ys zs : List Doc) → IsSetting σ → IsLawful σ (ys ++ zs) → Ids σ ys → Ids σ (ys ++ zs)
ids_after σ ys [] k h p = subst (Ids σ) (sym (append-nil ys)) p
ids_after σ ys (z ∷ zs) k h p =
    let e : (ys ++ z ∷ []) ++ zs ≡ ys ++ (z ∷ zs) = append_assoc ys (z ∷ []) zs in
    let h' = subst (IsLawful σ) (sym e) h in
    let one = lawful_front σ (ys ++ z ∷ []) zs h' in
    let a = placed_all σ ys k (lawful_front σ ys (z ∷ []) one) in
    subst (Ids σ) e (ids_after σ (ys ++ z ∷ []) zs k h' (ids_push σ ys z _ _ a (joins σ ys z k a.short (lawful_last σ ys z one)) p))

-- each id word after the placings of a lawful history
pub ids_all : (σ : Setting) (docs : List Doc) → IsSetting σ → IsLawful σ docs → Ids σ docs
unfolding cut
ids_all σ docs k h = ids_after σ [] docs k h (λ s i a l. absurd (nowhere s i l))
  where
    nowhere : (s i : ℕ) → i < length (get_or {A = List Doc} [] s []) → ⊥
    nowhere zero i l = omega arith
    nowhere (suc s) i l = omega arith

-- at an id word of an accepted document: its id
pub word_id : (m : Moment) (s i : ℕ) → IsMoment m → s < m.setting.segments → i < length (get_or (cut m.setting m.documents.accepted) s [])
    → word m (place m.setting (slot s id_region i)) ≡ get_or (ids_of (get_or (cut m.setting m.documents.accepted) s [])) i 0
unfolding document_stores is_packed
word_id m s i is h l =
    let σ = m.setting in
    let docs = m.documents.accepted in
    let p = placed_all σ docs is.setting (lawful_front σ docs (current_of m.documents.current) is.lawful) in
    let few = p.few s in
    word_of_writer m (slot s id_region i) is (id_within σ s i h (omega arith)) (λ e. false≢true e)
    ∙ go m.documents.current is.lawful
    ∙ ids_all σ docs is.setting (lawful_front σ docs (current_of m.documents.current) is.lawful) s i h l
  where
    go : (c : Option (Doc × ℕ)) → IsLawful m.setting (m.documents.accepted ++ current_of c)
        → val m.setting (placings m.setting m.documents.accepted ++ current_stores m.setting m.documents.accepted c) (slot s id_region i)
        ≡ val m.setting (placings m.setting m.documents.accepted) (slot s id_region i)
    go None k = ap (λ z. val m.setting z (slot s id_region i)) (append-nil (placings m.setting m.documents.accepted))
    go (Some c) k =
        let p = placed_all m.setting m.documents.accepted is.setting (lawful_front m.setting m.documents.accepted (c.0 ∷ []) k) in
        ids_keep m.setting m.documents.accepted c.0 _ _ c.1 s i p (joins m.setting m.documents.accepted c.0 is.setting p.short (lawful_last m.setting m.documents.accepted c.0 k)) h l
