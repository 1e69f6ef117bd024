-- The first-document words.
use Rattle.std.proofs.Common.{◌≡◌, ◌≢◌, ℕ, zero, suc, ◌+◌, ◌-◌, ◌<◌, ◌≤◌, ◌==◌, Bool, true, cond, List, [], ◌∷◌, ◌++◌, length, take, get_or, refl}
use Rattle.std.proofs.Common.{ap, sym, ◌∙◌, subst, arith, inl, inr, if◌then◌else◌, append-nil, append_assoc, lit<, Option, Some, None, sum_by}
use Rattle.std.proofs.lemmas.Bool.{cases_Bool, false≢true, ne_eqb}
use Rattle.std.proofs.lemmas.List.{length_push, take_all}
use Rattle.std.proofs.lemmas.List.Sums.{sum_by-cons}
use native.Mathlib.Decide.{ℕ_discrete}
use Rattle.eb_base.specs.Document.{Doc}
use Rattle.eb_base.specs.Setting.{Setting, IsSetting}
use Rattle.eb_place.specs.declared.moment.Moment.{Moment}
use Rattle.eb_place.specs.Layout.{Slot, size, place}
use Rattle.eb_place.specs.Layout.Slot.{published, slot}
use Rattle.eb_place.specs.Layout.Region.{first_region, id_region}
use Rattle.eb_place.specs.Postings.{terms_of}
use Rattle.eb_place.specs.Room.{cut, with_doc, fits, IsLawful}
use Rattle.eb_place.specs.Placing.{Store, tokens_stores, stores_in, doc_stores}
use Rattle.eb_place.specs.Moments.{placings, placings_after, value_after, with_current, current_of, current_stores, document_stores, word, IsMoment, IsBegun}
use Rattle.eb_place.proofs.TermCounts.{by_push}
use Rattle.eb_place.proofs.CutSegments.{cut_push, with_doc_last}
use Rattle.eb_place.proofs.FreshPoolWords.{Each, Each-append}
use Rattle.eb_place.proofs.FreshPoolWords.Each.{none, more}
use Rattle.eb_place.proofs.PlacesOfSlots.{InTable}
use Rattle.eb_place.proofs.StoresWithinTable.{IsWithin}
use Rattle.eb_place.proofs.WordsOfTokens.{val, val_stored, val_keeps, Each-map, Each-take}
use Rattle.eb_place.proofs.StoresOfDocuments.{doc_within, doc_elsewhere, first_stores, stores_split}
use Rattle.eb_place.proofs.StoringTokens.{Each-back}
use Rattle.eb_place.proofs.WordsOfHistories.{goes, before_in}
use Rattle.eb_place.proofs.WordsAtMoment.{placed_all, Joins, joins, placings_push, lawful_front, lawful_last}
use Rattle.eb_place.proofs.PackedStores.{is_packed}
use Rattle.eb_place.proofs.ReaderWords.{word_of_writer}
use Rattle.eb_place.proofs.CountWords.{body, body_split}
use Rattle.eb_place.proofs.IdWords.{of_token, tokens_kind}

-- the number of the first document of segment s plus 1, where n documents come before these
-- segments; 0 where there is none
abbrev pub first_in : ℕ → List (List Doc) → ℕ → ℕ
first_in n [] s = 0
first_in n (x ∷ xs) zero = n + 1
first_in n (x ∷ xs) (suc s) = first_in (n + length x) xs s

-- one more document changes it where a segment begins, alone
pub first_push : (σ : Setting) (segs : List (List Doc)) (d : Doc) (n s : ℕ) → s ≢ length segs → first_in n (with_doc σ segs d) s ≡ first_in n segs s
first_push σ [] d n zero h = absurd (h refl)
first_push σ [] d n (suc s) h = refl
first_push σ (x ∷ []) d n s h = elim (cases_Bool (fits σ x d)) [
  | inl here ↦ rw here (one s)
  | inr away ↦ rw away (two s h)
]
  where
    one : (s : ℕ) → first_in n ((x ++ d ∷ []) ∷ []) s ≡ first_in n (x ∷ []) s
    one zero = refl
    one (suc s) = refl

    two : (s : ℕ) → s ≢ 1 → first_in n (x ∷ (d ∷ []) ∷ []) s ≡ first_in n (x ∷ []) s
    two zero h = refl
    two (suc zero) h = absurd (h refl)
    two (suc (suc s)) h = refl
first_push σ (x ∷ y ∷ ys) d n zero h = refl
first_push σ (x ∷ y ∷ ys) d n (suc s) h = first_push σ (y ∷ ys) d (n + length x) s (λ e. h (ap suc e))

-- a begun segment
pub first_new : (σ : Setting) (segs : List (List Doc)) (d : Doc) (n : ℕ) → length (with_doc σ segs d) ≡ length segs + 1 → first_in n (with_doc σ segs d) (length segs) ≡ n + sum_by length segs + 1
first_new σ [] d n h = omega arith
first_new σ (x ∷ []) d n h = elim (cases_Bool (fits σ x d)) [
  | inl here ↦ absurd (let h' = rw here at h in omega arith)
  | inr away ↦ rw away (omega (arith, sum_by-cons {X = List Doc} length x []))
]
first_new σ (x ∷ y ∷ ys) d n h = first_new σ (y ∷ ys) d (n + length x) (omega arith) ∙ omega (arith, sum_by-cons {X = List Doc} length x (y ∷ ys))

-- the segments are the history
with_doc_sum : (σ : Setting) (segs : List (List Doc)) (d : Doc) → sum_by length (with_doc σ segs d) ≡ sum_by length segs + 1
with_doc_sum σ [] d = refl
with_doc_sum σ (x ∷ []) d = elim (cases_Bool (fits σ x d)) [
  | inl here ↦ rw here (omega (arith, length_push x d))
  | inr away ↦ rw away (omega arith)
]
with_doc_sum σ (x ∷ y ∷ ys) d = omega (arith, with_doc_sum σ (y ∷ ys) d, sum_by-cons {X = List Doc} length x (with_doc σ (y ∷ ys) d), sum_by-cons {X = List Doc} length x (y ∷ ys))

-- the segments have the documents of the history
pub cut_sum : (σ : Setting) (docs : List Doc) → sum_by length (cut σ docs) ≡ length docs
unfolding cut
cut_sum σ = by_push (λ docs. sum_by length (cut σ docs) ≡ length docs) refl (λ docs d h. ap (sum_by length) (cut_push σ docs d) ∙ with_doc_sum σ (cut σ docs) d ∙ omega (arith, length_push docs d))

pub first_beyond : (segs : List (List Doc)) (n s : ℕ) → length segs ≤ s → first_in n segs s ≡ 0
first_beyond [] n s h = refl
first_beyond (x ∷ xs) n zero h = absurd (omega arith)
first_beyond (x ∷ xs) n (suc s) h = first_beyond xs (n + length x) s (omega arith)

get_beyond : (segs : List (List Doc)) (s : ℕ) → length segs ≤ s → get_or segs s [] ≡ []
get_beyond [] zero h = refl
get_beyond [] (suc s) h = refl
get_beyond (x ∷ xs) zero h = absurd (omega arith)
get_beyond (x ∷ xs) (suc s) h = get_beyond xs s (omega arith)

with_doc_length : (σ : Setting) (segs : List (List Doc)) (d : Doc) → (length segs ≤ length (with_doc σ segs d)) × (length (with_doc σ segs d) ≤ length segs + 1) × (1 ≤ length (with_doc σ segs d))
with_doc_length σ [] d = (omega arith, omega arith, omega arith)
with_doc_length σ (x ∷ segs) d = elim (with_doc_last σ x segs d) [
  | inl w ↦ (omega (arith, w.1), omega (arith, w.1), omega (arith, w.1))
  | inr w ↦ (omega (arith, w.1), omega (arith, w.1), omega (arith, w.1))
]

-- no segment is empty
pub cut_nonempty : (σ : Setting) (docs : List Doc) (s : ℕ) → s < length (cut σ docs) → 1 ≤ length (get_or (cut σ docs) s [])
unfolding cut
cut_nonempty σ = by_push (λ docs. (s : ℕ) → s < length (cut σ docs) → 1 ≤ length (get_or (cut σ docs) s [])) (λ s h. absurd (omega arith)) step
  where
    step : (docs : List Doc) (d : Doc) → ((s : ℕ) → s < length (cut σ docs) → 1 ≤ length (get_or (cut σ docs) s []))
        → (s : ℕ) → s < length (cut σ (docs ++ d ∷ [])) → 1 ≤ length (get_or (cut σ (docs ++ d ∷ [])) s [])
    step docs d ih s h =
        let segs = cut σ docs in
        let e = cut_push σ docs d in
        let g = goes σ segs d in
        let w = with_doc_length σ segs d in
        let l = ap length e in
        elim (ℕ_discrete s (length (with_doc σ segs d) - 1)) [
          | yes q ↦ omega (arith, ap (λ z. length (get_or z s [])) e, ap (λ k. length (get_or (with_doc σ segs d) k [])) q, ap length g.here, length_push (before_in σ segs d) d)
          | no o ↦ omega (arith, ap (λ z. length (get_or z s [])) e, ap length (g.other s o), ih s (omega (arith, w.0, w.1, w.2)))
        ]

first_within : (σ : Setting) (s : ℕ) → s < σ.segments → InTable σ (slot s first_region 0)
unfolding size
first_within σ s h = (h, lit< tt)

not_first : (s : ℕ) (x : Slot) → of_token x ≡ true → x ≡ slot s first_region 0 → ⊥
unfolding of_token
not_first s x h e = false≢true (sym (ap of_token e) ∙ h)

-- the stores after the first
abbrev pub rest_stores : Setting → ℕ → List Doc → ℕ → Doc → List Store
rest_stores σ s seg count d = tokens_stores σ s (length seg) 0 (terms_of seg) d.terms ++ (slot s id_region (length seg), d.id) ∷ (published, count + 1) ∷ []

rest_apart : (σ : Setting) (s : ℕ) (seg : List Doc) (count : ℕ) (d : Doc) → Each (λ (y : Store). y.0 ≡ slot s first_region 0 → ⊥) (rest_stores σ s seg count d)
rest_apart σ s seg count d = Each-append (Each-map (λ y k. not_first s y.0 k) (tokens_kind σ s (length seg) 0 (terms_of seg) d.terms)) (more (λ e. absurd cc) (more (λ e. absurd cc) none))

pub begins_stores : (s : ℕ) (seg : List Doc) (c : ℕ) → seg ≡ [] → first_stores s seg c ≡ (slot s first_region 0, c + 1) ∷ []
unfolding first_stores
begins_stores s seg c e = ap (λ (z : List Doc). if length z == 0 then ((slot s first_region 0, c + 1) ∷ []) else []) e

joins_stores : (s : ℕ) (seg : List Doc) (c : ℕ) → 1 ≤ length seg → first_stores s seg c ≡ []
unfolding first_stores
joins_stores s seg c h = ap (λ (b : Bool). cond b ((slot s first_region 0, c + 1) ∷ []) []) (ne_eqb (length seg) 0 (λ e. omega arith))

-- after the first r stores of a document, at least one
pub first_after : (σ : Setting) (docs : List Doc) (d : Doc) (v : ℕ) (before : List Doc) (r s : ℕ) → v ≡ length (with_doc σ (cut σ docs) d) - 1 → Joins σ docs d v before → s < σ.segments
    → val σ (placings σ docs) (slot s first_region 0) ≡ first_in 0 (cut σ docs) s
    → val σ (placings σ docs ++ take (suc r) (doc_stores σ docs d)) (slot s first_region 0) ≡ first_in 0 (cut σ (docs ++ d ∷ [])) s
first_after σ docs d v before r s at j h old =
    let segs = cut σ docs in
    let new = with_doc σ segs d in
    let e : cut σ (docs ++ d ∷ []) ≡ new = cut_push σ docs d in
    let w = with_doc_length σ segs d in
    let L = placings σ docs in
    let within = doc_within σ v before (length docs) d j.room j.few in
    let split = j.stores ∙ stores_split σ v before (length docs) d in
    let kept : Each (λ (y : Store). y.0 ≡ slot s first_region 0 → ⊥) (stores_in σ v before (length docs) d)
    → val σ (L ++ take (suc r) (doc_stores σ docs d)) (slot s first_region 0) ≡ first_in 0 segs s =
    λ a. ap (λ z. val σ (L ++ take (suc r) z) (slot s first_region 0)) j.stores
    ∙ val_keeps σ L (take (suc r) (stores_in σ v before (length docs) d)) (slot s first_region 0) (first_within σ s h) (Each-take (suc r) within) (Each-take (suc r) a) ∙ old in
    let same : s ≢ length segs → first_in 0 segs s ≡ first_in 0 (cut σ (docs ++ d ∷ [])) s = λ o. sym (ap (λ z. first_in 0 z s) e ∙ first_push σ segs d 0 s o) in
    elim (ℕ_discrete v (length segs)) [
      | yes q ↦ elim (ℕ_discrete s v) [
        | yes k ↦
            let none_before : before ≡ [] = sym j.old ∙ get_beyond segs v (omega arith) in
            let R = rest_stores σ v before (length docs) d in
            let x : Store = (slot v first_region 0, length docs + 1) in
            let all : doc_stores σ docs d ≡ x ∷ R = split ∙ ap (λ z. z ++ R) (begins_stores v before (length docs) none_before) in
            let inside : Each (IsWithin σ) (x ∷ R) = subst (Each (IsWithin σ)) all (subst (Each (IsWithin σ)) (sym j.stores) within) in
            ap (λ z. val σ (L ++ take (suc r) (doc_stores σ docs d)) (slot z first_region 0)) k
            ∙ ap (λ z. val σ (L ++ take (suc r) z) (slot v first_region 0)) all
            ∙ ap (λ z. val σ z (slot v first_region 0)) (sym (append_assoc L (x ∷ []) (take r R)))
            ∙ val_keeps σ (L ++ x ∷ []) (take r R) (slot v first_region 0) (first_within σ v j.inside) (Each-take r (Each-back (x ∷ []) R inside)) (Each-take r (rest_apart σ v before (length docs) d))
            ∙ val_stored σ L (slot v first_region 0) (length docs + 1)
            ∙ sym ((λ i. first_in 0 (e i) ((k ∙ q) i)) ∙ first_new σ segs d 0 (omega (arith, w.0, w.1, w.2)) ∙ omega (arith, cut_sum σ docs))
        | no o ↦ kept (Each-map (λ y z. z first_region 0) (doc_elsewhere σ v s before (length docs) d (λ z. o (sym z)))) ∙ same (λ z. o (z ∙ sym q))
      ]
      | no q ↦
          let some : 1 ≤ length before = omega (arith, ap length j.old, cut_nonempty σ docs v (omega (arith, w.0, w.1, w.2))) in
          let apart : Each (λ (y : Store). y.0 ≡ slot s first_region 0 → ⊥) (stores_in σ v before (length docs) d) = elim (ℕ_discrete v s) [
            | yes k ↦ subst (λ z. Each (λ (y : Store). y.0 ≡ slot z first_region 0 → ⊥) (stores_in σ v before (length docs) d)) k
                (subst (Each (λ (y : Store). y.0 ≡ slot v first_region 0 → ⊥)) (sym (stores_split σ v before (length docs) d
                ∙ ap (λ z. z ++ rest_stores σ v before (length docs) d) (joins_stores v before (length docs) some))) (rest_apart σ v before (length docs) d))
            | no k ↦ Each-map (λ y z. z first_region 0) (doc_elsewhere σ v s before (length docs) d k)
          ] in
          kept apart ∙ elim (ℕ_discrete s (length segs)) [
            | no o ↦ same o
            | yes o ↦ first_beyond segs 0 s (omega arith) ∙ sym (ap (λ z. first_in 0 z s) e ∙ first_beyond new 0 s (omega (arith, w.0, w.1, w.2)))
          ]
    ]

-- each first-document word after the placings of a history
abbrev pub Firsts : Setting → List Doc → Type 0
Firsts σ docs = (s : ℕ) → s < σ.segments → val σ (placings σ docs) (slot s first_region 0) ≡ first_in 0 (cut σ docs) s

-- a document has at least one store
some_stores : (σ : Setting) (s : ℕ) (seg : List Doc) (count : ℕ) (d : Doc) → 1 ≤ length (stores_in σ s seg count d)
some_stores σ s seg count d = omega (arith, ap length (body_split σ s seg count d), length_push (body σ s seg count d) (published, count + 1))

firsts_push : (σ : Setting) (docs : List Doc) (d : Doc) (v : ℕ) (before : List Doc) → v ≡ length (with_doc σ (cut σ docs) d) - 1 → Joins σ docs d v before → Firsts σ docs → Firsts σ (docs ++ d ∷ [])
firsts_push σ docs d v before at j h s l =
    let n = length (doc_stores σ docs d) in
    let some : 1 ≤ n = omega (arith, ap length j.stores, some_stores σ v before (length docs) d) in
    let whole : take (suc (n - 1)) (doc_stores σ docs d) ≡ doc_stores σ docs d = take_all (suc (n - 1)) (doc_stores σ docs d) (omega arith) in
    ap (λ z. val σ z (slot s first_region 0)) (placings_push σ docs d ∙ ap (λ z. placings σ docs ++ z) (sym whole)) ∙ first_after σ docs d v before (n - 1) s at j l (h s l)

firsts_after : (σ : Setting) (ys zs : List Doc) → IsSetting σ → IsLawful σ (ys ++ zs) → Firsts σ ys → Firsts σ (ys ++ zs)
firsts_after σ ys [] k h p = subst (Firsts σ) (sym (append-nil ys)) p
firsts_after σ ys (z ∷ zs) k h p =
    let e : (ys ++ z ∷ []) ++ zs ≡ ys ++ (z ∷ zs) = append_assoc ys (z ∷ []) zs in
    let h' = subst (IsLawful σ) (sym e) h in
    let one = lawful_front σ (ys ++ z ∷ []) zs h' in
    let a = placed_all σ ys k (lawful_front σ ys (z ∷ []) one) in
    subst (Firsts σ) e (firsts_after σ (ys ++ z ∷ []) zs k h' (firsts_push σ ys z _ _ refl (joins σ ys z k a.short (lawful_last σ ys z one)) p))

-- so it is for each lawful history
pub firsts_all : (σ : Setting) (docs : List Doc) → IsSetting σ → IsLawful σ docs → Firsts σ docs
unfolding cut placings_after value_after
firsts_all σ docs k h = firsts_after σ [] docs k h (λ s l. refl)

-- at a first-document word: the number of the segment's first document plus 1, or 0 where the
-- segment isn't begun
pub word_first : (m : Moment) (s : ℕ) → IsMoment m → s < m.setting.segments → word m (place m.setting (slot s first_region 0)) ≡ first_in 0 (cut m.setting (with_current m.documents)) s
unfolding document_stores is_packed
word_first m s is h = word_of_writer m (slot s first_region 0) is (first_within m.setting s h) (λ e. false≢true e) ∙ go m.documents.current is.lawful is.begun
  where
    go : (c : Option (Doc × ℕ)) → IsLawful m.setting (m.documents.accepted ++ current_of c) → IsBegun m.setting m.documents.accepted c
        → val m.setting (placings m.setting m.documents.accepted ++ current_stores m.setting m.documents.accepted c) (slot s first_region 0)
        ≡ first_in 0 (cut m.setting (m.documents.accepted ++ current_of c)) s
    go None k b = ap (λ z. val m.setting z (slot s first_region 0)) (append-nil (placings m.setting m.documents.accepted) ∙ ap (placings m.setting) (sym (append-nil m.documents.accepted)))
        ∙ firsts_all m.setting (m.documents.accepted ++ []) is.setting k s h
    go (Some c) k b =
        let docs = m.documents.accepted in
        let law = lawful_front m.setting docs (c.0 ∷ []) k in
        let p = placed_all m.setting docs is.setting law in
        ap (λ j. val m.setting (placings m.setting docs ++ take j (doc_stores m.setting docs c.0)) (slot s first_region 0)) (let q : c.1 ≡ suc (c.1 - 1) = omega (arith, b.0) in q)
        ∙ first_after m.setting docs c.0 _ _ (c.1 - 1) s refl (joins m.setting docs c.0 is.setting p.short (lawful_last m.setting docs c.0 k)) h (firsts_all m.setting docs is.setting law s h)
