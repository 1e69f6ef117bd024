-- The published count, and the first words of segments.
use Rattle.std.proofs.Common.{◌≡◌, ℕ, zero, suc, ◌+◌, ◌-◌, ◌/◌, ◌%◌, ◌^◌, ◌≤◌, ◌==◌, ◌&&◌, Bool, true, false, List, [], ◌∷◌, ◌++◌, length}
use Rattle.std.proofs.Common.{take, refl, ap, sym, ◌∙◌, subst, arith, nat_le, sum_by, append-nil, append_assoc, Option, Some, None}
use Rattle.std.proofs.lemmas.Bool.{false≢true, eq-eqb}
use Rattle.std.proofs.lemmas.List.{length_push, take-append-le}
use Rattle.eb_base.specs.Term.{Term}
use Rattle.eb_base.specs.Document.{Doc}
use Rattle.eb_base.specs.Setting.{Setting, IsSetting}
use Rattle.eb_place.specs.declared.moment.Moment.{Moment}
use Rattle.eb_place.specs.Layout.{Slot, pool_slot, pool_region, place}
use Rattle.eb_place.specs.Layout.Slot.{published, slot}
use Rattle.eb_place.specs.Layout.Region.{first_region, converted_region, cell_region, text_place_region, tail_region}
use Rattle.eb_place.specs.Layout.Region.{text_region, id_region, pool_0, pool_1, pool_2, pool_3, directory_region, packed_region}
use Rattle.eb_place.specs.Postings.{count_of, distinct, posting_of, terms_of}
use Rattle.eb_place.specs.Room.{text_words, cut, with_doc, IsLawful}
use Rattle.eb_place.specs.Address.{pool_at, begins, address_of}
use Rattle.eb_place.specs.Placing.{Store, in_row, text_of, enter_stores, append_stores, token_stores, tokens_stores, stores_in, doc_stores}
use Rattle.eb_place.specs.Moments.{placings, placings_after, value_after, current_of, current_stores, document_stores, word, IsMoment, IsBegun}
use Rattle.eb_place.proofs.TermCounts.{by_push}
use Rattle.eb_place.proofs.FreshPoolWords.{Each, Each-append, Each-if}
use Rattle.eb_place.proofs.FreshPoolWords.Each.{none, more}
use Rattle.eb_place.proofs.StoresWithinTable.{IsWithin}
use Rattle.eb_place.proofs.WordsOfTokens.{val, val_stored, val_keeps, Each-map, Each-take}
use Rattle.eb_place.proofs.StoringTokens.{Each-front}
use Rattle.eb_place.proofs.WordsOfHistories.{before_in}
use Rattle.eb_place.proofs.StoresOfDocuments.{doc_within, first_stores, stores_split}
use Rattle.eb_place.proofs.WordsAtMoment.{placed_all, Joins, joins, placings_push, lawful_front, lawful_last}
use Rattle.eb_place.proofs.PackedStores.{is_packed}
use Rattle.eb_place.proofs.ReaderWords.{word_of_writer}

-- a store to a word of this segment that the writer has
unfoldable pub writers : ℕ → Slot → Bool
writers s published = false
writers s (slot v first_region i) = s == v
writers s (slot v converted_region i) = false
writers s (slot v cell_region i) = s == v
writers s (slot v text_place_region i) = s == v
writers s (slot v tail_region i) = s == v
writers s (slot v text_region i) = s == v
writers s (slot v id_region i) = s == v
writers s (slot v pool_0 i) = s == v
writers s (slot v pool_1 i) = s == v
writers s (slot v pool_2 i) = s == v
writers s (slot v pool_3 i) = s == v
writers s (slot v directory_region i) = false
writers s (slot v packed_region i) = false

-- a store of the placing in segment s, but that of the count
abbrev pub Writes : ℕ → Store → Type 0
Writes s y = writers s y.0 ≡ true

same : (s : ℕ) → (s == s) ≡ true
same s = eq-eqb s s refl

row_writes : (s i : ℕ) (vs : List ℕ) → Each (Writes s) (in_row s text_region i vs)
unfolding writers
row_writes s i [] = none
row_writes s i (v ∷ vs) = more (same s) (row_writes s (i + 1) vs)

pool_writes : (s a : ℕ) → writers s (pool_slot s a) ≡ true
unfolding pool_slot writers
pool_writes s a = region (a / 2 ^ 30) (a % 2 ^ 30)
  where
    region : (p i : ℕ) → writers s (slot s (pool_region p) i) ≡ true
    region zero i = same s
    region (suc zero) i = same s
    region (suc (suc zero)) i = same s
    region (suc (suc (suc p))) i = same s

token_writes : (σ : Setting) (s : ℕ) (ts : List Term) (u : Term) (p : ℕ) → Each (Writes s) (token_stores σ s ts u p)
unfolding token_stores enter_stores append_stores writers
token_writes σ s ts u p =
    Each-append
    (Each-if (count_of u ts == 0) (λ z. Each-append (row_writes s (sum_by text_words (distinct ts)) (text_of u)) (more (same s) (more (same s) none))))
    (Each-append (Each-if (begins (count_of u ts) && nat_le 1 (pool_at (count_of u ts))) (λ z. more (pool_writes s (address_of u (count_of u ts) ts - 1)) none))
    (more (pool_writes s (address_of u (count_of u ts) ts)) (more (same s) none)))

tokens_writes : (σ : Setting) (s n p : ℕ) (ts us : List Term) → Each (Writes s) (tokens_stores σ s n p ts us)
unfolding tokens_stores
tokens_writes σ s n p ts [] = none
tokens_writes σ s n p ts (u ∷ us) = Each-append (token_writes σ s ts u (posting_of n p)) (tokens_writes σ s n (p + 1) (ts ++ u ∷ []) us)

-- all stores of a document but the last
abbrev pub body : Setting → ℕ → List Doc → ℕ → Doc → List Store
body σ s seg count d = first_stores s seg count ++ (tokens_stores σ s (length seg) 0 (terms_of seg) d.terms ++ (slot s id_region (length seg), d.id) ∷ [])

-- the count is the last store of a placing
pub body_split : (σ : Setting) (s : ℕ) (seg : List Doc) (count : ℕ) (d : Doc) → stores_in σ s seg count d ≡ body σ s seg count d ++ (published, count + 1) ∷ []
body_split σ s seg count d = stores_split σ s seg count d ∙ simp append_assoc

-- all others are in its segment
pub body_writes : (σ : Setting) (s : ℕ) (seg : List Doc) (count : ℕ) (d : Doc) → Each (Writes s) (body σ s seg count d)
unfolding first_stores writers
body_writes σ s seg count d = Each-append (Each-if (length seg == 0) (λ z. more (same s) none)) (Each-append (tokens_writes σ s (length seg) 0 (terms_of seg) d.terms) (more (same s) none))

-- no such word is one of the converter, or the count
pub writes_plain : (s : ℕ) (x : Slot) → writers s x ≡ true → (is_packed x ≡ false) × (x ≡ published → ⊥)
unfolding writers is_packed
writes_plain s published h = absurd (false≢true h)
writes_plain s (slot v first_region i) h = (refl, λ e. absurd cc)
writes_plain s (slot v converted_region i) h = absurd (false≢true h)
writes_plain s (slot v cell_region i) h = (refl, λ e. absurd cc)
writes_plain s (slot v text_place_region i) h = (refl, λ e. absurd cc)
writes_plain s (slot v tail_region i) h = (refl, λ e. absurd cc)
writes_plain s (slot v text_region i) h = (refl, λ e. absurd cc)
writes_plain s (slot v id_region i) h = (refl, λ e. absurd cc)
writes_plain s (slot v pool_0 i) h = (refl, λ e. absurd cc)
writes_plain s (slot v pool_1 i) h = (refl, λ e. absurd cc)
writes_plain s (slot v pool_2 i) h = (refl, λ e. absurd cc)
writes_plain s (slot v pool_3 i) h = (refl, λ e. absurd cc)
writes_plain s (slot v directory_region i) h = absurd (false≢true h)
writes_plain s (slot v packed_region i) h = absurd (false≢true h)

-- the count after whole documents
pub count_placed : (σ : Setting) (docs : List Doc) → val σ (placings σ docs) published ≡ length docs
unfolding placings_after value_after doc_stores
count_placed σ = by_push (λ docs. val σ (placings σ docs) published ≡ length docs) refl more_one
  where
    more_one : (docs : List Doc) (d : Doc) → val σ (placings σ docs) published ≡ length docs → val σ (placings σ (docs ++ d ∷ [])) published ≡ length (docs ++ d ∷ [])
    more_one docs d h =
        let s = length (with_doc σ (cut σ docs) d) - 1 in
        let before = before_in σ (cut σ docs) d in
        ap (λ z. val σ z published) (placings_push σ docs d ∙ ap (λ z. placings σ docs ++ z) (body_split σ s before (length docs) d)
        ∙ sym (append_assoc (placings σ docs) (body σ s before (length docs) d) ((published, length docs + 1) ∷ [])))
        ∙ val_stored σ (placings σ docs ++ body σ s before (length docs) d) published (length docs + 1)
        ∙ sym (length_push docs d)

count_begun : (σ : Setting) (docs : List Doc) (c : Option (Doc × ℕ)) → IsSetting σ → IsLawful σ (docs ++ current_of c)
    → IsBegun σ docs c → val σ (placings σ docs ++ current_stores σ docs c) published ≡ length docs
count_begun σ docs None k h b = ap (λ z. val σ z published) (append-nil (placings σ docs)) ∙ count_placed σ docs
count_begun σ docs (Some c) k h b =
    let p = placed_all σ docs k (lawful_front σ docs (c.0 ∷ []) h) in
    by (length (with_doc σ (cut σ docs) c.0) - 1) (before_in σ (cut σ docs) c.0) (joins σ docs c.0 k p.short (lawful_last σ docs c.0 h)) ∙ count_placed σ docs
  where
    by : (s : ℕ) (before : List Doc) → Joins σ docs c.0 s before → val σ (placings σ docs ++ take c.1 (doc_stores σ docs c.0)) published ≡ val σ (placings σ docs) published
    by s before j =
        let B = body σ s before (length docs) c.0 in
        let e = j.stores ∙ body_split σ s before (length docs) c.0 in
        let n = ap length e ∙ length_push B (published, length docs + 1) in
        let l : c.1 ≤ length B = omega (arith, b.1) in
        let all = Each-front B ((published, length docs + 1) ∷ []) (subst (Each (IsWithin σ)) (body_split σ s before (length docs) c.0) (doc_within σ s before (length docs) c.0 j.room j.few)) in
        ap (λ z. val σ (placings σ docs ++ z) published) (ap (take c.1) e ∙ take-append-le c.1 B ((published, length docs + 1) ∷ []) l)
        ∙ val_keeps σ (placings σ docs) (take c.1 B) published tt (Each-take c.1 all) (Each-take c.1 (Each-map (λ y w. (writes_plain s y.0 w).1) (body_writes σ s before (length docs) c.0)))

-- word 0: the number of accepted documents
pub word_count : (m : Moment) → IsMoment m → word m 0 ≡ length m.documents.accepted
unfolding document_stores place is_packed
word_count m is = word_of_writer m published is tt (λ e. false≢true e) ∙ count_begun m.setting m.documents.accepted m.documents.current is.setting is.lawful is.begun
