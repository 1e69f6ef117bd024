-- Each word but the count and the tails is stored at most once: all placings and conversions.
use Rattle.std.proofs.Common.{◌≡◌, ◌≢◌, ℕ, zero, suc, ◌+◌, ◌-◌, ◌*◌, ◌^◌, ◌<◌, ◌≤◌, ◌==◌, ◌⊎◌, false, List, [], ◌∷◌, ◌++◌, length}
use Rattle.std.proofs.Common.{min, get_or, filter, count_by, refl, ap, sym, ◌∙◌, subst, arith, inl, inr, append-nil, append_assoc}
use Rattle.std.proofs.lemmas.Bool.{cases_Bool, eqb-true, false≢true}
use Rattle.std.proofs.lemmas.List.{length_push, length-map}
use Rattle.std.proofs.lemmas.List.Sums.{length-filter, sum_by-cons}
use native.Mathlib.Decide.{ℕ_discrete}
use Rattle.eb_base.specs.Term.{Term}
use Rattle.eb_base.specs.Document.{Doc}
use Rattle.eb_base.specs.Setting.{Setting, IsSetting}
use Rattle.eb_place.specs.Layout.{Slot, Region, place}
use Rattle.eb_place.specs.Layout.Slot.{published, slot}
use Rattle.eb_place.specs.Layout.Region.{converted_region, tail_region, id_region, directory_region, packed_region}
use Rattle.eb_place.specs.Postings.{distinct, terms_of, frequency}
use Rattle.eb_place.specs.Room.{cut, with_doc, IsLawful}
use Rattle.eb_place.specs.Packed.{packed}
use Rattle.eb_place.specs.Placing.{Store, pairs_of, in_row, tokens_stores, stores_in}
use Rattle.eb_place.specs.Conversion.{pack_stores, convert_stores, segment_stores}
use Rattle.eb_place.specs.Moments.{placings, placings_after, conversions}
use Rattle.eb_place.proofs.TermCounts.{one_if, by_push}
use Rattle.eb_place.proofs.PlacesOfSlots.{InTable, place_once, tail_in_segment}
use Rattle.eb_place.proofs.FreshPoolWords.{Each, Each-append}
use Rattle.eb_place.proofs.FreshPoolWords.Each.{none, more}
use Rattle.eb_place.proofs.StoresWithinTable.{IsWithin}
use Rattle.eb_place.proofs.WordsOfTokens.{Room, times, times_keep, Each-map}
use Rattle.eb_place.proofs.WordsOfHistories.{before_in, terms_push}
use Rattle.eb_place.proofs.StoresOfDocuments.{Elsewhere, doc_elsewhere, doc_within, first_stores, stores_split, elsewhere_at}
use Rattle.eb_place.proofs.WordsAtMoment.{placed_all, Joins, joins, placings_push, lawful_front, lawful_last}
use Rattle.eb_place.proofs.PackedStores.{conversions_pack}
use Rattle.eb_place.specs.StoredOnce.{all_pairs, values_at}
use Rattle.eb_place.proofs.StoredOnce.{IsSingle, Single, Named, Grown, Marks, marked, marked_more, words_of_tokens, marks_of, IsStored, grow, grow_id, grow_first, grow_count, tokens_grown}
use Rattle.eb_place.proofs.StoredOnce.Single.{alone, first}

-- ---- documents

-- the words of a segment with these documents
abbrev pub words_of_docs : Setting → List Doc → Region → ℕ → Type 0
words_of_docs σ seg = words_of_tokens σ (terms_of seg) (min 1 (length seg)) (length seg)

first_grown : (σ : Setting) (s : ℕ) (seg : List Doc) (count : ℕ) (L : List Store) → Grown s (words_of_docs σ seg) L
    → Grown s (words_of_tokens σ (terms_of seg) 1 (length seg)) (L ++ first_stores s seg count)
unfolding first_stores
first_grown σ s seg count L h = elim (cases_Bool (length seg == 0)) [
  | inl new ↦ let z = eqb-true _ _ new in rw new (grow_first s (marks_of σ (terms_of seg) (min 1 (length seg)) (length seg)) (IsStored (terms_of seg)) (count + 1) L (omega arith) h)
  | inr old ↦ let one : min 1 (length seg) ≡ 1 = some (length seg) old in
      rw old (subst (λ (z : ℕ × List Store). Grown s (words_of_tokens σ (terms_of seg) z.0 (length seg)) z.1) (λ i. (one i, sym (append-nil L) i)) h)
]
  where
    some : (n : ℕ) → (n == 0) ≡ false → min 1 n ≡ 1
    some zero e = absurd (false≢true (sym e))
    some (suc n) e = omega arith

-- one more document
doc_grown : (σ : Setting) (s : ℕ) (seg : List Doc) (count : ℕ) (d : Doc) (L : List Store) → Room σ s (terms_of seg ++ d.terms)
    → Grown s (words_of_docs σ seg) L → Grown s (words_of_docs σ (seg ++ d ∷ [])) (L ++ stores_in σ s seg count d)
doc_grown σ s seg count d L room h =
    let n = length seg in
    let F = first_stores s seg count in
    let T = tokens_stores σ s n 0 (terms_of seg) d.terms in
    let x : Store = (slot s id_region n, d.id) in
    let y : Store = (published, count + 1) in
    let a = first_grown σ s seg count L h in
    let b = tokens_grown σ s n 0 1 n (terms_of seg) d.terms (L ++ F) room a in
    let c = grow_id s (marks_of σ (terms_of seg ++ d.terms) 1 n) (IsStored (terms_of seg ++ d.terms)) d.id ((L ++ F) ++ T) b in
    let e = grow_count s (words_of_tokens σ (terms_of seg ++ d.terms) 1 (n + 1)) (count + 1) (((L ++ F) ++ T) ++ x ∷ []) c in
    let more_docs = length_push seg d in
    let one : 1 ≡ min 1 (length (seg ++ d ∷ [])) = omega arith in
    let ids : n + 1 ≡ length (seg ++ d ∷ []) = omega arith in
    let all : (((L ++ F) ++ T) ++ x ∷ []) ++ y ∷ [] ≡ L ++ stores_in σ s seg count d =
    (let q : (((L ++ F) ++ T) ++ x ∷ []) ++ y ∷ [] ≡ L ++ (F ++ (T ++ x ∷ y ∷ [])) = simp append_assoc in q) ∙ ap (λ z. L ++ z) (sym (stores_split σ s seg count d)) in
    all_of_it one ids all e
  where
    all_of_it : 1 ≡ min 1 (length (seg ++ d ∷ [])) → length seg + 1 ≡ length (seg ++ d ∷ []) → {X : List Store} → X ≡ L ++ stores_in σ s seg count d
        → Grown s (words_of_tokens σ (terms_of seg ++ d.terms) 1 (length seg + 1)) X → Grown s (words_of_docs σ (seg ++ d ∷ [])) (L ++ stores_in σ s seg count d)
    all_of_it one ids all e = subst (λ (z : (List Term × ℕ) × (ℕ × List Store)). Grown s (words_of_tokens σ z.0.0 z.0.1 z.1.0) z.1.1) (λ i. ((sym (terms_push seg d) i, one i), (ids i, all i))) e

elsewhere_named : (v : ℕ) (M : Region → ℕ → Type 0) (y : Store) → Elsewhere v y → Named v M y
elsewhere_named v M y h r i e = absurd (h r i e)

-- all placings of a history
pub record AllGrown (σ : Setting) (docs : List Doc) : Type 0 where
  pub within : Each (IsWithin σ) (placings σ docs)
  pub single : Single (placings σ docs)
  pub named : (v : ℕ) → Each (Named v (words_of_docs σ (get_or (cut σ docs) v []))) (placings σ docs)

pub all_grown : (σ : Setting) (docs : List Doc) → IsSetting σ → IsLawful σ docs → AllGrown σ docs
unfolding placings_after
all_grown σ docs k = by_push (λ ds. IsLawful σ ds → AllGrown σ ds) (λ h. record { within = none; single = alone; named = λ v. none }) step docs
  where
    step : (ds : List Doc) (d : Doc) → (IsLawful σ ds → AllGrown σ ds) → IsLawful σ (ds ++ d ∷ []) → AllGrown σ (ds ++ d ∷ [])
    step ds d ih h =
        let front = lawful_front σ ds (d ∷ []) h in
        let p = placed_all σ ds k front in
        by (length (with_doc σ (cut σ ds) d) - 1) (before_in σ (cut σ ds) d) (joins σ ds d k p.short (lawful_last σ ds d h)) (ih front)
      where
        by : (s : ℕ) (before : List Doc) → Joins σ ds d s before → AllGrown σ ds → AllGrown σ (ds ++ d ∷ [])
        by s before j a =
            let e = placings_push σ ds d ∙ ap (λ z. placings σ ds ++ z) j.stores in
            let M = stores_in σ s before (length ds) d in
            let old : Grown s (words_of_docs σ before) (placings σ ds) = subst (λ z. Grown s (words_of_docs σ z) (placings σ ds)) j.old (record { single = a.single; named = a.named s }) in
            let g = doc_grown σ s before (length ds) d (placings σ ds) j.room old in
            record {
              within = subst (Each (IsWithin σ)) (sym e) (Each-append a.within (doc_within σ s before (length ds) d j.room j.few));
              single = subst Single (sym e) g.single;
              named = λ v. elim (ℕ_discrete v s) [
                | yes q ↦ subst (λ (z : ℕ × List Store). Each (Named z.0 (words_of_docs σ (get_or (cut σ (ds ++ d ∷ [])) z.0 []))) z.1) (λ i. (sym q i, sym e i))
                    (subst (λ z. Each (Named s (words_of_docs σ z)) (placings σ ds ++ M)) (sym j.here) g.named)
                | no q ↦ subst (Each (Named v (words_of_docs σ (get_or (cut σ (ds ++ d ∷ [])) v [])))) (sym e)
                    (Each-append (subst (λ z. Each (Named v (words_of_docs σ z)) (placings σ ds)) (sym (j.other v q)) (a.named v))
                    (Each-map (λ y w. elsewhere_named v (words_of_docs σ (get_or (cut σ (ds ++ d ∷ [])) v [])) y w) (doc_elsewhere σ s v before (length ds) d (λ w. q (sym w)))))
              ];
            }

-- ---- conversions

-- the next packed words
pack_row : (s : ℕ) (k : Marks) (P : ℕ → Type 0) (vs : List ℕ) (L : List Store) → Grown s (marked k P) L
    → Grown s (marked (record k { packs = k.packs + length vs }) P) (L ++ in_row s packed_region k.packs vs)
pack_row s k P [] L h = subst (λ (z : ℕ × List Store). Grown s (marked (record k { packs = z.0 }) P) z.1) (λ i. ((let e : k.packs ≡ k.packs + 0 = omega arith in e) i, sym (append-nil L) i)) h
pack_row s k P (v ∷ vs) L h =
    let l : Marks = record k { packs = k.packs + 1 } in
    let x : Store = (slot s packed_region k.packs, v) in
    let one = grow s (marked k P) (marked l P) packed_region k.packs v L
    (marked_more k l P P
    (record { firsts = omega arith; converts = omega arith; cells = λ c m. m; places = omega arith; texts = omega arith; ids = omega arith; directory = omega arith; packs = omega arith })
    (λ a p. p))
    (omega arith) (λ single m. omega arith) h in
    let rest = pack_row s l P vs (L ++ x ∷ []) one in
    subst (λ (z : ℕ × List Store). Grown s (marked (record k { packs = z.0 }) P) z.1)
    (λ i. ((let e : k.packs + 1 + length vs ≡ k.packs + suc (length vs) = omega arith in e) i, append_assoc L (x ∷ []) (in_row s packed_region (k.packs + 1) vs) i)) rest

-- the next directory word
pack_entry : (s : ℕ) (k : Marks) (P : ℕ → Type 0) (v : ℕ) (L : List Store) → Grown s (marked k P) L
    → Grown s (marked (record k { directory = k.directory + 1 }) P) (L ++ (slot s directory_region k.directory, v) ∷ [])
pack_entry s k P v L h = grow s (marked k P) (marked (record k { directory = k.directory + 1 }) P) directory_region k.directory v L
    (marked_more k (record k { directory = k.directory + 1 }) P P
    (record { firsts = omega arith; converts = omega arith; cells = λ c m. m; places = omega arith; texts = omega arith; ids = omega arith; directory = omega arith; packs = omega arith })
    (λ a p. p))
    (omega arith) (λ single m. omega arith) h

-- the converted word
pack_end : (s : ℕ) (k : Marks) (P : ℕ → Type 0) (L : List Store) → k.converts ≡ 0 → Grown s (marked k P) L → Grown s (marked (record k { converts = 1 }) P) (L ++ (slot s converted_region 0, 1) ∷ [])
pack_end s k P L z h = grow s (marked k P) (marked (record k { converts = 1 }) P) converted_region 0 1 L
    (marked_more k (record k { converts = 1 }) P P
    (record { firsts = omega arith; converts = omega arith; cells = λ c m. m; places = omega arith; texts = omega arith; ids = omega arith; directory = omega arith; packs = omega arith })
    (λ a p. p))
    (omega arith) (λ single m. omega arith) h

-- the terms of a conversion
record Packs (s : ℕ) (k : Marks) (P : ℕ → Type 0) (L : List Store) : Type 0 where
  packs : ℕ
  directory : ℕ
  grown : Grown s (marked (record k { packs = packs; directory = directory }) P) L

pack_grown : (s : ℕ) (seg : List Doc) (k : Marks) (P : ℕ → Type 0) (ts : List Term) (L : List Store) → Grown s (marked k P) L → Packs s k P (L ++ pack_stores s seg k.packs k.directory ts)
unfolding pack_stores
pack_grown s seg k P [] L h = record { packs = k.packs; directory = k.directory; grown = subst (Grown s (marked k P)) (sym (append-nil L)) h }
pack_grown s seg k P (t ∷ ts) L h =
    let row = in_row s packed_region k.packs (packed t seg) in
    let l : Marks = record k { packs = k.packs + length (packed t seg) } in
    let x : Store = (slot s directory_region k.directory, k.packs * 2 ^ 32 + frequency t seg) in
    let m : Marks = record l { directory = k.directory + 1 } in
    let rest = pack_stores s seg m.packs m.directory ts in
    let a = pack_row s k P (packed t seg) L h in
    let b = pack_entry s l P (k.packs * 2 ^ 32 + frequency t seg) (L ++ row) a in
    let c = pack_grown s seg m P ts ((L ++ row) ++ x ∷ []) b in
    record {
      packs = c.packs;
      directory = c.directory;
      grown = subst (Grown s (marked (record k { packs = c.packs; directory = c.directory }) P)) (let q : ((L ++ row) ++ x ∷ []) ++ rest ≡ L ++ (row ++ x ∷ rest) = simp append_assoc in q) c.grown;
    }

-- all stores of a conversion
convert_single : (s : ℕ) (seg docs : List Doc) (σ : Setting) (L : List Store) → Grown s (words_of_docs σ docs) L → Single (L ++ convert_stores s seg)
unfolding convert_stores
convert_single s seg docs σ L h =
    let k = marks_of σ (terms_of docs) (min 1 (length docs)) (length docs) in
    let P : ℕ → Type 0 = IsStored (terms_of docs) in
    let T = pack_stores s seg 0 0 (distinct (terms_of seg)) in
    let a = pack_grown s seg k P (distinct (terms_of seg)) L h in
    let b = pack_end s (record k { packs = a.packs; directory = a.directory }) P (L ++ T) refl a.grown in
    subst Single (append_assoc L T ((slot s converted_region 0, 1) ∷ [])) b.single

row_elsewhere : (s v i : ℕ) (vs : List ℕ) → s ≢ v → Each (Elsewhere v) (in_row s packed_region i vs)
row_elsewhere s v i [] h = none
row_elsewhere s v i (x ∷ vs) h = more (elsewhere_at s v packed_region i x h) (row_elsewhere s v (i + 1) vs h)

pack_elsewhere : (s v : ℕ) (seg : List Doc) (start k : ℕ) (ts : List Term) → s ≢ v → Each (Elsewhere v) (pack_stores s seg start k ts)
unfolding pack_stores
pack_elsewhere s v seg start k [] h = none
pack_elsewhere s v seg start k (t ∷ ts) h =
    Each-append (row_elsewhere s v start (packed t seg) h)
    (more (elsewhere_at s v directory_region k (start * 2 ^ 32 + frequency t seg) h) (pack_elsewhere s v seg (start + length (packed t seg)) (k + 1) ts h))

segment_elsewhere : (σ : Setting) (docs : List Doc) (s v : ℕ) → s ≢ v → Each (Elsewhere v) (segment_stores σ docs s)
unfolding segment_stores convert_stores
segment_elsewhere σ docs s v h =
    Each-append (pack_elsewhere s v (get_or (cut σ docs) s []) 0 0 (distinct (terms_of (get_or (cut σ docs) s []))) h) (more (elsewhere_at s v converted_region 0 1 h) none)

-- the placings of a history and the conversions of its first n segments
record AllSingle (σ : Setting) (docs : List Doc) (n : ℕ) : Type 0 where
  single : Single (placings σ docs ++ conversions σ docs n)
  named : (v : ℕ) → n ≤ v → Each (Named v (words_of_docs σ (get_or (cut σ docs) v []))) (placings σ docs ++ conversions σ docs n)

all_single : (σ : Setting) (docs : List Doc) (n : ℕ) → AllGrown σ docs → AllSingle σ docs n
unfolding conversions segment_stores
all_single σ docs zero h = record {
  single = subst Single (sym (append-nil (placings σ docs))) h.single;
  named = λ v l. subst (Each (Named v (words_of_docs σ (get_or (cut σ docs) v [])))) (sym (append-nil (placings σ docs))) (h.named v);
}
all_single σ docs (suc n) h =
    let a = all_single σ docs n h in
    let L = placings σ docs in
    let C = conversions σ docs n in
    let S = segment_stores σ docs n in
    let e = append_assoc L C S in
    let here : Grown n (words_of_docs σ (get_or (cut σ docs) n [])) (L ++ C) = record { single = a.single; named = a.named n (omega arith) } in
    record {
      single = subst Single e (convert_single n (get_or (cut σ docs) n []) (get_or (cut σ docs) n []) σ (L ++ C) here);
      named = λ v l. subst (Each (Named v (words_of_docs σ (get_or (cut σ docs) v [])))) e
          (Each-append (a.named v (omega arith)) (Each-map (λ y w. elsewhere_named v (words_of_docs σ (get_or (cut σ docs) v [])) y w) (segment_elsewhere σ docs n v (λ q. omega arith))));
    }

-- ---- how often a place is stored

pub times_once : (σ : Setting) (L : List Store) (x : Slot) → Single L → Each (IsWithin σ) L → InTable σ x → IsSingle x → times σ L x ≤ 1
times_once σ [] x alone none i s = omega arith
times_once σ (y ∷ ys) x (first e t) (more w all) i s = elim (cases_Bool (place σ y.0 == place σ x)) [
  | inl here ↦
      let same : y.0 ≡ x = place_once σ y.0 x w i (eqb-true _ _ here) in
      let rest : times σ (y ∷ ys) x ≡ times σ (y ∷ []) x = times_keep σ (y ∷ []) ys x i all (Each-map (λ z f q. f (subst IsSingle (sym same) s) (same ∙ sym q)) e) in
      omega (arith, rest, sum_by-cons (λ (z : ℕ × ℕ). one_if (z.0 == place σ x)) (place σ y.0, y.1) [], ap one_if here)
  | inr away ↦ omega (arith, times_once σ ys x t all i s, sum_by-cons (λ (z : ℕ × ℕ). one_if (z.0 == place σ x)) (place σ y.0, y.1) (pairs_of σ ys), ap one_if away)
]

-- a place that is stored is that of a word
stored_place : (σ : Setting) (p : ℕ) (L : List Store) → Each (IsWithin σ) L → (count_by (λ (z : ℕ × ℕ). z.0 == p) (pairs_of σ L) ≡ 0) ⊎ ((x : Slot) × InTable σ x × (p ≡ place σ x))
stored_place σ p [] none = inl refl
stored_place σ p (y ∷ ys) (more w all) = elim (cases_Bool (place σ y.0 == p)) [
  | inl here ↦ inr (y.0, w, sym (eqb-true _ _ here))
  | inr away ↦ elim (stored_place σ p ys all) [
    | inl z ↦ inl (omega (arith, z, sum_by-cons (λ (z : ℕ × ℕ). one_if (z.0 == p)) (place σ y.0, y.1) (pairs_of σ ys), ap one_if away))
    | inr r ↦ inr r
  ]
]

-- all stores are within the index
pub pairs_within : (σ : Setting) (docs : List Doc) → IsSetting σ → IsLawful σ docs → Each (IsWithin σ) (placings σ docs ++ conversions σ docs (length (cut σ docs)))
pairs_within σ docs k h =
    let p = placed_all σ docs k h in
    let short = p.short in
    Each-append (all_grown σ docs k h).within (Each-map (λ y w. w.within) (conversions_pack σ docs (length (cut σ docs)) (λ s l. p.room s (omega arith))))

-- but for the count and the tails each is stored at most once
pub stored_once : (σ : Setting) (docs : List Doc) (p : ℕ) → IsSetting σ → IsLawful σ docs → (p ≡ place σ published → ⊥)
    → ((s k : ℕ) → s < σ.segments → k < σ.terms → p ≡ place σ (slot s tail_region k) → ⊥) → length (values_at p (all_pairs σ docs)) ≤ 1
stored_once σ docs p k h no_count no_tail =
    let L = placings σ docs ++ conversions σ docs (length (cut σ docs)) in
    let within = pairs_within σ docs k h in
    let single = (all_single σ docs (length (cut σ docs)) (all_grown σ docs k h)).single in
    let long : length (values_at p (all_pairs σ docs)) ≡ count_by (λ (z : ℕ × ℕ). z.0 == p) (pairs_of σ L) =
    length-map (filter (λ (z : ℕ × ℕ). z.0 == p) (pairs_of σ L)) (λ (z : ℕ × ℕ). z.1) ∙ length-filter (λ (z : ℕ × ℕ). z.0 == p) (pairs_of σ L) in
    elim (stored_place σ p L within) [
      | inl z ↦ omega (arith, long)
      | inr r ↦
          let one = times_once σ L r.0 single within r.1 (record {
            count = λ e. no_count (r.2 ∙ ap (place σ) e);
            tails = λ s j e. let i = tail_in_segment σ s j (subst (InTable σ) e r.1) in no_tail s j i.0 i.1 (r.2 ∙ ap (place σ) e);
          }) in
          let same : count_by (λ (z : ℕ × ℕ). z.0 == p) (pairs_of σ L) ≡ times σ L r.0 = ap (λ q. count_by (λ (z : ℕ × ℕ). z.0 == q) (pairs_of σ L)) r.2 in
          omega (arith, long, same)
    ]
