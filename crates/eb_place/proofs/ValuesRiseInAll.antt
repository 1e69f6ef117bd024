-- The values stored to the count and to each tail rise, over all placings and conversions.
use Rattle.std.proofs.Common.{◌≡◌, ℕ, ◌+◌, ◌-◌, ◌<◌, false, List, [], ◌∷◌, ◌++◌, length, get_or, refl, ap, sym, ◌∙◌, subst, arith, append-nil, append_assoc}
use Rattle.std.proofs.lemmas.Bool.{false≢true}
use Rattle.std.proofs.lemmas.List.{length_push}
use native.Mathlib.Decide.{ℕ_discrete}
use Rattle.eb_base.specs.Term.{Term}
use Rattle.eb_base.specs.Document.{Doc}
use Rattle.eb_base.specs.Setting.{Setting, IsSetting}
use Rattle.eb_place.specs.Layout.{Slot, place}
use Rattle.eb_place.specs.Layout.Slot.{published, slot}
use Rattle.eb_place.specs.Layout.Region.{tail_region, id_region}
use Rattle.eb_place.specs.Postings.{posting_of, terms_of}
use Rattle.eb_place.specs.Room.{cut, with_doc, IsLawful}
use Rattle.eb_place.specs.Placing.{Store, pairs_of, token_stores, tokens_stores, stores_in}
use Rattle.eb_place.specs.Moments.{placings, placings_after, conversions}
use Rattle.eb_place.proofs.TermCounts.{by_push, count_of-nil}
use Rattle.eb_place.proofs.PlacesOfSlots.{InTable}
use Rattle.eb_place.proofs.FreshPoolWords.{Each}
use Rattle.eb_place.proofs.FreshPoolWords.Each.{none, more}
use Rattle.eb_place.proofs.StoresWithinTable.{IsWithin, slices_fit, token_within}
use Rattle.eb_place.proofs.WordsOfTokens.{Room, Each-map, front_stores, tail_store, token_split, front_apart, tail_within}
use Rattle.eb_place.proofs.StoringTokens.{Each-front, Each-back, room_before}
use Rattle.eb_place.proofs.WordsOfHistories.{before_in, terms_push}
use Rattle.eb_place.proofs.StoresOfDocuments.{doc_elsewhere, doc_within, first_stores, first_within, first_plain, stores_split, last_within}
use Rattle.eb_place.proofs.WordsAtMoment.{placed_all, Joins, joins, placings_push, lawful_front, lawful_last, get_none}
use Rattle.eb_place.proofs.PackedStores.{is_packed, IsPackedStore, conversions_pack}
use Rattle.eb_place.proofs.CountWords.{body, body_split, body_writes, writes_plain}
use Rattle.eb_place.specs.StoredOnce.{values_at, StoredOnce}
use Rattle.eb_place.proofs.StoredOnceInAll.{stored_once}
use Rattle.eb_place.proofs.ValuesRise.{Rises, rises_push, values_keep, values_push, TailRises, tail_keeps, tail_adds}

-- ---- tails

token_rises : (σ : Setting) (s k : ℕ) (ts : List Term) (u : Term) (p : ℕ) (L : List Store) → InTable σ (slot s tail_region k)
    → Room σ s (ts ++ u ∷ []) → TailRises σ s k ts L → TailRises σ s k (ts ++ u ∷ []) (L ++ token_stores σ s ts u p)
token_rises σ s k ts u p L i room h =
    let F = front_stores σ s ts u p in
    let z = tail_store s ts u in
    let fit = slices_fit σ (ts ++ u ∷ []) room.small room.fits in
    let r = room_before σ s ts (u ∷ []) room in
    let within = subst (Each (IsWithin σ)) (token_split σ s ts u p) (token_within σ s ts u p room.inside room.small room.some room.fits) in
    let one = tail_keeps σ s k ts L F i (Each-front F (z ∷ []) within) (Each-map (λ y a. a.tail k) (front_apart σ s ts u p fit)) h in
    let two = tail_adds σ s k ts u (L ++ F) i (each_head z [] (Each-back F (z ∷ []) within)) (slices_fit σ ts r.small r.fits) one in
    subst (TailRises σ s k (ts ++ u ∷ [])) (append_assoc L F (z ∷ []) ∙ ap (λ w. L ++ w) (sym (token_split σ s ts u p))) two
  where
    each_head : (x : Store) (xs : List Store) → Each (IsWithin σ) (x ∷ xs) → IsWithin σ x
    each_head x xs (more w t) = w

tokens_rise : (σ : Setting) (s k n p : ℕ) (ts us : List Term) (L : List Store) → InTable σ (slot s tail_region k)
    → Room σ s (ts ++ us) → TailRises σ s k ts L → TailRises σ s k (ts ++ us) (L ++ tokens_stores σ s n p ts us)
unfolding tokens_stores
tokens_rise σ s k n p ts [] L i room h = subst (λ (z : List Term × List Store). TailRises σ s k z.0 z.1) (λ j. (sym (append-nil ts) j, sym (append-nil L) j)) h
tokens_rise σ s k n p ts (u ∷ us) L i room h =
    let e = append_assoc ts (u ∷ []) us in
    let room' : Room σ s ((ts ++ u ∷ []) ++ us) = subst (Room σ s) (sym e) room in
    let T = token_stores σ s ts u (posting_of n p) in
    let one = token_rises σ s k ts u (posting_of n p) L i (room_before σ s (ts ++ u ∷ []) us room') h in
    let rest = tokens_rise σ s k n (p + 1) (ts ++ u ∷ []) us (L ++ T) i room' one in
    subst (λ (z : List Term × List Store). TailRises σ s k z.0 z.1) (λ j. (e j, append_assoc L T (tokens_stores σ s n (p + 1) (ts ++ u ∷ []) us) j)) rest

doc_rises : (σ : Setting) (s k : ℕ) (seg : List Doc) (count : ℕ) (d : Doc) (L : List Store) → InTable σ (slot s tail_region k)
    → Room σ s (terms_of seg ++ d.terms) → length seg < σ.docs → TailRises σ s k (terms_of seg) L
    → TailRises σ s k (terms_of seg ++ d.terms) (L ++ stores_in σ s seg count d)
doc_rises σ s k seg count d L i room few h =
    let T0 = terms_of seg in
    let F = first_stores s seg count in
    let T = tokens_stores σ s (length seg) 0 T0 d.terms in
    let Z : List Store = (slot s id_region (length seg), d.id) ∷ (published, count + 1) ∷ [] in
    let one = tail_keeps σ s k T0 L F i (first_within σ s seg count room.inside) (Each-map (λ y a. a.tail k) (first_plain s seg count T0)) h in
    let two = tokens_rise σ s k (length seg) 0 T0 d.terms (L ++ F) i room one in
    let three = tail_keeps σ s k (T0 ++ d.terms) ((L ++ F) ++ T) Z i (last_within σ s (length seg) count d.id room.inside few) (more (λ e. absurd cc) (more (λ e. absurd cc) none)) two in
    subst (TailRises σ s k (T0 ++ d.terms)) (append_assoc (L ++ F) T Z ∙ append_assoc L F (T ++ Z) ∙ ap (λ z. L ++ z) (sym (stores_split σ s seg count d))) three

-- the tails of all segments
abbrev AllTails : Setting → List Doc → Type 0
AllTails σ docs = (s k : ℕ) → s < σ.segments → k < σ.terms → TailRises σ s k (terms_of (get_or (cut σ docs) s [])) (placings σ docs)

tails_at_first : (σ : Setting) → AllTails σ []
unfolding placings_after cut terms_of
tails_at_first σ s k h l = subst (λ (z : List Doc). TailRises σ s k (terms_of z) []) (sym (get_none s)) (record {
  top = 0;
  rises = record { rising = λ j o. absurd (omega arith); last = λ o. absurd (omega arith) };
  newest = λ t o number. absurd (omega (arith, count_of-nil t));
  unused = λ o. refl;
})

all_tails : (σ : Setting) (docs : List Doc) → IsSetting σ → IsLawful σ docs → AllTails σ docs
all_tails σ docs c = by_push (λ ds. IsLawful σ ds → AllTails σ ds) (λ h. tails_at_first σ) step docs
  where
    step : (ds : List Doc) (d : Doc) → (IsLawful σ ds → AllTails σ ds) → IsLawful σ (ds ++ d ∷ []) → AllTails σ (ds ++ d ∷ [])
    step ds d ih h =
        let front = lawful_front σ ds (d ∷ []) h in
        let p = placed_all σ ds c front in
        by (length (with_doc σ (cut σ ds) d) - 1) (before_in σ (cut σ ds) d) (joins σ ds d c p.short (lawful_last σ ds d h)) (ih front)
      where
        by : (s : ℕ) (before : List Doc) → Joins σ ds d s before → AllTails σ ds → AllTails σ (ds ++ d ∷ [])
        by s before j a v k o l =
            let e = placings_push σ ds d ∙ ap (λ z. placings σ ds ++ z) j.stores in
            let M = stores_in σ s before (length ds) d in
            elim (ℕ_discrete v s) [
              | yes q ↦
                  let old : TailRises σ s k (terms_of before) (placings σ ds) = subst (λ z. TailRises σ s k (terms_of z) (placings σ ds)) j.old (a s k j.inside l) in
                  let new = doc_rises σ s k before (length ds) d (placings σ ds) (tail_within σ s k j.inside l) j.room j.few old in
                  subst (λ (z : ℕ × List Store). TailRises σ z.0 k (terms_of (get_or (cut σ (ds ++ d ∷ [])) z.0 [])) z.1) (λ i. (sym q i, sym e i))
                  (subst (λ z. TailRises σ s k (terms_of z) (placings σ ds ++ M)) (sym j.here) (subst (λ z. TailRises σ s k z (placings σ ds ++ M)) (sym (terms_push before d)) new))
              | no q ↦
                  let seg = get_or (cut σ ds) v [] in
                  let kept = tail_keeps σ v k (terms_of seg) (placings σ ds) M (tail_within σ v k o l) (doc_within σ s before (length ds) d j.room j.few)
                  (Each-map (λ y w x. w tail_region k x) (doc_elsewhere σ s v before (length ds) d (λ w. q (sym w)))) (a v k o l) in
                  subst (λ (z : List Doc × List Store). TailRises σ v k (terms_of z.0) z.1) (λ i. (sym (j.other v q) i, sym e i)) kept
            ]

-- ---- the count

count_rises : (σ : Setting) (docs : List Doc) → IsSetting σ → IsLawful σ docs → Rises (values_at (place σ published) (pairs_of σ (placings σ docs))) (length docs)
unfolding placings_after
count_rises σ docs c = by_push (λ ds. IsLawful σ ds
    → Rises (values_at (place σ published) (pairs_of σ (placings σ ds))) (length ds)) (λ h. record { rising = λ j o. absurd (omega arith); last = λ o. absurd (omega arith) }) step docs
  where
    step : (ds : List Doc) (d : Doc) → (IsLawful σ ds → Rises (values_at (place σ published) (pairs_of σ (placings σ ds))) (length ds))
        → IsLawful σ (ds ++ d ∷ []) → Rises (values_at (place σ published) (pairs_of σ (placings σ (ds ++ d ∷ [])))) (length (ds ++ d ∷ []))
    step ds d ih h =
        let front = lawful_front σ ds (d ∷ []) h in
        let p = placed_all σ ds c front in
        by (length (with_doc σ (cut σ ds) d) - 1) (before_in σ (cut σ ds) d) (joins σ ds d c p.short (lawful_last σ ds d h)) (ih front)
      where
        by : (s : ℕ) (before : List Doc) → Joins σ ds d s before → Rises (values_at (place σ published) (pairs_of σ (placings σ ds))) (length ds)
            → Rises (values_at (place σ published) (pairs_of σ (placings σ (ds ++ d ∷ [])))) (length (ds ++ d ∷ []))
        by s before j a =
            let B = body σ s before (length ds) d in
            let y : Store = (published, length ds + 1) in
            let e : placings σ (ds ++ d ∷ []) ≡ (placings σ ds ++ B) ++ y ∷ [] = placings_push σ ds d
            ∙ ap (λ z. placings σ ds ++ z) (j.stores ∙ body_split σ s before (length ds) d) ∙ sym (append_assoc (placings σ ds) B (y ∷ [])) in
            let within = Each-front B (y ∷ []) (subst (Each (IsWithin σ)) (body_split σ s before (length ds) d) (doc_within σ s before (length ds) d j.room j.few)) in
            let kept = values_keep σ published (placings σ ds) B tt within (Each-map (λ z w. (writes_plain s z.0 w).1) (body_writes σ s before (length ds) d)) in
            let values = ap (λ z. values_at (place σ published) (pairs_of σ z)) e ∙ values_push σ published (length ds + 1) (placings σ ds ++ B) ∙ ap (λ z. z ++ (length ds + 1) ∷ []) kept in
            let more_docs = length_push ds d in
            subst (λ (z : List ℕ × ℕ). Rises z.0 z.1) (λ i. (sym values i, (let q : length ds + 1 ≡ length (ds ++ d ∷ []) = omega arith in q) i))
            (rises_push (values_at (place σ published) (pairs_of σ (placings σ ds))) (length ds) (length ds + 1) a (λ o. omega arith))

-- ---- the law

packed_apart : (σ : Setting) (x : Slot) (ys : List Store) → is_packed x ≡ false → Each (IsPackedStore σ) ys → Each (λ y. y.0 ≡ x → ⊥) ys
packed_apart σ x ys plain all = Each-map (λ y w e. false≢true (sym plain ∙ ap is_packed (sym e) ∙ w.packed)) all

tail_plain : (s k : ℕ) → is_packed (slot s tail_region k) ≡ false
unfolding is_packed
tail_plain s k = refl

count_plain : is_packed published ≡ false
unfolding is_packed
count_plain = refl

-- each word but the count and the tails is stored at most once, and the count and the tails rise
pub all_stored_once : StoredOnce
all_stored_once σ docs c h =
    let p = placed_all σ docs c h in
    let short = p.short in
    let C = conversions σ docs (length (cut σ docs)) in
    let packs = conversions_pack σ docs (length (cut σ docs)) (λ s l. p.room s (omega arith)) in
    let within = Each-map (λ y w. w.within) packs in
    record {
      once = λ q no_count no_tail. stored_once σ docs q c h no_count no_tail;
      count = subst Rattle.std.specs.List.Sorted.IsStrictlyIncreasing
          (sym (values_keep σ published (placings σ docs) C tt within (packed_apart σ published C count_plain packs))) (count_rises σ docs c h).rising;
      tails = λ s k o l. subst Rattle.std.specs.List.Sorted.IsStrictlyIncreasing (sym (values_keep σ (slot s tail_region k) (placings σ docs) C
          (tail_within σ s k o l) within (packed_apart σ (slot s tail_region k) C (tail_plain s k) packs))) (all_tails σ docs c h s k o l).rises.rising;
    }
