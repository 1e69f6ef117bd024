-- The first and the last stores of a document.
use Rattle.std.proofs.Common.{◌≡◌, ℕ, suc, ◌+◌, ◌*◌, ◌<◌, ◌≤◌, ◌==◌, false, ltb, List, [], ◌∷◌, ◌++◌, length, take}
use Rattle.std.proofs.Common.{drop, get_or, sum_by, refl, ap, sym, ◌∙◌, subst, arith, inl, inr, append-nil, slice_get, Some}
use Rattle.std.proofs.lemmas.Bool.{cases_Bool, eqb-true, ltb-true}
use Rattle.std.proofs.lemmas.List.{length-drop}
use Rattle.std.proofs.lemmas.List.Sums.{sum_by-cons}
use Rattle.eb_base.specs.Document.{Doc}
use Rattle.eb_base.specs.Setting.{Setting}
use Rattle.eb_place.specs.declared.moment.Documents.{Documents}
use Rattle.eb_place.specs.declared.moment.Moment.{Moment}
use Rattle.eb_place.specs.declared.used.Used.{Used}
use Rattle.eb_place.specs.Layout.{place}
use Rattle.eb_place.specs.Layout.Slot.{published, slot}
use Rattle.eb_place.specs.Layout.Region.{first_region, cell_region, tail_region, id_region}
use Rattle.eb_place.specs.Postings.{terms_of, distinct}
use Rattle.eb_place.specs.Room.{cut}
use Rattle.eb_place.specs.Placing.{Store, pairs_of, tokens_stores, doc_stores}
use Rattle.eb_place.specs.Moments.{placings, document_stores, IsMoment}
use Rattle.eb_place.specs.NextStores.{stores_done, IsNext, after_store, documents_after, AreNext, with_stores}
use Rattle.eb_place.specs.Seen.{stores_in_region, entered, tokens_seen, is_in}
use Rattle.eb_place.specs.Tells.{TellsSegment}
use Rattle.eb_place.proofs.NextAddresses.{next_rest}
use Rattle.eb_place.proofs.FirstDocumentWords.{cut_sum, begins_stores}
use Rattle.eb_place.proofs.StoresOfDocuments.{first_stores, stores_split}
use Rattle.eb_place.proofs.WordsAtMoment.{placed_all}
use Rattle.eb_place.proofs.AfterStore.{later_stored}
use Rattle.eb_place.proofs.NextStore.{setting_stored, accepted_lawful}
use Rattle.eb_chain.specs.Appends.{stores_from}
use Rattle.eb_place.proofs.RegionCounts.{count_in, counts_placed, firsts_away}
use Rattle.eb_place.proofs.RegionStores.{count_by-append}
use Rattle.eb_place.proofs.ListOfStores.{one_stored, next_at}
use Rattle.eb_place.proofs.NextPuts.{next_pair}
use Rattle.eb_writer.specs.Counting.{IsIdle}
use Rattle.eb_writer.specs.Storing.{before_it, tokens_until, IsPlaced, HasComeTo, HasStoredMore, IsAccepted, BeginsSegment}
use Rattle.eb_writer.proofs.Idle.{idle_entered, idle_tokens}
use Rattle.eb_writer.proofs.Coming.{joined}

-- ---- the count

sum_low : (xs : List (List Doc)) → ((s : ℕ) → length (get_or xs s []) ≤ 16777216) → sum_by length xs ≤ 16777216 * length xs
sum_low [] h = omega arith
sum_low (x ∷ xs) h = omega (arith, sum_by-cons length x xs, h 0, sum_low xs (λ s. h (suc s)))

-- there are not many documents
pub documents_few : (m : Moment) → IsMoment m → length m.documents.accepted ≤ 1073741824
documents_few m is =
    let σ = m.setting in
    let docs = m.documents.accepted in
    let p = placed_all σ docs is.setting (accepted_lawful m is) in
    let n = is.setting.docs.1 in
    let k = is.setting.segments.1 in
    omega (arith, cut_sum σ docs, sum_low (cut σ docs) (λ s. (let l = p.few s in omega arith)), p.short, n, k)

-- what is used of the segment before the document
pub used_documents : (m : Moment) (d : Doc) (s : ℕ) (u : Used) → IsMoment m → IsPlaced m d s → TellsSegment u m s → u.documents ≡ length (before_it m d)
used_documents m d s u is p h = h.documents ∙ ap length (joined m d s is p).old

pub documents_low : (m : Moment) (d : Doc) (s : ℕ) → IsMoment m → IsPlaced m d s → (length (before_it m d) < m.setting.docs) × (m.setting.docs ≤ 16777216) × (s < m.setting.segments)
documents_low m d s is p = let j = joined m d s is p in (j.few, is.setting.docs.1, j.inside)

-- ---- the first store

-- all stores of a document
all_left : (m : Moment) (d : Doc) (s : ℕ) → IsMoment m → IsPlaced m d s
    → doc_stores m.setting m.documents.accepted d ≡ first_stores s (before_it m d) (length m.documents.accepted) ++ stores_from m.setting m.documents.accepted d s 0 (tokens_until m d 0) d.terms
all_left m d s is p =
    let σ = m.setting in
    let docs = m.documents.accepted in
    let seg = before_it m d in
    (joined m d s is p).stores ∙ stores_split σ s seg (length docs) d ∙ ap (λ z. first_stores s seg (length docs) ++ stores_from σ docs d s 0 z d.terms) (sym (append-nil (terms_of seg)))

idle_done : (m : Moment) → IsIdle m → stores_done m.documents.current ≡ 0
idle_done m h = ap stores_done h

-- the store of the first-document word comes next
begin_next : (m : Moment) (d : Doc) (s : ℕ) → IsMoment m → BeginsSegment m d s → AreNext m d ((slot s first_region 0, length m.documents.accepted + 1) ∷ [])
begin_next m d s is b =
    let docs = m.documents.accepted in
    let R = stores_from m.setting docs d s 0 (tokens_until m d 0) d.terms in
    record {
      limits = b.placed.limits;
      room = b.placed.room;
      current = b.placed.current;
      front = (R, sym (ap (λ k. drop k (doc_stores m.setting docs d)) (idle_done m b.idle) ∙ all_left m d s is b.placed ∙ ap (λ z. z ++ R) (begins_stores s (before_it m d) (length docs) b.first)));
    }

pub begin_is : (m : Moment) (d : Doc) (s at value : ℕ) → IsMoment m → BeginsSegment m d s → at ≡ place m.setting (slot s first_region 0) → value ≡ length m.documents.accepted + 1 → IsNext m d at value
begin_is m d s at value is b p v = next_at m d (slot s first_region 0, length m.documents.accepted + 1) [] at value (begin_next m d s is b) p v

nothing_terms : (seg : List Doc) → seg ≡ [] → distinct (terms_of seg) ≡ []
unfolding distinct terms_of
nothing_terms seg e = ap (λ z. distinct (terms_of z)) e

pub nothing_tokens : (seg : List Doc) → seg ≡ [] → terms_of seg ≡ []
unfolding terms_of
nothing_tokens seg e = ap terms_of e

take_none : {X : Type 0} (k : ℕ) (xs : List X) → k ≡ 0 → take k xs ≡ []
take_none k xs e = ap (λ n. take n xs) e

pub begun : (m : Moment) (d : Doc) (s : ℕ) → IsMoment m → BeginsSegment m d s → HasStoredMore m (after_store m d) × HasComeTo (after_store m d) d s 0
unfolding entered tokens_seen stores_in_region document_stores
begun m d s is b =
    let σ = m.setting in
    let docs = m.documents.accepted in
    let seg = before_it m d in
    let x : Store = (slot s first_region 0, length docs + 1) in
    let D = doc_stores σ docs d in
    let R = stores_from σ docs d s 0 (tokens_until m d 0) d.terms in
    let next = begin_next m d s is b in
    let one = one_stored m d x [] next (λ z. absurd cc) in
    let n = after_store m d in
    let e : n.documents ≡ record { accepted = docs; current = Some (d, 1) } = one.documents ∙ ap (λ k. record { accepted = docs; current = Some (d, k + 1) }) (idle_done m b.idle) in
    let all : D ≡ x ∷ R = all_left m d s is b.placed ∙ ap (λ z. z ++ R) (begins_stores s seg (length docs) b.first) in
    let c = counts_placed σ docs is.setting (accepted_lawful m is) s in
    let old = (joined m d s is b.placed).old ∙ b.first in
    let L = placings σ docs ++ take 1 D in
    let stores : L ≡ placings σ docs ++ first_stores s seg (length docs) = ap (λ z. placings σ docs ++ take 1 z) all
    ∙ ap (λ z. placings σ docs ++ z) (sym (begins_stores s seg (length docs) b.first)) in
    let cells : count_in s cell_region L ≡ 0 =
    omega (
      arith,
      ap (count_in s cell_region) stores,
      count_by-append (is_in s cell_region) (placings σ docs) (first_stores s seg (length docs)),
      firsts_away s s cell_region seg (length docs) refl,
      c.cells,
      ap length (nothing_terms (get_or (cut σ docs) s []) old),
    ) in
    let tails : count_in s tail_region L ≡ 0 =
    omega (
      arith,
      ap (count_in s tail_region) stores,
      count_by-append (is_in s tail_region) (placings σ docs) (first_stores s seg (length docs)),
      firsts_away s s tail_region seg (length docs) refl,
      c.tails,
      ap length (nothing_tokens (get_or (cut σ docs) s []) old),
    ) in
    let none : tokens_until m d 0 ≡ [] = append-nil (terms_of seg) ∙ nothing_tokens seg b.first in
    let P : Setting → Documents → Type 0 = λ κ y. HasComeTo record { setting = κ; documents = y; conversions = n.conversions } d s 0 in
    let at : P σ record { accepted = docs; current = Some (d, 1) } = record {
      placed = record { limits = b.placed.limits; room = b.placed.room; current = refl; place = b.placed.place };
      few = omega arith;
      left = ap (drop 1) all;
      entered = take_none _ _ cells ∙ sym (ap distinct (append-nil (terms_of seg)) ∙ nothing_terms seg b.first);
      seen = take_none _ _ tails ∙ sym none;
    } in (
      record { later = one.later; accepted = ap (λ (y : Documents). y.accepted) e },
      subst (λ (z : Setting × Documents). P z.0 z.1) (λ j. (sym (setting_stored m d) j, sym e j)) at,
    )

no_first : (s count : ℕ) (seg : List Doc) → 1 ≤ length seg → first_stores s seg count ≡ []
unfolding first_stores
no_first s count seg l = elim (cases_Bool (length seg == 0)) [
  | inl e ↦ let q : length seg ≡ 0 = eqb-true (length seg) 0 e in absurd (omega arith)
  | inr e ↦ rw e refl
]

-- a document that joins a segment is at its first token
pub join_first : (m : Moment) (d : Doc) (s : ℕ) → IsMoment m → IsIdle m → IsPlaced m d s → 1 ≤ length (before_it m d) → HasComeTo m d s 0
join_first m d s is idle p some =
    let σ = m.setting in
    let docs = m.documents.accepted in
    let seg = before_it m d in
    let old : terms_of (get_or (cut σ docs) s []) ≡ tokens_until m d 0 = ap terms_of (joined m d s is p).old ∙ sym (append-nil (terms_of seg)) in
    record {
      placed = p;
      few = omega arith;
      left = ap (λ k. drop k (doc_stores σ docs d)) (idle_done m idle) ∙ all_left m d s is p ∙ ap (λ z. z ++ stores_from σ docs d s 0 (tokens_until m d 0) d.terms) (no_first s (length docs) seg some);
      entered = idle_entered m s is idle ∙ ap distinct old;
      seen = idle_tokens m s is idle ∙ old;
    }

-- ---- the last two stores

end_left : (m : Moment) (d : Doc) (s : ℕ) → HasComeTo m d s (length d.terms)
    → drop (stores_done m.documents.current) (doc_stores m.setting m.documents.accepted d) ≡ (slot s id_region (length (before_it m d)), d.id) ∷ (published, length m.documents.accepted + 1) ∷ []
unfolding tokens_stores
end_left m d s h = h.left ∙ ap (stores_from m.setting m.documents.accepted d s (length d.terms) (tokens_until m d (length d.terms))) (dropped d.terms)
  where
    dropped : {X : Type 0} (xs : List X) → drop (length xs) xs ≡ []
    dropped [] = refl
    dropped (x ∷ xs) = dropped xs

id_next : (m : Moment) (d : Doc) (s : ℕ) → HasComeTo m d s (length d.terms) → AreNext m d ((slot s id_region (length (before_it m d)), d.id) ∷ [])
id_next m d s h = record {
  limits = h.placed.limits;
  room = h.placed.room;
  current = h.placed.current;
  front = ((published, length m.documents.accepted + 1) ∷ [], sym (end_left m d s h));
}

pub id_is : (m : Moment) (d : Doc) (s at value : ℕ) → HasComeTo m d s (length d.terms) → at ≡ place m.setting (slot s id_region (length (before_it m d))) → value ≡ d.id → IsNext m d at value
id_is m d s at value h p v = next_at m d (slot s id_region (length (before_it m d)), d.id) [] at value (id_next m d s h) p v

-- the last store, and the moment after it
pub record Last (m : Moment) (d : Doc) (value : ℕ) : Type 0 where
  pub next : IsNext (after_store m d) d 0 value
  pub accepted : IsAccepted m (after_store (after_store m d) d) d

pub last : (m : Moment) (d : Doc) (s value : ℕ) → HasComeTo m d s (length d.terms) → value ≡ length m.documents.accepted + 1 → Last m d value
unfolding place after_store
last m d s value h v =
    let σ = m.setting in
    let docs = m.documents.accepted in
    let D = doc_stores σ docs d in
    let i = stores_done m.documents.current in
    let x : Store = (slot s id_region (length (before_it m d)), d.id) in
    let y : Store = (published, length docs + 1) in
    let one = one_stored m d x [] (id_next m d s h) (λ e. absurd cc) in
    let n = after_store m d in
    let e : n.documents ≡ with_stores m.documents d 1 = one.documents in
    let rest : drop (i + 1) D ≡ y ∷ [] = next_rest D (x ∷ []) (y ∷ []) i (end_left m d s h) in
    let long : length D ≡ i + 2 = omega (arith, ap length (end_left m d s h), length-drop i D) in
    let pair : slice_get (pairs_of σ D) (i + 1) ≡ Some (0, value) = (next_pair σ D (i + 1) y [] rest).0 ∙ ap (λ k. Some (0, k)) (sym v) in
    let P : Documents → Type 0 = λ z. IsNext record { setting = σ; documents = z; conversions = m.conversions } d 0 value in
    let at : P (with_stores m.documents d 1) = record { limits = h.placed.limits; room = h.placed.room; current = refl; pair = pair } in
    let next : IsNext n d 0 value = subst P (sym e) at in
    let end : ltb (suc (stores_done (with_stores m.documents d 1).current)) (length D) ≡ false = no_more (i + 1) (length D) (omega arith) in
    record {
      next = next;
      accepted = record {
        later = Rattle.eb_place.proofs.LaterMoments.later_on m n (after_store n d) one.later (later_stored n d next.current);
        documents = (λ j. documents_after (ltb (suc (stores_done ((e j).current))) (length (doc_stores σ ((e j).accepted) d))) ((e j).accepted) d (suc (stores_done ((e j).current))))
            ∙ ap (λ b. documents_after b docs d (suc (i + 1))) end;
      };
    }
  where
    no_more : (k n : ℕ) → n ≡ k + 1 → ltb (suc k) n ≡ false
    no_more k n e = elim (cases_Bool (ltb (suc k) n)) [
      | inl t ↦ absurd (omega (arith, ltb-true (suc k) n t))
      | inr f ↦ f
    ]
