-- What is known when a placing is at a posting, and after its stores.
use Rattle.std.proofs.Common.{◌≡◌, ℕ, zero, suc, ◌+◌, ◌<◌, ◌≤◌, ◌⊎◌, List, [], ◌∷◌, ◌++◌, length, take, drop, get_or}
use Rattle.std.proofs.Common.{refl, ap, sym, ◌∙◌, subst, arith, inl, inr, append-nil, append_assoc, Option, Some, None}
use Rattle.std.proofs.lemmas.Bool.{eq-eqb}
use Rattle.std.proofs.lemmas.List.{length_push, length-append, length-drop, take_at}
use Rattle.eb_base.specs.Term.{Term}
use Rattle.eb_base.specs.Document.{Doc}
use Rattle.eb_base.specs.Setting.{Setting, IsSetting}
use Rattle.eb_place.specs.declared.moment.Documents.{Documents}
use Rattle.eb_place.specs.Layout.Slot.{published, slot}
use Rattle.eb_place.specs.Layout.Region.{cell_region, tail_region, id_region}
use Rattle.eb_place.specs.Postings.{terms_of, distinct, count_of, number_of, posting_of}
use Rattle.eb_place.specs.Room.{cut, IsLawful}
use Rattle.eb_place.specs.Placing.{Store, append_stores, token_stores, tokens_stores, stores_in, doc_stores, segment_before}
use Rattle.eb_place.specs.Moments.{with_current, current_of, placings, document_stores}
use Rattle.eb_place.specs.NextStores.{stores_done, IsCurrent, with_stores}
use Rattle.eb_place.specs.Seen.{is_in}
use Rattle.eb_place.proofs.TermCounts.{one_if, same_term, count_of_push, distinct_push, with_term_cases, once}
use Rattle.eb_place.proofs.NextAddresses.{tokens_stores-append}
use Rattle.eb_place.proofs.FreshPoolWords.{Each}
use Rattle.eb_place.proofs.StoresWithinTable.{IsWithin, slices_fit, token_within}
use Rattle.eb_place.proofs.TermNumbersStay.{number_here, number_stays, distinct_more}
use Rattle.eb_place.proofs.WordsOfTokens.{Reached, Room, reached_keeps, front_stores, tail_store, token_split, front_apart}
use Rattle.eb_place.proofs.StoringTokens.{Each-front, Agrees, tokens_done, room_before}
use Rattle.eb_place.proofs.WordsOfHistories.{posting_numbers, agrees_doc, posting_front, terms_push}
use Rattle.eb_place.proofs.StoresOfDocuments.{first_stores, first_within, first_plain, stores_split}
use Rattle.eb_place.proofs.WordsAtMoment.{placed_all, reached_same, Joins, joins, lawful_front}
use Rattle.eb_chain.specs.Appends.{tokens_before, IsPostingNext}
use Rattle.eb_place.proofs.RegionCounts.{count_in, enters, enters_tails, enters_cells, appends_tails, appends_cells}
use Rattle.eb_place.proofs.RegionCounts.{tokens_tails, tokens_cells, distinct_one, firsts_away, Counts, counts_placed}
use Rattle.eb_place.proofs.RegionStores.{count_by-append}
use Rattle.eb_place.proofs.NextStore.{current_is}

-- ---- where in the placing it is

-- the stores of a document that come before those of this posting
abbrev pub stores_before : Setting → ℕ → List Doc → ℕ → List Term → Term → List Store
stores_before σ s seg count earlier t = first_stores s seg count ++ (tokens_stores σ s (length seg) 0 (terms_of seg) earlier ++ enters σ s (terms_of seg ++ earlier) t)

-- a list that is dropped to a back of it, which isn't empty, is taken to the prefix before it
taken : (xs front back : List Store) (i : ℕ) → xs ≡ front ++ back → 1 ≤ length back → drop i xs ≡ back → take i xs ≡ front
taken xs front back i e some d =
    let a = ap length e ∙ length-append front back in
    let b = ap length d in
    let c = length-drop i xs in
    let k : i ≡ length front = omega arith in
    ap (take i) e ∙ ap (λ j. take j (front ++ back)) k ∙ take_at front back (length front) refl

-- the placing of a document is cut before the stores of a posting
pub placing_cut : (σ : Setting) (s : ℕ) (seg : List Doc) (count : ℕ) (d : Doc) (earlier later : List Term) (t : Term) (posting : ℕ)
    → d.terms ≡ earlier ++ t ∷ later → posting ≡ posting_of (length seg) (length earlier)
    → stores_in σ s seg count d ≡ stores_before σ s seg count earlier t
    ++ (append_stores s (terms_of seg ++ earlier) t (count_of t (terms_of seg ++ earlier)) posting
    ++ (tokens_stores σ s (length seg) (length earlier + 1) ((terms_of seg ++ earlier) ++ t ∷ []) later ++ (slot s id_region (length seg), d.id) ∷ (published, count + 1) ∷ []))
unfolding tokens_stores token_stores
placing_cut σ s seg count d earlier later t posting e p =
    let n = length seg in
    let T0 = terms_of seg in
    let b = T0 ++ earlier in
    let F = first_stores s seg count in
    let T = tokens_stores σ s n 0 T0 earlier in
    let E = enters σ s b t in
    let A = append_stores s b t (count_of t b) posting in
    let R = tokens_stores σ s n (length earlier + 1) (b ++ t ∷ []) later in
    let Z : List Store = (slot s id_region n, d.id) ∷ (published, count + 1) ∷ [] in
    let tokens : tokens_stores σ s n 0 T0 d.terms ≡ T ++ ((E ++ A) ++ R) =
    ap (tokens_stores σ s n 0 T0) e ∙ tokens_stores-append σ s n 0 T0 earlier (t ∷ later)
    ∙ ap (λ k. T ++ tokens_stores σ s n k b (t ∷ later)) (let q : 0 + length earlier ≡ length earlier = omega arith in q)
    ∙ ap (λ k. T ++ ((E ++ append_stores s b t (count_of t b) k) ++ R)) (sym p) in
    stores_split σ s seg count d ∙ ap (λ z. F ++ (z ++ Z)) tokens ∙ simp append_assoc

-- ---- what is known there

-- the facts of a segment, with the document, where these tokens are stored and t comes next
pub record Here (σ : Setting) (x : Documents) (s : ℕ) (t : Term) (before : List Term) (L : List Store) : Type 0 where
  pub stores : document_stores σ x ≡ L
  pub inside : s < σ.segments
  pub room : Room σ s (before ++ t ∷ [])
  pub numbers : Term → ℕ → ℕ
  pub reached : Reached σ s before numbers L
  pub number : number_of t (terms_of (get_or (cut σ (with_current x)) s [])) ≡ number_of t before
  pub seen : take (count_in s tail_region L) (terms_of (get_or (cut σ (with_current x)) s [])) ≡ before
  pub entered : take (count_in s cell_region L) (distinct (terms_of (get_or (cut σ (with_current x)) s []))) ≡ distinct (before ++ t ∷ [])

agrees_front : (P : Term → ℕ → ℕ) (n p : ℕ) (ts us vs : List Term) → Agrees P n p ts (us ++ vs) → Agrees P n p ts us
agrees_front P n p ts [] vs a = tt
agrees_front P n p ts (u ∷ us) vs a = (a.0, agrees_front P n (p + 1) (ts ++ u ∷ []) us vs a.1)

-- the tokens of the segment, as far as the document counts
pub record Around (σ : Setting) (x : Documents) (d : Doc) (s : ℕ) (t : Term) (before later : List Term) : Type 0 where
  pub tail : List Term
  pub all : terms_of (get_or (cut σ (with_current x)) s []) ≡ before ++ tail
  pub known : (tail ≡ t ∷ later) ⊎ ((tail ≡ []) × (1 ≤ count_of t before))

front_take : {X : Type 0} (xs front back : List X) (i : ℕ) → xs ≡ front ++ back → i ≡ length front → take i xs ≡ front
front_take xs front back i e k = ap (take i) e ∙ ap (λ j. take j (front ++ back)) k ∙ take_at front back (length front) refl

number_around : (t : Term) (before tail later ts : List Term) → ts ≡ before ++ tail → (tail ≡ t ∷ later) ⊎ ((tail ≡ []) × (1 ≤ count_of t before)) → number_of t ts ≡ number_of t before
number_around t before tail later ts e (inl w) =
    let m = count_of_push t t before in
    let m1 = ap one_if (same_term t) in
    ap (number_of t) (e ∙ ap (λ z. before ++ z) w ∙ sym (append_assoc before (t ∷ []) later)) ∙ number_stays t (before ++ t ∷ []) later (omega arith) ∙ number_here t before
number_around t before tail later ts e (inr w) = ap (number_of t) (e ∙ ap (λ z. before ++ z) w.0 ∙ append-nil before)

distinct_around : (t : Term) (before tail later ts : List Term) → ts ≡ before ++ tail
    → (tail ≡ t ∷ later) ⊎ ((tail ≡ []) × (1 ≤ count_of t before)) → (rest : List Term) × (distinct ts ≡ distinct (before ++ t ∷ []) ++ rest)
distinct_around t before tail later ts e (inl w) =
    let r = distinct_more (before ++ t ∷ []) later in
    (r.0, ap distinct (e ∙ ap (λ z. before ++ z) w ∙ sym (append_assoc before (t ∷ []) later)) ∙ r.1)
distinct_around t before tail later ts e (inr w) =
    ([], ap distinct (e ∙ ap (λ z. before ++ z) w.0 ∙ append-nil before) ∙ same ∙ sym (append-nil (distinct (before ++ t ∷ []))))
  where
    same : distinct before ≡ distinct (before ++ t ∷ [])
    same = elim (with_term_cases (distinct before) t) [
      | inl v ↦ sym (distinct_push before t ∙ v.1)
      | inr v ↦ absurd (omega (arith, once t before, v.0, w.1))
    ]

-- the document is being placed, or its term was there before
around : (σ : Setting) (docs : List Doc) (c : Option (Doc × ℕ)) (d : Doc) (s : ℕ) (seg : List Doc) (earlier later : List Term) (t : Term)
    → Joins σ docs d s seg → IsCurrent c d → d.terms ≡ earlier ++ t ∷ later
    → take (stores_done c) (doc_stores σ docs d) ≡ stores_before σ s seg (length docs) earlier t → Around σ record { accepted = docs; current = c } d s t (terms_of seg ++ earlier) later
around σ docs (Some c) d s seg earlier later t j cur e w = record {
  tail = t ∷ later;
  all = ap (λ z. terms_of (get_or (cut σ (docs ++ z ∷ [])) s [])) cur ∙ ap terms_of j.here ∙ terms_push seg d ∙ ap (λ z. terms_of seg ++ z) e ∙ sym (append_assoc (terms_of seg) earlier (t ∷ later));
  known = inl refl;
}
around σ docs None d s seg [] later t j cur e w = record {
  tail = [];
  all = ap (λ z. terms_of (get_or (cut σ z) s [])) (append-nil docs) ∙ ap terms_of j.old ∙ sym (append-nil (terms_of seg)) ∙ sym (append-nil (terms_of seg ++ []));
  known = inr (refl, there (count_of t (terms_of seg ++ [])) refl);
}
  where
    there : (k : ℕ) → count_of t (terms_of seg ++ []) ≡ k → 1 ≤ count_of t (terms_of seg ++ [])
    there (suc k) q = omega arith
    there zero q =
        let T = tokens_stores σ s (length seg) 0 (terms_of seg) [] in
        let E = enters σ s (terms_of seg ++ []) t in
        let a : 0 ≡ count_in s cell_region (first_stores s seg (length docs) ++ (T ++ E)) = ap (count_in s cell_region) w in
        let b = count_by-append (is_in s cell_region) (first_stores s seg (length docs)) (T ++ E) in
        let h = count_by-append (is_in s cell_region) T E in
        let f = enters_cells σ s (terms_of seg ++ []) t in
        let g = ap one_if (eq-eqb (count_of t (terms_of seg ++ [])) 0 q) in
        absurd (omega arith)
around σ docs None d s seg (u ∷ us) later t j cur e w = absurd (
    let T = tokens_stores σ s (length seg) 0 (terms_of seg) (u ∷ us) in
    let E = enters σ s (terms_of seg ++ (u ∷ us)) t in
    let a : 0 ≡ count_in s tail_region (first_stores s seg (length docs) ++ (T ++ E)) = ap (count_in s tail_region) w in
    let b = count_by-append (is_in s tail_region) (first_stores s seg (length docs)) (T ++ E) in
    let f = count_by-append (is_in s tail_region) T E in
    let g = tokens_tails σ s (length seg) 0 (terms_of seg) (u ∷ us) in
    omega arith
    )

-- with these stores done, the tokens before the posting are stored, and its term is entered
reached_before : (σ : Setting) (docs : List Doc) (d : Doc) (s : ℕ) (seg : List Doc) (earlier later : List Term) (t : Term)
    → IsSetting σ → IsLawful σ docs → Joins σ docs d s seg → d.terms ≡ earlier ++ t ∷ later
    → Room σ s ((terms_of seg ++ earlier) ++ t ∷ []) × Reached σ s (terms_of seg ++ earlier) (posting_numbers (seg ++ d ∷ [])) (placings σ docs ++ stores_before σ s seg (length docs) earlier t)
reached_before σ docs d s seg earlier later t k lawful j e =
    let T0 = terms_of seg in
    let b = T0 ++ earlier in
    let P = posting_numbers (seg ++ d ∷ []) in
    let L = placings σ docs in
    let F = first_stores s seg (length docs) in
    let T = tokens_stores σ s (length seg) 0 T0 earlier in
    let E = enters σ s b t in
    let room2 : Room σ s ((b ++ t ∷ []) ++ later) = subst (Room σ s) (ap (λ z. T0 ++ z) e ∙ simp append_assoc) j.room in
    let room1 = room_before σ s (b ++ t ∷ []) later room2 in
    let room0 = room_before σ s b (t ∷ []) room1 in
    let p = placed_all σ docs k lawful in
    let h0 = reached_same σ s T0 (posting_numbers seg) P L (λ u f o. sym (posting_front seg (d ∷ []) u f o))
    (subst (λ z. Reached σ s (terms_of z) (posting_numbers z) L) j.old (p.reached s j.inside)) in
    let h1 = reached_keeps σ s T0 P L F (room_before σ s T0 earlier room0) (first_within σ s seg (length docs) room1.inside) (first_plain s seg (length docs) T0) h0 in
    let agree = agrees_front P (length seg) 0 T0 earlier (t ∷ later) (subst (Agrees P (length seg) 0 T0) e (agrees_doc seg d)) in
    let h2 = tokens_done σ s (length seg) 0 T0 earlier P (L ++ F) room0 agree h1 in
    let fit = slices_fit σ (b ++ t ∷ []) room1.small room1.fits in
    let within = subst (Each (IsWithin σ)) (token_split σ s b t 0) (token_within σ s b t 0 room1.inside room1.small room1.some room1.fits) in
    let h3 = reached_keeps σ s b P ((L ++ F) ++ T) E room0 (Each-front E _ (Each-front (front_stores σ s b t 0) (tail_store s b t ∷ []) within)) (Each-front E _ (front_apart σ s b t 0 fit)) h2 in
    (room1, subst (Reached σ s b P) (simp append_assoc) h3)

-- how many tails and cells these stores are
pub tails_before : (σ : Setting) (docs : List Doc) (s : ℕ) (seg : List Doc) (earlier : List Term) (t : Term) → get_or (cut σ docs) s [] ≡ seg → Counts σ docs s
    → count_in s tail_region (placings σ docs ++ stores_before σ s seg (length docs) earlier t) ≡ length (terms_of seg ++ earlier)
tails_before σ docs s seg earlier t old c =
    let T0 = terms_of seg in
    let F = first_stores s seg (length docs) in
    let T = tokens_stores σ s (length seg) 0 T0 earlier in
    let E = enters σ s (T0 ++ earlier) t in
    omega (
      arith,
      count_by-append (is_in s tail_region) (placings σ docs) (F ++ (T ++ E)),
      count_by-append (is_in s tail_region) F (T ++ E),
      count_by-append (is_in s tail_region) T E,
      firsts_away s s tail_region seg (length docs) refl,
      tokens_tails σ s (length seg) 0 T0 earlier,
      enters_tails σ s (T0 ++ earlier) t,
      c.tails,
      ap (λ z. length (terms_of z)) old,
      length-append T0 earlier,
    )

pub cells_before : (σ : Setting) (docs : List Doc) (s : ℕ) (seg : List Doc) (earlier : List Term) (t : Term) → get_or (cut σ docs) s [] ≡ seg → Counts σ docs s
    → count_in s cell_region (placings σ docs ++ stores_before σ s seg (length docs) earlier t) ≡ length (distinct ((terms_of seg ++ earlier) ++ t ∷ []))
cells_before σ docs s seg earlier t old c =
    let T0 = terms_of seg in
    let F = first_stores s seg (length docs) in
    let T = tokens_stores σ s (length seg) 0 T0 earlier in
    let E = enters σ s (T0 ++ earlier) t in
    omega (
      arith,
      count_by-append (is_in s cell_region) (placings σ docs) (F ++ (T ++ E)),
      count_by-append (is_in s cell_region) F (T ++ E),
      count_by-append (is_in s cell_region) T E,
      firsts_away s s cell_region seg (length docs) refl,
      tokens_cells σ s (length seg) 0 T0 earlier,
      enters_cells σ s (T0 ++ earlier) t,
      distinct_one (T0 ++ earlier) t,
      c.cells,
      ap (λ z. length (distinct (terms_of z))) old,
    )

-- the segment of the document
pub joined : (σ : Setting) (x : Documents) (d : Doc) (s : ℕ) (t : Term) (posting : ℕ) → IsSetting σ
    → IsLawful σ (with_current x) → IsPostingNext σ x d s t posting → Joins σ x.accepted d s (segment_before σ x.accepted d)
joined σ x d s t posting k lawful q =
    let p = placed_all σ x.accepted k (lawful_front σ x.accepted (current_of x.current) lawful) in
    subst (λ z. Joins σ x.accepted d z (segment_before σ x.accepted d)) (sym q.place) (joins σ x.accepted d k p.short (record { limits = q.limits; there = q.room }))

-- the stores of the document that are done
pub done_before : (σ : Setting) (x : Documents) (d : Doc) (s : ℕ) (t : Term) (posting : ℕ) → Joins σ x.accepted d s (segment_before σ x.accepted d) → (q : IsPostingNext σ x d s t posting)
    → take (stores_done x.current) (doc_stores σ x.accepted d) ≡ stores_before σ s (segment_before σ x.accepted d) (length x.accepted) q.earlier t
done_before σ x d s t posting j q =
    let seg = segment_before σ x.accepted d in
    let b = terms_of seg ++ q.earlier in
    let A = append_stores s b t (count_of t b) posting in
    let T = tokens_stores σ s (length seg) (length q.earlier + 1) (b ++ t ∷ []) q.later in
    let Z : List Store = (slot s id_region (length seg), d.id) ∷ (published, length x.accepted + 1) ∷ [] in
    taken (doc_stores σ x.accepted d) (stores_before σ s seg (length x.accepted) q.earlier t) (A ++ (T ++ Z)) (stores_done x.current)
    (j.stores ∙ placing_cut σ s seg (length x.accepted) d q.earlier q.later t posting q.terms q.is)
    (omega (arith, length-append A (T ++ Z), length-append T Z))
    q.left

-- what is known where a posting comes next
pub here : (σ : Setting) (x : Documents) (d : Doc) (s : ℕ) (t : Term) (posting : ℕ) → IsSetting σ → IsLawful σ (with_current x) → (q : IsPostingNext σ x d s t posting)
    → Here σ x s t (tokens_before σ x.accepted d q.earlier) (placings σ x.accepted ++ stores_before σ s (segment_before σ x.accepted d) (length x.accepted) q.earlier t)
unfolding document_stores
here σ x d s t posting k lawful q =
    let docs = x.accepted in
    let seg = segment_before σ docs d in
    let front = lawful_front σ docs (current_of x.current) lawful in
    let j = joined σ x d s t posting k lawful q in
    let w = done_before σ x d s t posting j q in
    let a = around σ docs x.current d s seg q.earlier q.later t j q.current q.terms w in
    let r = reached_before σ docs d s seg q.earlier q.later t k front j q.terms in
    let c = counts_placed σ docs k front s in
    let dist = distinct_around t (terms_of seg ++ q.earlier) a.tail q.later (terms_of (get_or (cut σ (with_current x)) s [])) a.all a.known in
    record {
      stores = ap (λ z. placings σ docs ++ z) (current_is σ docs x.current d q.current ∙ w);
      inside = j.inside;
      room = r.0;
      numbers = posting_numbers (seg ++ d ∷ []);
      reached = r.1;
      number = number_around t (terms_of seg ++ q.earlier) a.tail q.later (terms_of (get_or (cut σ (with_current x)) s [])) a.all a.known;
      seen = front_take (terms_of (get_or (cut σ (with_current x)) s [])) (terms_of seg ++ q.earlier) a.tail _ a.all (tails_before σ docs s seg q.earlier t j.old c);
      entered =
          front_take (distinct (terms_of (get_or (cut σ (with_current x)) s []))) (distinct ((terms_of seg ++ q.earlier) ++ t ∷ [])) dist.0 _ dist.1 (cells_before σ docs s seg q.earlier t j.old c);
    }

-- ---- after the stores of the posting

-- the same facts once it is stored
pub record Done (σ : Setting) (x : Documents) (s : ℕ) (t : Term) (before : List Term) : Type 0 where
  pub seen : take (count_in s tail_region (document_stores σ x)) (terms_of (get_or (cut σ (with_current x)) s [])) ≡ before ++ t ∷ []
  pub entered : take (count_in s cell_region (document_stores σ x)) (distinct (terms_of (get_or (cut σ (with_current x)) s []))) ≡ distinct (before ++ t ∷ [])

taken_more : (xs a b : List Store) (i : ℕ) → drop i xs ≡ a ++ b → take (i + length a) xs ≡ take i xs ++ a
taken_more xs a b zero e = ap (λ k. take k xs) (let q : 0 + length a ≡ length a = omega arith in q) ∙ ap (take (length a)) e ∙ take_at a b (length a) refl
taken_more [] [] b (suc i) e = ap (λ (k : ℕ). take {A = Store} k []) (let q : suc i + 0 ≡ suc (i + 0) = omega arith in q)
taken_more [] (y ∷ a) b (suc i) e = absurd cc
taken_more (x ∷ xs) a b (suc i) e = ap (λ k. take k (x ∷ xs)) (let q : suc i + length a ≡ suc (i + length a) = omega arith in q) ∙ ap (λ z. x ∷ z) (taken_more xs a b i e)

pub done_after : (σ : Setting) (x : Documents) (d : Doc) (s : ℕ) (t : Term) (posting : ℕ) → IsSetting σ → IsLawful σ (with_current x) → (q : IsPostingNext σ x d s t posting)
    → Done σ (with_stores x d (length (append_stores s (tokens_before σ x.accepted d q.earlier) t (count_of t (tokens_before σ x.accepted d q.earlier)) posting))) s t
    (tokens_before σ x.accepted d q.earlier)
unfolding document_stores
done_after σ x d s t posting k lawful q =
    let docs = x.accepted in
    let seg = segment_before σ docs d in
    let b = terms_of seg ++ q.earlier in
    let A = append_stores s b t (count_of t b) posting in
    let W = stores_before σ s seg (length docs) q.earlier t in
    let front = lawful_front σ docs (current_of x.current) lawful in
    let j = joined σ x d s t posting k lawful q in
    let w = done_before σ x d s t posting j q in
    let c = counts_placed σ docs k front s in
    let all : terms_of (get_or (cut σ (docs ++ d ∷ [])) s []) ≡ (b ++ t ∷ []) ++ q.later = ap terms_of j.here ∙ terms_push seg d ∙ ap (λ z. terms_of seg ++ z) q.terms ∙ simp append_assoc in
    let more = distinct_more (b ++ t ∷ []) q.later in
    let stores : placings σ docs ++ take (stores_done x.current + length A) (doc_stores σ docs d) ≡ (placings σ docs ++ W) ++ A =
    ap (λ z. placings σ docs ++ z) (taken_more (doc_stores σ docs d) A _ (stores_done x.current) q.left ∙ ap (λ z. z ++ A) w) ∙ sym (append_assoc (placings σ docs) W A) in
    record {
      seen = front_take (terms_of (get_or (cut σ (docs ++ d ∷ [])) s [])) (b ++ t ∷ []) q.later _ all
          (omega (
            arith,
            ap (count_in s tail_region) stores,
            count_by-append (is_in s tail_region) (placings σ docs ++ W) A,
            tails_before σ docs s seg q.earlier t j.old c,
            appends_tails s b t (count_of t b) posting,
            length_push b t,
          ));
      entered = front_take (distinct (terms_of (get_or (cut σ (docs ++ d ∷ [])) s []))) (distinct (b ++ t ∷ [])) more.0 _ (ap distinct all ∙ more.1)
          (omega (
            arith,
            ap (count_in s cell_region) stores,
            count_by-append (is_in s cell_region) (placings σ docs ++ W) A,
            cells_before σ docs s seg q.earlier t j.old c,
            appends_cells s b t (count_of t b) posting,
          ));
    }
