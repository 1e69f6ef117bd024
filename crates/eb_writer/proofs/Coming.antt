-- From one token of a document that is being placed to the next.
use Rattle.std.proofs.Common.{◌≡◌, ℕ, zero, suc, ◌+◌, ◌<◌, ◌≤◌, ◌==◌, false, List, [], ◌∷◌, ◌++◌, length, take, drop, get_or, refl, ap, sym, ◌∙◌, subst, arith, inl, inr, append_assoc, if◌then◌else◌}
use Rattle.std.proofs.lemmas.Bool.{cases_Bool, eq-eqb, eqb-true}
use Rattle.eb_base.specs.Term.{Term}
use Rattle.eb_base.specs.Document.{Doc}
use Rattle.eb_base.specs.Setting.{Setting}
use Rattle.eb_base.proofs.Copying.{take_got}
use Rattle.eb_place.specs.declared.moment.Documents.{Documents}
use Rattle.eb_place.specs.declared.moment.Moment.{Moment}
use Rattle.eb_place.specs.Layout.Region.{tail_region}
use Rattle.eb_place.specs.Postings.{terms_of, distinct, count_of, number_of, posting_of}
use Rattle.eb_place.specs.Placing.{Store, enter_stores, append_stores, token_stores, tokens_stores, segment_before, doc_stores}
use Rattle.eb_place.specs.Moments.{IsMoment}
use Rattle.eb_place.specs.NextStores.{stores_done, with_stores}
use Rattle.eb_place.specs.Seen.{segment, stores_in_region, entered, tokens_seen}
use Rattle.eb_place.specs.Walk.{IsTerm}
use Rattle.eb_place.proofs.NextAddresses.{next_rest}
use Rattle.eb_place.proofs.TermNumbersStay.{number_low, number_once}
use Rattle.eb_place.proofs.WordsAtMoment.{placed_all, Joins, joins}
use Rattle.eb_place.proofs.EnteredTerms.{number_at, entered_is_term}
use Rattle.eb_terms.specs.Entering.{IsNextTerm, HasEntered}
use Rattle.eb_chain.specs.Appends.{tokens_before, stores_from, IsPostingNext, HasAppended}
use Rattle.eb_place.proofs.RegionCounts.{count_in}
use Rattle.eb_place.proofs.NextStore.{accepted_lawful}
use Rattle.eb_chain.proofs.Appending.{done_after}
use Rattle.eb_chain.proofs.Posted.{known}
use Rattle.eb_writer.specs.Recall.{token_at}
use Rattle.eb_writer.specs.Storing.{before_it, tokens_until, IsPlaced, HasComeTo, HasComeToPosting, IsNumbered}
use Rattle.eb_writer.proofs.Tallies.{drop_one}
use Rattle.eb_writer.proofs.Finding.{element}

-- the document's segment
pub joined : (m : Moment) (d : Doc) (s : ℕ) → IsMoment m → IsPlaced m d s → Joins m.setting m.documents.accepted d s (before_it m d)
joined m d s is p =
    let docs = m.documents.accepted in
    subst (λ z. Joins m.setting docs d z (before_it m d)) (sym p.place)
    (joins m.setting docs d is.setting (placed_all m.setting docs is.setting (accepted_lawful m is)).short (record { limits = p.limits; there = p.room }))

-- ---- a token

-- what is left begins with the stores of the token
left_token : (m : Moment) (d : Doc) (s i : ℕ) → i < length d.terms → HasComeTo m d s i
    → drop (stores_done m.documents.current) (doc_stores m.setting m.documents.accepted d)
    ≡ (if count_of (token_at d.terms i) (tokens_until m d i) == 0 then enter_stores m.setting s (distinct (tokens_until m d i)) (token_at d.terms i) else [])
    ++ (append_stores s (tokens_until m d i) (token_at d.terms i) (count_of (token_at d.terms i) (tokens_until m d i)) (posting_of (length (before_it m d)) i)
    ++ stores_from m.setting m.documents.accepted d s (i + 1) (tokens_until m d i ++ token_at d.terms i ∷ []) (drop (i + 1) d.terms))
unfolding tokens_stores token_stores
left_token m d s i low h =
    let σ = m.setting in
    let docs = m.documents.accepted in
    let b = tokens_until m d i in
    let t = token_at d.terms i in
    let e : drop i d.terms ≡ t ∷ drop (i + 1) d.terms = drop_one d.terms i t (element d.terms i [] low) in
    h.left ∙ ap (stores_from σ docs d s i b) e ∙ simp append_assoc

-- what is left after the stores that enter the term, if it is new
abbrev pub posting_stores : Moment → Doc → ℕ → ℕ → List Store
posting_stores m d s i = append_stores s (tokens_until m d i) (token_at d.terms i) (count_of (token_at d.terms i) (tokens_until m d i)) (posting_of (length (before_it m d)) i)
    ++ stores_from m.setting m.documents.accepted d s (i + 1) (tokens_until m d i ++ token_at d.terms i ∷ []) (drop (i + 1) d.terms)

left_new : (m : Moment) (d : Doc) (s i : ℕ) → i < length d.terms → count_of (token_at d.terms i) (tokens_until m d i) ≡ 0 → HasComeTo m d s i
    → drop (stores_done m.documents.current) (doc_stores m.setting m.documents.accepted d) ≡ enter_stores m.setting s (entered m s) (token_at d.terms i) ++ posting_stores m d s i
left_new m d s i low new h =
    let b = tokens_until m d i in
    let t = token_at d.terms i in
    left_token m d s i low h ∙ (λ j. (if eq-eqb (count_of t b) 0 new j then enter_stores m.setting s (distinct b) t else []) ++ posting_stores m d s i)
    ∙ ap (λ z. enter_stores m.setting s z t ++ posting_stores m d s i) (sym h.entered)

-- where its term is new, the stores that enter it come next
pub next_term : (m : Moment) (d : Doc) (s i : ℕ) → i < length d.terms → count_of (token_at d.terms i) (tokens_until m d i) ≡ 0 → HasComeTo m d s i → IsNextTerm m d s (token_at d.terms i)
next_term m d s i low new h = record { limits = h.placed.limits; room = h.placed.room; current = h.placed.current; front = (posting_stores m d s i, sym (left_new m d s i low new h)) }

-- and then its posting
pub entered_posting : (m n : Moment) (d : Doc) (s i k : ℕ) → i < length d.terms → count_of (token_at d.terms i) (tokens_until m d i) ≡ 0
    → HasComeTo m d s i → HasEntered m n d s (token_at d.terms i) k → HasComeToPosting n d s i
entered_posting m n d s i k low new h e =
    let E = enter_stores m.setting s (entered m s) (token_at d.terms i) in
    let rest = next_rest (doc_stores m.setting m.documents.accepted d) E (posting_stores m d s i) (stores_done m.documents.current) (left_new m d s i low new h) in
    let x = with_stores m.documents d (length E) in
    let P : Setting → Documents → Type 0 = λ σ y. HasComeToPosting record { setting = σ; documents = y; conversions = n.conversions } d s i in
    let at : P m.setting x = record { placed = record { limits = h.placed.limits; room = h.placed.room; current = refl; place = h.placed.place }; low = low; left = rest } in
    subst (λ (z : Setting × Documents). P z.0 z.1) (λ j. (e.later.setting j, sym e.documents j)) at

-- where its term is there already, its posting comes next
pub old_posting : (m : Moment) (d : Doc) (s i : ℕ) → i < length d.terms → 1 ≤ count_of (token_at d.terms i) (tokens_until m d i) → HasComeTo m d s i → HasComeToPosting m d s i
old_posting m d s i low old h =
    let b = tokens_until m d i in
    let t = token_at d.terms i in
    let X = append_stores s b t (count_of t b) (posting_of (length (before_it m d)) i) ++ stores_from m.setting m.documents.accepted d s (i + 1) (b ++ t ∷ []) (drop (i + 1) d.terms) in
    record { placed = h.placed; low = low; left = left_token m d s i low h ∙ (λ j. (if away (count_of t b) old j then enter_stores m.setting s (distinct b) t else []) ++ X) }
  where
    away : (c : ℕ) → 1 ≤ c → (c == 0) ≡ false
    away c l = elim (cases_Bool (c == 0)) [
      | inl e ↦ let q : c ≡ 0 = eqb-true c 0 e in absurd (omega arith)
      | inr e ↦ e
    ]

pub old_term : (m : Moment) (d : Doc) (s i k : ℕ) → s < m.setting.segments → 1 ≤ count_of (token_at d.terms i) (tokens_until m d i)
    → HasComeTo m d s i → IsNumbered m d i k → IsTerm m s (token_at d.terms i) k
old_term m d s i k inside old h e =
    let b = tokens_until m d i in
    let t = token_at d.terms i in
    let low : number_of t b < length (distinct b) = number_low t b old in
    let at : get_or (entered m s) k [] ≡ t = (λ j. get_or (h.entered j) (e j) []) ∙ sym (number_once t (get_or (distinct b) (number_of t b) []) b old (sym (number_at b (number_of t b) low))) in
    subst (λ z. IsTerm m s z k) at (entered_is_term m s k inside (omega (arith, low, e, ap length h.entered)))

-- ---- a posting

split_at : (ts : List Term) (i : ℕ) → i < length ts → ts ≡ take i ts ++ token_at ts i ∷ drop (i + 1) ts
split_at ts i low = go ts i low ∙ ap (λ k. take i ts ++ token_at ts i ∷ drop k ts) (let q : suc i ≡ i + 1 = omega arith in q)
  where
    go : (ts : List Term) (i : ℕ) → i < length ts → ts ≡ take i ts ++ token_at ts i ∷ drop (suc i) ts
    go [] i low = absurd (omega arith)
    go (x ∷ xs) zero low = refl
    go (x ∷ xs) (suc i) low = ap (λ z. x ∷ z) (go xs i (omega arith))

taken_long : (ts : List Term) (i : ℕ) → i ≤ length ts → length (take i ts) ≡ i
taken_long ts zero l = refl
taken_long [] (suc i) l = absurd (omega arith)
taken_long (x ∷ xs) (suc i) l = ap suc (taken_long xs i (omega arith))

-- so the posting comes next
pub posting_next : (m : Moment) (d : Doc) (s i p : ℕ) → p ≡ posting_of (length (before_it m d)) i → HasComeToPosting m d s i → IsPostingNext m.setting m.documents d s (token_at d.terms i) p
posting_next m d s i p e h =
    let n = taken_long d.terms i (let l = h.low in omega arith) in
    let b = tokens_until m d i in
    let t = token_at d.terms i in
    record {
      limits = h.placed.limits;
      room = h.placed.room;
      current = h.placed.current;
      place = h.placed.place;
      earlier = take i d.terms;
      later = drop (i + 1) d.terms;
      terms = split_at d.terms i h.low;
      is = e ∙ ap (posting_of (length (before_it m d))) (sym n);
      left = h.left ∙ (λ j. append_stores s b t (count_of t b) (sym e j) ++ stores_from m.setting m.documents.accepted d s (sym n j + 1) (b ++ t ∷ []) (drop (i + 1) d.terms));
    }

-- and after it the next token
pub next_token : (m n : Moment) (d : Doc) (s i p : ℕ) → IsMoment m → (e : p ≡ posting_of (length (before_it m d)) i)
    → (h : HasComeToPosting m d s i) → HasAppended m n d s (token_at d.terms i) p → HasComeTo n d s (i + 1)
unfolding entered tokens_seen stores_in_region posting_next
next_token m n d s i p is e h a =
    let q = posting_next m d s i p e h in
    let σ = m.setting in
    let docs = m.documents.accepted in
    let t = token_at d.terms i in
    let b = tokens_until m d i in
    let A = append_stores s b t (count_of t b) p in
    let there = known m d s t p is q in
    let seen : tokens_seen m s ≡ b = ap (λ z. take (count_in s tail_region z) (terms_of (segment m s))) there.stores ∙ there.seen in
    let documents : n.documents ≡ with_stores m.documents d (length A) = a.documents ∙ ap (λ z. with_stores m.documents d (length (append_stores s z t (count_of t z) p))) seen in
    let done = done_after σ m.documents d s t p is.setting is.lawful q in
    let rest = next_rest (doc_stores σ docs d) A _ (stores_done m.documents.current) q.left in
    let long = taken_long d.terms i (let l = h.low in omega arith) in
    let before : b ++ t ∷ [] ≡ tokens_before σ docs d (take (i + 1) d.terms) = append_assoc (terms_of (segment_before σ docs d)) (take i d.terms) (t ∷ [])
    ∙ ap (λ z. terms_of (segment_before σ docs d) ++ z) (sym (take_got d.terms i t (element d.terms i [] h.low))) in
    let P : Setting → Documents → Type 0 = λ κ y. HasComeTo record { setting = κ; documents = y; conversions = n.conversions } d s (i + 1) in
    let at : P σ (with_stores m.documents d (length A)) = record {
      placed = record { limits = h.placed.limits; room = h.placed.room; current = refl; place = h.placed.place };
      few = let l = h.low in omega arith;
      left = rest ∙ (λ j. stores_from σ docs d s (long j + 1) (before j) (drop (i + 1) d.terms));
      entered = done.entered ∙ ap distinct before;
      seen = done.seen ∙ before;
    } in
    subst (λ (z : Setting × Documents). P z.0 z.1) (λ j. (a.later.setting j, sym documents j)) at
