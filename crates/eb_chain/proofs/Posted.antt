-- What the writer finds where a posting comes next, and what it leaves.
use Rattle.std.proofs.Common.{◌≡◌, ℕ, zero, suc, ◌+◌, ◌-◌, ◌*◌, ◌^◌, ◌<◌, ◌≤◌, ◌==◌, ◌&&◌, Bool, true, false, List, [], ◌∷◌, ◌++◌, length, take}
use Rattle.std.proofs.Common.{get_or, refl, ap, sym, ◌∙◌, subst, arith, inl, inr, if◌then◌else◌, nat_le, sum_by, Option, Some, None, lit<}
use Rattle.std.proofs.lemmas.Bool.{cases_Bool, cases_lt, false≢true, eqb-true, le-leb}
use Rattle.eb_base.specs.Term.{Term}
use Rattle.eb_base.specs.Document.{Doc}
use Rattle.eb_base.specs.Setting.{Setting}
use Rattle.eb_place.specs.declared.moment.Documents.{Documents}
use Rattle.eb_place.specs.declared.moment.Moment.{Moment}
use Rattle.eb_place.specs.declared.used.Used.{Used}
use Rattle.eb_place.specs.Layout.{pool_slot, place, address_number, slice_bits}
use Rattle.eb_place.specs.Layout.Slot.{slot, published}
use Rattle.eb_place.specs.Layout.Region.{tail_region, cell_region, id_region}
use Rattle.eb_place.specs.Postings.{terms_of, distinct, count_of, number_of}
use Rattle.eb_place.specs.Room.{cut, text_words}
use Rattle.eb_place.specs.Address.{pool_at, offset_at, slice_start, begins, begins_in, slices_begun, front_of, address_of}
use Rattle.eb_place.specs.Placing.{Store, append_stores, tokens_stores, segment_before}
use Rattle.eb_place.specs.Moments.{placings, word, IsMoment}
use Rattle.eb_place.specs.Later.{IsNotBefore}
use Rattle.eb_place.specs.NextStores.{stores_done, after_store, AreNext, with_stores}
use Rattle.eb_place.specs.Seen.{segment, stores_in_region, entered, tokens_seen}
use Rattle.eb_place.specs.Tells.{TellsSegment}
use Rattle.eb_place.specs.Walk.{IsTerm}
use Rattle.eb_place.proofs.TermCounts.{one_if, same_term, count_of_push, begun_push}
use Rattle.eb_place.proofs.AddressesDiffer.{SlicesFit, pool_low, slice_in}
use Rattle.eb_place.proofs.NextAddresses.{front_all, front_here, address_new, address_next}
use Rattle.eb_place.proofs.StoresWithinTable.{slices_fit}
use Rattle.eb_place.proofs.TermNumbersStay.{number_absent}
use Rattle.eb_place.proofs.WordsOfTokens.{val}
use Rattle.eb_place.proofs.StoringTokens.{room_before}
use Rattle.eb_place.proofs.LaterMoments.{later_on}
use Rattle.eb_place.proofs.NextStore.{setting_stored}
use Rattle.eb_place.proofs.ReachedLater.{later_term}
use Rattle.eb_place.proofs.ReaderWords.{word_of_writer, tail_in_table, packed_tail, parts_of}
use Rattle.eb_chain.specs.declared.next_place.NextPlace.{NextPlace}
use Rattle.eb_chain.specs.Needs.{IsTailWord}
use Rattle.eb_chain.specs.Appends.{tokens_before, IsPostingNext, HasAppended}
use Rattle.eb_chain.specs.NextPlaces.{slices_of, with_slice, HasAddress, IsNextPlace, link_stores, after_link}
use Rattle.eb_place.proofs.WayBackFromPosting.{told}
use Rattle.eb_place.proofs.RegionCounts.{count_in}
use Rattle.eb_place.proofs.ListOfStores.{one_stored, pool_counts_nothing}
use Rattle.eb_place.proofs.EnteredTerms.{entered_by}
use Rattle.eb_place.proofs.TailStores.{tokens_by}
use Rattle.eb_chain.proofs.Appending.{stores_before, Here, here, Done, done_after}

-- the tail of a term with n postings among the stored tokens
abbrev pub tail_of : Term → List Term → ℕ → ℕ
tail_of t ts zero = 0
tail_of t ts (suc f) = address_of t f ts + 1

-- the facts where t comes next
pub known : (m : Moment) (d : Doc) (s : ℕ) (t : Term) (posting : ℕ) → IsMoment m → (q : IsPostingNext m.setting m.documents d s t posting)
    → Here m.setting m.documents s t (tokens_before m.setting m.documents.accepted d q.earlier)
    (placings m.setting m.documents.accepted ++ stores_before m.setting s (segment_before m.setting m.documents.accepted d) (length m.documents.accepted) q.earlier t)
known m d s t posting is q = here m.setting m.documents d s t posting is.setting is.lawful q

-- its tail is that of the stored tokens
tail_here : (m : Moment) (s : ℕ) (t : Term) (k : ℕ) (before : List Term) (L : List Store) → IsMoment m → IsTerm m s t k
    → Here m.setting m.documents s t before L → word m (place m.setting (slot s tail_region k)) ≡ tail_of t before (count_of t before)
tail_here m s t k before L is term h =
    let i = tail_in_table m s t k is term in
    let number : k ≡ number_of t before = term.number ∙ h.number in
    word_of_writer m (slot s tail_region k) is i.1 (packed_tail s k) ∙ ap (λ z. val m.setting z (slot s tail_region k)) h.stores ∙ by (count_of t before) refl number i.0
  where
    by : (n : ℕ) → count_of t before ≡ n → k ≡ number_of t before → k < m.setting.terms → val m.setting L (slot s tail_region k) ≡ tail_of t before n
    by zero e number low = h.reached.bare k (omega (arith, number_absent t before e)) low
    by (suc f) e number low =
        ap (λ z. val m.setting L (slot s tail_region z)) number ∙ h.reached.tail t (omega arith)
        ∙ ap (λ z. address_of t z before + 1) (let q : count_of t before - 1 ≡ f = omega arith in q)

-- so it is a tail word of this many postings
tail_word_here : (t : Term) (before : List Term) (n : ℕ) → n ≤ count_of t before → SlicesFit before → IsTailWord n (tail_of t before n)
tail_word_here t before zero l fit = refl
tail_word_here t before (suc f) l fit =
    let w = told f (address_of t f before) (parts_of t f before (slice_in t f before (omega arith) fit)) in
    subst (IsTailWord (suc f)) (let q : suc (address_of t f before) ≡ address_of t f before + 1 = omega arith in q) (record { pool = w.0; offset = w.1 })

slices_told : (u : Used) (m : Moment) (s p : ℕ) (before : List Term) → p < 4 → TellsSegment u m s → tokens_seen m s ≡ before → slices_of u p ≡ slices_begun p before
slices_told u m s zero before l h e = h.pool0 ∙ ap (slices_begun 0) e
slices_told u m s (suc zero) before l h e = h.pool1 ∙ ap (slices_begun 1) e
slices_told u m s (suc (suc zero)) before l h e = h.pool2 ∙ ap (slices_begun 2) e
slices_told u m s (suc (suc (suc zero))) before l h e = h.pool3 ∙ ap (slices_begun 3) e
slices_told u m s (suc (suc (suc (suc p)))) before l h e = absurd (omega arith)

-- and the address of the posting has room where it begins a slice
has_address : (t : Term) (before : List Term) (u : Used) → SlicesFit (before ++ t ∷ []) → ((p : ℕ) → p < 4 → slices_of u p ≡ slices_begun p before) → HasAddress (count_of t before) u
has_address t before u fit same b =
    let c = count_of t before in
    let m = count_of_push t t before in
    let m1 = ap one_if (same_term t) in
    let start : slice_start c ≡ c = eqb-true _ _ b in
    let front : front_of t (slice_start c) (before ++ t ∷ []) ≡ before = ap (λ k. front_of t k (before ++ t ∷ [])) start
    ∙ front_here t c before [] (omega arith) ∙ front_all t c before (omega arith) in
    let h = slice_in t c (before ++ t ∷ []) (omega arith) fit in
    subst (λ z. z * 2 ^ slice_bits (pool_at c) + offset_at c < 2 ^ 30) (ap (slices_begun (pool_at c)) front ∙ sym (same (pool_at c) (pool_low c))) h

-- what a call finds: the tail word, and room
pub record Found (f tail : ℕ) (u : Used) : Type 0 where
  pub word : IsTailWord f tail
  pub room : HasAddress f u

-- how many postings of the term come before
abbrev pub before_it : (m : Moment) (d : Doc) (s : ℕ) (t : Term) (posting : ℕ) → IsPostingNext m.setting m.documents d s t posting → ℕ
before_it m d s t posting q = count_of t (tokens_before m.setting m.documents.accepted d q.earlier)

seen_here : (m : Moment) (d : Doc) (s : ℕ) (t : Term) (posting : ℕ) → IsMoment m → (q : IsPostingNext m.setting m.documents d s t posting)
    → tokens_seen m s ≡ tokens_before m.setting m.documents.accepted d q.earlier
unfolding tokens_seen stores_in_region
seen_here m d s t posting is q = let h = known m d s t posting is q in ap (λ z. take (count_in s tail_region z) (terms_of (segment m s))) h.stores ∙ h.seen

entered_here : (m : Moment) (d : Doc) (s : ℕ) (t : Term) (posting : ℕ) → IsMoment m → (q : IsPostingNext m.setting m.documents d s t posting)
    → entered m s ≡ distinct (tokens_before m.setting m.documents.accepted d q.earlier ++ t ∷ [])
unfolding entered stores_in_region
entered_here m d s t posting is q = let h = known m d s t posting is q in ap (λ z. take (count_in s cell_region z) (distinct (terms_of (segment m s)))) h.stores ∙ h.entered

tail_is : (m : Moment) (d : Doc) (s : ℕ) (t : Term) (posting k tail : ℕ) → IsMoment m → IsTerm m s t k
    → (q : IsPostingNext m.setting m.documents d s t posting) → tail ≡ word m (place m.setting (slot s tail_region k))
    → tail ≡ tail_of t (tokens_before m.setting m.documents.accepted d q.earlier) (before_it m d s t posting q)
tail_is m d s t posting k tail is term q e = e ∙ tail_here m s t k (tokens_before m.setting m.documents.accepted d q.earlier) _ is term (known m d s t posting is q)

fit_here : (m : Moment) (d : Doc) (s : ℕ) (t : Term) (posting : ℕ) → IsMoment m → (q : IsPostingNext m.setting m.documents d s t posting)
    → SlicesFit (tokens_before m.setting m.documents.accepted d q.earlier ++ t ∷ [])
fit_here m d s t posting is q = let h = known m d s t posting is q in let r = h.room in slices_fit m.setting (tokens_before m.setting m.documents.accepted d q.earlier ++ t ∷ []) r.small r.fits

fit_before : (m : Moment) (d : Doc) (s : ℕ) (t : Term) (posting : ℕ) → IsMoment m
    → (q : IsPostingNext m.setting m.documents d s t posting) → SlicesFit (tokens_before m.setting m.documents.accepted d q.earlier)
fit_before m d s t posting is q =
    let h = known m d s t posting is q in
    let r = room_before m.setting s (tokens_before m.setting m.documents.accepted d q.earlier) (t ∷ []) h.room in
    slices_fit m.setting (tokens_before m.setting m.documents.accepted d q.earlier) r.small r.fits

-- the tail's word says what the call needs
pub found : (m : Moment) (d : Doc) (s : ℕ) (t : Term) (posting k tail : ℕ) (u : Used) → IsMoment m → IsTerm m s t k → TellsSegment u m s
    → (q : IsPostingNext m.setting m.documents d s t posting) → tail ≡ word m (place m.setting (slot s tail_region k))
    → Found (before_it m d s t posting q) tail u
found m d s t posting k tail u is term tells q e =
    let b = tokens_before m.setting m.documents.accepted d q.earlier in
    record {
      word = subst (IsTailWord (count_of t b)) (sym (tail_is m d s t posting k tail is term q e)) (tail_word_here t b (count_of t b) (omega arith) (fit_before m d s t posting is q));
      room = has_address t b u (fit_here m d s t posting is q) (λ p l. slices_told u m s p b l tells (seen_here m d s t posting is q));
    }

-- ---- the stores

begins_first : begins 0 ≡ true
unfolding slice_start
begins_first = refl

one_linked : (p : ℕ) → 1 ≤ p → nat_le 1 p ≡ true
one_linked p l = le-leb _ _ l

none_linked : (p : ℕ) → p ≡ 0 → nat_le 1 p ≡ false
none_linked p e = ap (nat_le 1) e

-- the address that a call finds is that of the posting
address_found : (t : Term) (before : List Term) (tail : ℕ) (u : Used) (r : NextPlace) → tail ≡ tail_of t before (count_of t before)
    → ((p : ℕ) → p < 4 → slices_of u p ≡ slices_begun p before) → IsNextPlace (count_of t before) tail u r
    → r.address ≡ address_of t (count_of t before) before
address_found t before tail u r e same h = elim (cases_Bool (begins (count_of t before))) [
  | inl new ↦ (h.first new).0 ∙ ap (λ z. address_number (pool_at (count_of t before)) z (offset_at (count_of t before))) (same (pool_at (count_of t before)) (pool_low (count_of t before)))
      ∙ sym (address_new t before new)
  | inr old ↦ (h.within old).0 ∙ e ∙ by (count_of t before) old
]
  where
    by : (n : ℕ) → begins n ≡ false → tail_of t before n ≡ address_of t n before
    by zero o = absurd (false≢true (sym o ∙ begins_first))
    by (suc f) o = sym (ap (λ k. address_of t k before) (let q : suc f ≡ f + 1 = omega arith in q) ∙ address_next t f before (ap begins (let q : f + 1 ≡ suc f = omega arith in q) ∙ o))

zero_unlinked : 1 ≤ pool_at 0 → ⊥
unfolding pool_at
zero_unlinked h = omega arith

-- and so is the link
link_found : (s : ℕ) (t : Term) (before : List Term) (tail : ℕ) (u : Used) (r : NextPlace) → tail ≡ tail_of t before (count_of t before)
    → IsNextPlace (count_of t before) tail u r → r.address ≡ address_of t (count_of t before) before
    → (if begins (count_of t before) && nat_le 1 (pool_at (count_of t before))
    then ((pool_slot s (address_of t (count_of t before) before - 1), address_of t (count_of t before - 1) before) ∷ []) else []) ≡ link_stores s r.address r.link
link_found s t before tail u r e h a = elim (cases_Bool (begins (count_of t before))) [
  | inr old ↦ ap (λ (b : Bool). if b && nat_le 1 (pool_at (count_of t before)) then X else []) old ∙ sym (ap (link_stores s r.address) (h.within old).1)
  | inl new ↦ elim (cases_lt 0 (pool_at (count_of t before))) [
    | inl high ↦ (λ i. if new i && one_linked (pool_at (count_of t before)) high i then X else []) ∙ ap (λ z. (pool_slot s (z - 1), address_of t (count_of t before - 1) before) ∷ []) (sym a)
        ∙ ap (λ z. (pool_slot s (r.address - 1), z) ∷ []) (last (count_of t before) high e) ∙ sym (ap (link_stores s r.address) (h.linked new high))
    | inr low ↦ let z : pool_at (count_of t before) ≡ 0 = omega arith in
        (λ i. if new i && none_linked (pool_at (count_of t before)) z i then X else []) ∙ sym (ap (link_stores s r.address) (h.unlinked new z))
  ]
]
  where
    X : List Store
    X = (pool_slot s (address_of t (count_of t before) before - 1), address_of t (count_of t before - 1) before) ∷ []

    last : (n : ℕ) → 1 ≤ pool_at n → tail ≡ tail_of t before n → address_of t (n - 1) before ≡ tail - 1
    last zero p e = absurd (zero_unlinked p)
    last (suc f) p e = ap (λ k. address_of t k before) (let q : suc f - 1 ≡ f = omega arith in q) ∙ omega (arith, e)

-- so these stores come next
pub stores_next : (m : Moment) (d : Doc) (s : ℕ) (t : Term) (posting k tail : ℕ) (u : Used) (r : NextPlace)
    → IsMoment m → IsTerm m s t k → TellsSegment u m s → (q : IsPostingNext m.setting m.documents d s t posting)
    → tail ≡ word m (place m.setting (slot s tail_region k)) → IsNextPlace (before_it m d s t posting q) tail u r
    → append_stores s (tokens_before m.setting m.documents.accepted d q.earlier) t (before_it m d s t posting q) posting
    ≡ link_stores s r.address r.link ++ (pool_slot s r.address, posting) ∷ (slot s tail_region k, r.address + 1) ∷ []
unfolding append_stores
stores_next m d s t posting k tail u r is term tells q e h =
    let b = tokens_before m.setting m.documents.accepted d q.earlier in
    let v = tail_is m d s t posting k tail is term q e in
    let a : r.address ≡ address_of t (count_of t b) b = address_found t b tail u r v (λ p l. slices_told u m s p b l tells (seen_here m d s t posting is q)) h in
    let l = link_found s t b tail u r v h a in
    let number : k ≡ number_of t b = term.number ∙ (known m d s t posting is q).number in
    λ i. l i ++ (pool_slot s (sym a i), posting) ∷ (slot s tail_region (sym number i), sym a i + 1) ∷ []

pub are_next : (m : Moment) (d : Doc) (s : ℕ) (t : Term) (posting : ℕ) (now : List Store) → (q : IsPostingNext m.setting m.documents d s t posting)
    → append_stores s (tokens_before m.setting m.documents.accepted d q.earlier) t (before_it m d s t posting q) posting ≡ now → AreNext m d now
are_next m d s t posting now q e =
    let docs = m.documents.accepted in
    let seg = segment_before m.setting docs d in
    let T = tokens_stores m.setting s (length seg) (length q.earlier + 1) (tokens_before m.setting docs d q.earlier ++ t ∷ []) q.later in
    let Z : List Store = (slot s id_region (length seg), d.id) ∷ (published, length docs + 1) ∷ [] in
    record {
      limits = q.limits;
      room = q.room;
      current = q.current;
      front = (T ++ Z, sym (q.left ∙ ap (λ z. z ++ (T ++ Z)) e));
    }

-- a slice that has a link begins after an address
pub link_behind : (s : ℕ) (t : Term) (before : List Term) (tail last : ℕ) (u : Used) (r : NextPlace) → tail ≡ tail_of t before (count_of t before)
    → ((p : ℕ) → p < 4 → slices_of u p ≡ slices_begun p before) → IsNextPlace (count_of t before) tail u r → r.link ≡ Some last → 0 < r.address
unfolding address_of
link_behind s t before tail last u r e same h l = elim (cases_Bool (begins (count_of t before))) [
  | inr old ↦ absurd (cc ((h.within old).1, l))
  | inl new ↦ elim (cases_lt 0 (pool_at (count_of t before))) [
    | inl high ↦ omega (arith, (h.first new).0, high)
    | inr low ↦ absurd (cc (h.unlinked new (let z : pool_at (count_of t before) ≡ 0 = omega arith in z), l))
  ]
]

-- ---- the moment afterwards

-- exactly n stores of the document more
pub record More (m n : Moment) (d : Doc) (k : ℕ) : Type 0 where
  pub setting : n.setting ≡ m.setting
  pub documents : n.documents ≡ with_stores m.documents d k
  pub later : IsNotBefore n m

one_more : (m n : Moment) (d : Doc) (k : ℕ) (x : Store) (now : List Store) → More m n d k → AreNext n d (x ∷ now) → (x.0 ≡ published → ⊥) → More m (after_store n d) d (k + 1)
one_more m n d k x now h a plain =
    let one = one_stored n d x now a plain in
    record {
      setting = setting_stored n d ∙ h.setting;
      documents = one.documents ∙ ap (λ (z : Documents). with_stores z d 1) h.documents ∙ ap (λ j. record { accepted = m.documents.accepted; current = Some (d, j) })
          (let q : stores_done m.documents.current + k + 1 ≡ stores_done m.documents.current + (k + 1) = omega arith in q);
      later = later_on m n (after_store n d) h.later one.later;
    }

first_more : (m : Moment) (d : Doc) (x : Store) (now : List Store) → AreNext m d (x ∷ now) → (x.0 ≡ published → ⊥) → More m (after_store m d) d 1
first_more m d x now a plain = let one = one_stored m d x now a plain in record { setting = setting_stored m d; documents = one.documents; later = one.later }

-- after the link the other stores come next
pub link_next : (m : Moment) (d : Doc) (s at : ℕ) (link : Option ℕ) (now : List Store)
    → AreNext m d (link_stores s at link ++ now) → AreNext (after_link m d link) d now
link_next m d s at None now h = h
link_next m d s at (Some last) now h = (one_stored m d (pool_slot s (at - 1), last) now h (pool_counts_nothing s (at - 1))).rest

-- after all of them n are done
pub all_more : (m : Moment) (d : Doc) (s at : ℕ) (link : Option ℕ) (x y : Store) → AreNext m d (link_stores s at link ++ x ∷ y ∷ [])
    → (x.0 ≡ published → ⊥) → (y.0 ≡ published → ⊥) → More m (after_store (after_store (after_link m d link) d) d) d (length (link_stores s at link ++ x ∷ y ∷ []))
all_more m d s at None x y h px py = one_more m (after_store m d) d 1 y [] (first_more m d x (y ∷ []) h px) (one_stored m d x (y ∷ []) h px).rest py
all_more m d s at (Some last) x y h px py =
    let p = pool_counts_nothing s (at - 1) in
    let l = one_stored m d (pool_slot s (at - 1), last) (x ∷ y ∷ []) h p in
    let a = one_stored (after_store m d) d x (y ∷ []) l.rest px in
    one_more m (after_store (after_store m d) d) d 2 y [] (one_more m (after_store m d) d 1 x (y ∷ []) (first_more m d (pool_slot s (at - 1), last) (x ∷ y ∷ []) h p) l.rest px) a.rest py

-- ---- what is used

-- one more slice where the posting begins one
pub record Adds (u v : Used) (f : ℕ) : Type 0 where
  pub documents : v.documents ≡ u.documents
  pub terms : v.terms ≡ u.terms
  pub text : v.text ≡ u.text
  pub slices : (p : ℕ) → p < 4 → slices_of v p ≡ slices_of u p + one_if (begins_in p f)

slice_added : (u : Used) (q p : ℕ) → q < 4 → p < 4 → slices_of (with_slice u q) p ≡ slices_of u p + one_if (q == p)
slice_added u zero zero a b = refl
slice_added u zero (suc zero) a b = omega arith
slice_added u zero (suc (suc zero)) a b = omega arith
slice_added u zero (suc (suc (suc zero))) a b = omega arith
slice_added u (suc zero) zero a b = omega arith
slice_added u (suc zero) (suc zero) a b = refl
slice_added u (suc zero) (suc (suc zero)) a b = omega arith
slice_added u (suc zero) (suc (suc (suc zero))) a b = omega arith
slice_added u (suc (suc zero)) zero a b = omega arith
slice_added u (suc (suc zero)) (suc zero) a b = omega arith
slice_added u (suc (suc zero)) (suc (suc zero)) a b = refl
slice_added u (suc (suc zero)) (suc (suc (suc zero))) a b = omega arith
slice_added u (suc (suc (suc zero))) zero a b = omega arith
slice_added u (suc (suc (suc zero))) (suc zero) a b = omega arith
slice_added u (suc (suc (suc zero))) (suc (suc zero)) a b = omega arith
slice_added u (suc (suc (suc zero))) (suc (suc (suc zero))) a b = refl
slice_added u (suc (suc (suc (suc q)))) p a b = absurd (omega arith)
slice_added u q (suc (suc (suc (suc p)))) a b = absurd (omega arith)

slice_kept : (u : Used) (q : ℕ) → ((with_slice u q).documents ≡ u.documents) × ((with_slice u q).terms ≡ u.terms) × ((with_slice u q).text ≡ u.text)
slice_kept u zero = (refl, refl, refl)
slice_kept u (suc zero) = (refl, refl, refl)
slice_kept u (suc (suc zero)) = (refl, refl, refl)
slice_kept u (suc (suc (suc q))) = (refl, refl, refl)

adds : (f tail : ℕ) (u : Used) (r : NextPlace) → IsNextPlace f tail u r → Adds u r.used f
adds f tail u r h = elim (cases_Bool (begins f)) [
  | inr old ↦ let same : r.used ≡ u = (h.within old).2 in subst (λ z. Adds u z f) (sym same) (record {
    documents = refl;
    terms = refl;
    text = refl;
    slices = λ p l. omega (arith, ap (λ (b : Bool). one_if (b && (pool_at f == p))) old);
  })
  | inl new ↦ let same : r.used ≡ with_slice u (pool_at f) = (h.first new).1 in let k = slice_kept u (pool_at f) in subst (λ z. Adds u z f) (sym same) (record {
    documents = k.0;
    terms = k.1;
    text = k.2;
    slices = λ p l. slice_added u (pool_at f) p (pool_low f) l ∙ omega (arith, ap (λ (b : Bool). one_if (b && (pool_at f == p))) new);
  })
]

-- it describes the segment afterwards
pub tells_after : (m n : Moment) (d : Doc) (s : ℕ) (t : Term) (posting tail : ℕ) (u : Used) (r : NextPlace) → IsMoment m
    → TellsSegment u m s → (q : IsPostingNext m.setting m.documents d s t posting) → IsNextPlace (before_it m d s t posting q) tail u r
    → More m n d (length (append_stores s (tokens_before m.setting m.documents.accepted d q.earlier) t (before_it m d s t posting q) posting)) → TellsSegment r.used n s
unfolding tokens_seen entered stores_in_region
tells_after m n d s t posting tail u r is tells q h more =
    let b = tokens_before m.setting m.documents.accepted d q.earlier in
    let c = count_of t b in
    let done = done_after m.setting m.documents d s t posting is.setting is.lawful q in
    let there : Done n.setting n.documents s t b = subst (λ (z : Setting × Documents). Done z.0 z.1 s t b) (λ i. (sym more.setting i, sym more.documents i)) done in
    let a = adds c tail u r h in
    let seen : tokens_seen n s ≡ b ++ t ∷ [] = there.seen in
    let entered_same : entered m s ≡ entered n s = entered_here m d s t posting is q ∙ sym there.entered in
    let slices : (p : ℕ) → p < 4 → slices_of r.used p ≡ slices_begun p (tokens_seen n s) =
    λ p l. omega (arith, a.slices p l, slices_told u m s p b l tells (seen_here m d s t posting is q), begun_push p b t, ap (slices_begun p) seen) in
    record {
      documents = a.documents ∙ tells.documents ∙ (λ i. length (get_or (cut (sym more.setting i) ((sym more.documents i).accepted)) s []));
      terms = a.terms ∙ tells.terms ∙ ap length entered_same;
      text = a.text ∙ tells.text ∙ ap (sum_by text_words) entered_same;
      pool0 = slices 0 (lit< tt);
      pool1 = slices 1 (lit< tt);
      pool2 = slices 2 (lit< tt);
      pool3 = slices 3 (lit< tt);
    }

-- ---- from one moment to another with the same documents part

-- the conditions of a call, at a later moment
pub record Carried (n : Moment) (d : Doc) (s : ℕ) (t : Term) (posting k : ℕ) (u : Used) : Type 0 where
  pub next : IsPostingNext n.setting n.documents d s t posting
  pub tells : TellsSegment u n s
  pub term : IsTerm n s t k

pub carried : (m n : Moment) (d : Doc) (s : ℕ) (t : Term) (posting k : ℕ) (u : Used) → IsNotBefore n m → n.documents ≡ m.documents
    → IsTerm m s t k → TellsSegment u m s → IsPostingNext m.setting m.documents d s t posting → Carried n d s t posting k u
carried m n d s t posting k u later same term tells q =
    let e : m.documents ≡ n.documents = sym same in
    let seen = tokens_by n m s later.setting e in
    let has = entered_by n m s later.setting e in
    record {
      next = subst (λ (z : Setting × Documents). IsPostingNext z.0 z.1 d s t posting) (λ i. (later.setting i, e i)) q;
      tells = record {
        documents = tells.documents ∙ (λ i. length (get_or (cut (later.setting i) ((e i).accepted)) s []));
        terms = tells.terms ∙ ap length has;
        text = tells.text ∙ ap (sum_by text_words) has;
        pool0 = tells.pool0 ∙ ap (slices_begun 0) seen;
        pool1 = tells.pool1 ∙ ap (slices_begun 1) seen;
        pool2 = tells.pool2 ∙ ap (slices_begun 2) seen;
        pool3 = tells.pool3 ∙ ap (slices_begun 3) seen;
      };
      term = later_term m n s t k later term;
    }

-- the stores of the posting, and what is known after them
pub record Posted (m n : Moment) (d : Doc) (s : ℕ) (t : Term) (posting k : ℕ) (u : Used) (r : NextPlace) : Type 0 where
  pub next : AreNext n d (link_stores s r.address r.link ++ (pool_slot s r.address, posting) ∷ (slot s tail_region k, r.address + 1) ∷ [])
  pub appended : HasAppended m (after_store (after_store (after_link n d r.link) d) d) d s t posting
  pub tells : TellsSegment r.used (after_store (after_store (after_link n d r.link) d) d) s

pub posted : (m n : Moment) (d : Doc) (s : ℕ) (t : Term) (posting k tail : ℕ) (u : Used) (r : NextPlace) → IsMoment n → IsNotBefore n m → n.documents ≡ m.documents → (c : Carried n d s t posting k u)
    → tail ≡ word n (place n.setting (slot s tail_region k)) → IsNextPlace (before_it n d s t posting c.next) tail u r → Posted m n d s t posting k u r
posted m n d s t posting k tail u r is later same c e h =
    let b = tokens_before n.setting n.documents.accepted d c.next.earlier in
    let x : Store = (pool_slot s r.address, posting) in
    let y : Store = (slot s tail_region k, r.address + 1) in
    let stores = stores_next n d s t posting k tail u r is c.term c.tells c.next e h in
    let next = are_next n d s t posting (link_stores s r.address r.link ++ x ∷ y ∷ []) c.next stores in
    let more = all_more n d s r.address r.link x y next (pool_counts_nothing s r.address) (λ e. absurd cc) in
    let seen : b ≡ tokens_seen m s = sym (seen_here n d s t posting is c.next) ∙ sym (tokens_by n m s later.setting (sym same)) in
    let long : length (link_stores s r.address r.link ++ x ∷ y ∷ []) ≡ length (append_stores s (tokens_seen m s) t (count_of t (tokens_seen m s)) posting) =
    sym (ap length stores) ∙ ap (λ z. length (append_stores s z t (count_of t z) posting)) seen in
    let last = after_store (after_store (after_link n d r.link) d) d in
    record {
      next = next;
      appended = record { later = later_on m n last later more.later; documents = more.documents ∙ (λ i. with_stores (same i) d (long i)) };
      tells = tells_after n last d s t posting tail u r is c.tells c.next h
          (record { setting = more.setting; documents = more.documents ∙ ap (with_stores n.documents d) (sym (ap length stores)); later = more.later });
    }

-- where there is a link, the address is after it
pub behind : (n : Moment) (d : Doc) (s : ℕ) (t : Term) (posting k tail last : ℕ) (u : Used) (r : NextPlace) → IsMoment n
    → (c : Carried n d s t posting k u) → tail ≡ word n (place n.setting (slot s tail_region k)) → IsNextPlace (before_it n d s t posting c.next) tail u r
    → r.link ≡ Some last → 0 < r.address
behind n d s t posting k tail last u r is c e h l =
    let b = tokens_before n.setting n.documents.accepted d c.next.earlier in
    link_behind s t b tail last u r (tail_is n d s t posting k tail is c.term c.next e) (λ p o. slices_told u n s p b o c.tells (seen_here n d s t posting is c.next)) h l
