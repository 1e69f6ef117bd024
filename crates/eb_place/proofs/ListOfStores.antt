-- The next stores of a placing, one after the other.
use Rattle.std.proofs.Common.{◌≡◌, ℕ, zero, suc, ◌+◌, ◌-◌, ◌<◌, ◌≤◌, true, ltb, List, [], ◌∷◌, ◌++◌, length, take, drop}
use Rattle.std.proofs.Common.{Bool, refl, ap, sym, ◌∙◌, subst, arith, inl, inr, append-nil, append_assoc, slice_get, Some}
use Rattle.std.proofs.lemmas.Bool.{lt-ltb, cases_lt}
use Rattle.std.proofs.lemmas.List.{length_push, length-append, length-drop}
use Rattle.eb_base.specs.Document.{Doc}
use Rattle.eb_base.specs.Setting.{Setting}
use Rattle.eb_place.specs.declared.moment.Documents.{Documents}
use Rattle.eb_place.specs.declared.moment.Moment.{Moment}
use Rattle.eb_place.specs.Layout.{place, pool_slot}
use Rattle.eb_place.specs.Layout.Slot.{published}
use Rattle.eb_place.specs.Room.{has_room, cut, with_doc}
use Rattle.eb_place.specs.Placing.{Store, pairs_of, doc_stores, segment_before}
use Rattle.eb_place.specs.Moments.{document_stores, IsMoment, current_of}
use Rattle.eb_place.specs.Later.{IsNotBefore}
use Rattle.eb_place.specs.NextStores.{stores_done, IsCurrent, IsNext, AreNext, with_stores, with_placed, after_store, documents_after}
use Rattle.eb_place.proofs.FreshPoolWords.{Each, Each-drop, each_head}
use Rattle.eb_place.proofs.FreshPoolWords.Each.{none, more}
use Rattle.eb_place.proofs.CountWords.{body, body_split}
use Rattle.eb_place.proofs.LaterMoments.{later_self, later_on}
use Rattle.eb_place.proofs.NextStore.{next_store, stored_stores, take_next, each_at}
use Rattle.eb_place.proofs.AfterStore.{moment_stored, later_stored}
use Rattle.eb_place.proofs.PlacesOfSlots.{InTable}
use Rattle.eb_place.proofs.NextPuts.{next_pair, left_after}
use Rattle.eb_place.proofs.StoresWithinTable.{IsWithin}
use Rattle.eb_place.proofs.StoringTokens.{Each-front}
use Rattle.eb_place.proofs.StoresOfDocuments.{doc_within}
use Rattle.eb_place.proofs.WordsAtMoment.{placed_all, joins, lawful_front}

-- ---- elements of lists

pub get_some : {X : Type 0} (xs : List X) (k : ℕ) → k < length xs → (x : X) × (slice_get xs k ≡ Some x)
get_some [] k h = absurd (omega arith)
get_some (x ∷ xs) zero h = (x, refl)
get_some (x ∷ xs) (suc k) h = get_some xs k (omega arith)

get_front : {X : Type 0} (xs ys : List X) (k : ℕ) (x : X) → slice_get xs k ≡ Some x → slice_get (xs ++ ys) k ≡ Some x
get_front [] ys k x h = absurd cc
get_front (y ∷ xs) ys zero x h = h
get_front (y ∷ xs) ys (suc k) x h = get_front xs ys k x h

get_behind : {X : Type 0} (i : ℕ) (xs : List X) (k : ℕ) (x : X) → slice_get (drop i xs) k ≡ Some x → slice_get xs (i + k) ≡ Some x
get_behind zero xs k x h = ap (slice_get xs) (let e : 0 + k ≡ k = omega arith in e) ∙ h
get_behind (suc i) [] k x h = absurd cc
get_behind (suc i) (y ∷ xs) k x h = ap (slice_get (y ∷ xs)) (let e : suc i + k ≡ suc (i + k) = omega arith in e) ∙ get_behind i xs k x h

get_pair : (σ : Setting) (xs : List Store) (k : ℕ) (x : Store) → slice_get xs k ≡ Some x → slice_get (pairs_of σ xs) k ≡ Some (place σ x.0, x.1)
get_pair σ [] k x h = absurd cc
get_pair σ (y ∷ xs) zero x h = let e : y ≡ x = cc in ap (λ (z : Store). Some (place σ z.0, z.1)) e
get_pair σ (y ∷ xs) (suc k) x h = get_pair σ xs k x h

-- ---- stores of a placing

-- the moment after the next k stores of the placing of a document
unfoldable pub after_stores : ℕ → Moment → Doc → Moment
after_stores zero m d = m
after_stores (suc k) m d = after_store (after_stores k m d) d

-- more stores of the placing come after these
abbrev pub HasMoreAfter : Moment → Doc → List Store → Type 0
HasMoreAfter m d stores = stores_done m.documents.current + length stores < length (doc_stores m.setting m.documents.accepted d)

-- what is known after k of the next stores
pub record After (m : Moment) (d : Doc) (stores : List Store) (k : ℕ) (a : Moment) : Type 0 where
  pub setting : a.setting ≡ m.setting
  pub accepted : a.documents.accepted ≡ m.documents.accepted
  pub current : IsCurrent a.documents.current d
  pub done : stores_done a.documents.current ≡ stores_done m.documents.current + k
  pub conversions : a.conversions ≡ m.conversions
  pub moment : IsMoment a
  pub later : IsNotBefore a m
  pub written : document_stores a.setting a.documents ≡ document_stores m.setting m.documents ++ take k stores

-- the next of them is the next store of the placing
pub next_of : (m a : Moment) (d : Doc) (stores : List Store) (k : ℕ) (x : Store) → AreNext m d stores → After m d stores k a → slice_get stores k ≡ Some x → IsNext a d (place m.setting x.0) x.1
next_of m a d stores k x n h e =
    let D = doc_stores m.setting m.documents.accepted d in
    let i = stores_done m.documents.current in
    let at : slice_get D (i + k) ≡ Some x = get_behind i D k x (ap (λ z. slice_get z k) (sym n.front.1) ∙ get_front stores n.front.0 k x e) in
    record {
      limits = n.limits;
      room = (λ j. has_room (h.setting j) (h.accepted j) d) ∙ n.room;
      current = h.current;
      pair = (λ j. slice_get (pairs_of (h.setting j) (doc_stores (h.setting j) (h.accepted j) d)) (h.done j)) ∙ get_pair m.setting D (i + k) x at;
    }

-- one more of them
after_more : (m a : Moment) (d : Doc) (stores : List Store) (k : ℕ) → AreNext m d stores → HasMoreAfter m d stores
    → k < length stores → After m d stores k a → After m d stores (suc k) (after_store a d)
unfolding after_store
after_more m a d stores k n goes low h =
    let x = get_some stores k low in
    let next = next_of m a d stores k x.0 n h x.1 in
    let s = next_store a d (place m.setting x.0.0) x.0.1 next in
    let D = doc_stores m.setting m.documents.accepted d in
    let i = stores_done m.documents.current in
    let at : slice_get D (i + k) ≡ Some x.0 = get_behind i D k x.0 (ap (λ z. slice_get z k) (sym n.front.1) ∙ get_front stores n.front.0 k x.0 x.1) in
    let there : slice_get D (i + k) ≡ Some (s.slot, x.0.1) = sym (λ j. slice_get (doc_stores (h.setting j) (h.accepted j) d) (h.done j)) ∙ s.is in
    let same : (s.slot, x.0.1) ≡ x.0 = cc in
    let long : ltb (suc (stores_done a.documents.current)) (length (doc_stores a.setting a.documents.accepted d)) ≡ true =
    lt-ltb _ _ (omega (arith, h.done, ap (λ (z : List Store). length z) (λ j. doc_stores (h.setting j) (h.accepted j) d))) in
    let docs : (after_store a d).documents ≡ record { accepted = a.documents.accepted; current = Some (d, suc (stores_done a.documents.current)) } =
    ap (λ b. documents_after b a.documents.accepted d (suc (stores_done a.documents.current))) long in
    record {
      setting = h.setting;
      accepted = ap (λ (z : Documents). z.accepted) docs ∙ h.accepted;
      current = subst (λ (z : Documents). IsCurrent z.current d) (sym docs) refl;
      done = ap (λ (z : Documents). stores_done z.current) docs ∙ omega (arith, h.done);
      conversions = h.conversions;
      moment = moment_stored a d (place m.setting x.0.0) x.0.1 h.moment next;
      later = later_on m a (after_store a d) h.later (later_stored a d h.current);
      written = stored_stores a d (place m.setting x.0.0) x.0.1 next ∙ ap (λ z. z ++ (s.slot, x.0.1) ∷ []) h.written
          ∙ append_assoc (document_stores m.setting m.documents) (take k stores) ((s.slot, x.0.1) ∷ [])
          ∙ ap (λ z. document_stores m.setting m.documents ++ (take k stores ++ z ∷ [])) same ∙ ap (λ z. document_stores m.setting m.documents ++ z) (sym (take_next stores k x.0 x.1));
    }

-- any number of them
pub after_is : (m : Moment) (d : Doc) (stores : List Store) (k : ℕ) → IsMoment m → AreNext m d stores → HasMoreAfter m d stores → k ≤ length stores → After m d stores k (after_stores k m d)
unfolding after_stores
after_is m d stores zero is n goes low = record {
  setting = refl;
  accepted = refl;
  current = n.current;
  done = omega arith;
  conversions = refl;
  moment = is;
  later = later_self m;
  written = sym (append-nil (document_stores m.setting m.documents));
}
after_is m d stores (suc k) is n goes low = after_more m (after_stores k m d) d stores k n goes (omega arith) (after_is m d stores k is n goes (omega arith))

-- the moment after them, where there is one
pub after_closed : (m : Moment) (d : Doc) (stores : List Store) (k : ℕ) → IsMoment m → AreNext m d stores → HasMoreAfter m d stores
    → k < length stores → after_stores (suc k) m d ≡ with_placed m d (suc k)
unfolding after_stores after_store
after_closed m d stores k is n goes low =
    let a = after_stores k m d in
    let h = after_is m d stores k is n goes (omega arith) in
    let long : ltb (suc (stores_done a.documents.current)) (length (doc_stores a.setting a.documents.accepted d)) ≡ true =
    lt-ltb _ _ (omega (arith, h.done, ap (λ (z : List Store). length z) (λ j. doc_stores (h.setting j) (h.accepted j) d))) in
    let number : suc (stores_done a.documents.current) ≡ stores_done m.documents.current + suc k = omega (arith, h.done) in
    (λ j. record { setting = a.setting; documents = documents_after (long j) a.documents.accepted d (suc (stores_done a.documents.current)); conversions = a.conversions })
    ∙ (λ j. record { setting = h.setting j; documents = record { accepted = h.accepted j; current = Some (d, number j) }; conversions = h.conversions j })

-- ---- a part of the next stores

pub next_front : (m : Moment) (d : Doc) (xs ys : List Store) → AreNext m d (xs ++ ys) → AreNext m d xs
next_front m d xs ys n = record { limits = n.limits; room = n.room; current = n.current; front = (ys ++ n.front.0, sym (append_assoc xs ys n.front.0) ∙ n.front.1) }

pub after_none : (m : Moment) (d : Doc) → after_stores 0 m d ≡ m
unfolding after_stores
after_none m d = refl

pub after_one : (m : Moment) (d : Doc) (k : ℕ) → after_stores (k + 1) m d ≡ after_store (after_stores k m d) d
unfolding after_stores
after_one m d k = ap (λ n. after_stores n m d) (let e : k + 1 ≡ suc k = omega arith in e)

-- the moment after some of the next stores
pub placed_is : (m : Moment) (d : Doc) (stores : List Store) (k : ℕ) → IsMoment m → AreNext m d stores → HasMoreAfter m d stores → 1 ≤ k → k ≤ length stores → after_stores k m d ≡ with_placed m d k
placed_is m d stores zero is n goes some low = absurd (omega arith)
placed_is m d stores (suc k) is n goes some low = after_closed m d stores k is n goes (omega arith)

-- what is known of it
pub placed_after : (m : Moment) (d : Doc) (stores : List Store) (k : ℕ) → IsMoment m → AreNext m d stores → HasMoreAfter m d stores → 1 ≤ k → k ≤ length stores → After m d stores k (with_placed m d k)
placed_after m d stores k is n goes some low = subst (After m d stores k) (placed_is m d stores k is n goes some low) (after_is m d stores k is n goes low)

-- the next store there
pub placed_next : (m : Moment) (d : Doc) (stores : List Store) (k : ℕ) (x : Store) → IsMoment m → AreNext m d stores → HasMoreAfter m d stores
    → 1 ≤ k → k < length stores → slice_get stores k ≡ Some x → IsNext (with_placed m d k) d (place m.setting x.0) x.1
placed_next m d stores k x is n goes some low e = next_of m (with_placed m d k) d stores k x n (placed_after m d stores k is n goes some (omega arith)) e

-- and the moment after it
pub placed_more : (m : Moment) (d : Doc) (stores : List Store) (k : ℕ) → IsMoment m → AreNext m d stores
    → HasMoreAfter m d stores → 1 ≤ k → k < length stores → after_store (with_placed m d k) d ≡ with_placed m d (k + 1)
placed_more m d stores k is n goes some low =
    ap (λ z. after_store z d) (sym (placed_is m d stores k is n goes some (omega arith))) ∙ sym (after_one m d k) ∙ placed_is m d stores (k + 1) is n goes (omega arith) (omega arith)

-- the same store, given otherwise
pub next_as : (m : Moment) (d : Doc) (p q v w : ℕ) → IsNext m d p v → q ≡ p → w ≡ v → IsNext m d q w
next_as m d p q v w h e f = subst (λ (z : ℕ × ℕ). IsNext m d z.0 z.1) (λ j. (sym e j, sym f j)) h

-- ---- more stores come after

get_seam : {X : Type 0} (xs ys : List X) (y : X) → slice_get (xs ++ y ∷ ys) (length xs) ≡ Some y
get_seam [] ys y = refl
get_seam (x ∷ xs) ys y = get_seam xs ys y

-- the element after a prefix
pub get_at : {X : Type 0} (xs ys : List X) (y : X) (k : ℕ) → k ≡ length xs → slice_get (xs ++ y ∷ ys) k ≡ Some y
get_at xs ys y k e = ap (slice_get (xs ++ y ∷ ys)) e ∙ get_seam xs ys y

-- after next stores of which none is that of the count, more come
pub goes_on : (m : Moment) (d : Doc) (stores : List Store) → AreNext m d stores → 1 ≤ length stores → Each (λ (y : Store). y.0 ≡ published → ⊥) stores → HasMoreAfter m d stores
unfolding doc_stores
goes_on m d stores n some plain =
    let σ = m.setting in
    let docs = m.documents.accepted in
    let D = doc_stores σ docs d in
    let i = stores_done m.documents.current in
    let v = length (with_doc σ (cut σ docs) d) - 1 in
    let B = body σ v (segment_before σ docs d) (length docs) d in
    let z : Store = (published, length docs + 1) in
    let e : D ≡ B ++ z ∷ [] = body_split σ v (segment_before σ docs d) (length docs) d in
    let lengths = ap length e ∙ length_push B z in
    let front = ap length n.front.1 in
    let parts = length-append stores n.front.0 in
    let left = length-drop i D in
    elim (cases_lt (i + length stores) (length D)) [
      | inl l ↦ l
      | inr l ↦
          let k = length stores - 1 in
          let x = get_some stores k (omega arith) in
          let at : slice_get D (i + k) ≡ Some x.0 = get_behind i D k x.0 (ap (λ w. slice_get w k) (sym n.front.1) ∙ get_front stores n.front.0 k x.0 x.1) in
          let last : slice_get D (i + k) ≡ Some z = ap (λ w. slice_get w (i + k)) e ∙ get_at B [] z (i + k) (omega arith) in
          let same : x.0 ≡ z = cc in
          absurd (each_at stores k x.0 plain x.1 (ap (λ (w : Store). w.0) same))
    ]

-- the next stores go to words of the index
pub next_within : (m : Moment) (d : Doc) (stores : List Store) → IsMoment m → AreNext m d stores → Each (IsWithin m.setting) stores
next_within m d stores is n =
    let σ = m.setting in
    let docs = m.documents.accepted in
    let lawful = lawful_front σ docs (current_of m.documents.current) is.lawful in
    let j = joins σ docs d is.setting (placed_all σ docs is.setting lawful).short (record { limits = n.limits; there = n.room }) in
    let all : Each (IsWithin σ) (doc_stores σ docs d) = subst (Each (IsWithin σ)) (sym j.stores) (doc_within σ _ _ (length docs) d j.room j.few) in
    Each-front stores n.front.0 (subst (Each (IsWithin σ)) (sym n.front.1) (Each-drop (stores_done m.documents.current) all))

-- ---- one after the other

-- a word of a region is not that of the count
pub pool_counts_nothing : (s a : ℕ) → pool_slot s a ≡ published → ⊥
unfolding pool_slot
pool_counts_nothing s a e = absurd cc

-- the first of them goes to a word of the index
pub first_in_table : (m : Moment) (d : Doc) (x : Store) (now : List Store) → IsMoment m → AreNext m d (x ∷ now) → InTable m.setting x.0
first_in_table m d x now is h = each_head x now (next_within m d (x ∷ now) is h)

-- and is the next store of the placing
pub first_next : (m : Moment) (d : Doc) (x : Store) (now : List Store) → AreNext m d (x ∷ now) → IsNext m d (place m.setting x.0) x.1
first_next m d x now h = record {
  limits = h.limits;
  room = h.room;
  current = h.current;
  pair = (next_pair m.setting (doc_stores m.setting m.documents.accepted d) (stores_done m.documents.current) x (now ++ h.front.0) (sym h.front.1)).0;
}

-- by its place and value
pub next_at : (m : Moment) (d : Doc) (x : Store) (now : List Store) (at value : ℕ) → AreNext m d (x ∷ now) → at ≡ place m.setting x.0 → value ≡ x.1 → IsNext m d at value
next_at m d x now at value h p v = next_as m d (place m.setting x.0) at x.1 value (first_next m d x now h) p v

-- after the first the others come next, where it isn't the count
pub record One (m : Moment) (d : Doc) (x : Store) (now : List Store) : Type 0 where
  pub next : IsNext m d (place m.setting x.0) x.1
  pub documents : (after_store m d).documents ≡ with_stores m.documents d 1
  pub rest : AreNext (after_store m d) d now
  pub later : IsNotBefore (after_store m d) m

pub one_stored : (m : Moment) (d : Doc) (x : Store) (now : List Store) → AreNext m d (x ∷ now) → (x.0 ≡ published → ⊥) → One m d x now
unfolding after_store
one_stored m d x now h plain =
    let X = doc_stores m.setting m.documents.accepted d in
    let i = stores_done m.documents.current in
    let long : suc i < length X = (let o = goes_on m d (x ∷ []) (next_front m d (x ∷ []) now h) (omega arith) (more plain none) in omega arith) in
    let q : suc i ≡ i + 1 = omega arith in
    let documents : documents_after (ltb (suc i) (length X)) m.documents.accepted d (suc i) ≡ with_stores m.documents d 1 =
    ap (λ (b : Bool). documents_after b m.documents.accepted d (suc i)) (lt-ltb _ _ long) ∙ ap (λ k. record { accepted = m.documents.accepted; current = Some (d, k) }) q in
    record {
      next = first_next m d x now h;
      documents = documents;
      rest = subst (λ (z : Documents). AreNext record { setting = m.setting; documents = z; conversions = m.conversions } d now) (sym documents) (record {
        limits = h.limits;
        room = h.room;
        current = refl;
        front = (h.front.0, sym (ap (λ k. drop k X) (sym q) ∙ left_after X i x (now ++ h.front.0) (sym h.front.1)));
      });
      later = later_stored m d h.current;
    }
