-- What is known of a segment where no document is being placed.
use Rattle.std.proofs.Common.{◌≡◌, ℕ, suc, ◌+◌, ◌-◌, ◌<◌, ◌≤◌, List, [], ◌++◌, length, take, get_or, sum_by, refl, ap, sym, ◌∙◌, subst, arith, inl, inr, append-nil, lit<}
use Rattle.std.proofs.lemmas.Bool.{cases_lt}
use Rattle.std.proofs.lemmas.List.{take_all}
use Rattle.eb_base.specs.Term.{Term}
use Rattle.eb_place.specs.declared.moment.Documents.{Documents}
use Rattle.eb_place.specs.declared.moment.Moment.{Moment}
use Rattle.eb_place.specs.declared.used.Used.{Used}
use Rattle.eb_place.specs.Layout.{place}
use Rattle.eb_place.specs.Layout.Slot.{slot}
use Rattle.eb_place.specs.Layout.Region.{cell_region, tail_region}
use Rattle.eb_place.specs.Postings.{terms_of, distinct, count_of, number_of}
use Rattle.eb_place.specs.Room.{cut, text_words}
use Rattle.eb_place.specs.Address.{slices_begun, address_of}
use Rattle.eb_place.specs.Moments.{with_current, current_of, current_stores, placings, document_stores, word, IsMoment}
use Rattle.eb_place.specs.Later.{IsNotBefore}
use Rattle.eb_place.specs.Seen.{segment, stores_in_region, entered, tokens_seen, IsEntered}
use Rattle.eb_place.specs.Tells.{TellsSegment}
use Rattle.eb_place.specs.Walk.{IsTerm}
use Rattle.eb_place.proofs.AddressesDiffer.{SlicesFit, slice_in}
use Rattle.eb_place.proofs.StoresWithinTable.{slices_fit}
use Rattle.eb_place.proofs.TermNumbersStay.{number_low, number_once}
use Rattle.eb_place.proofs.WordsOfTokens.{val, Room}
use Rattle.eb_place.proofs.WordsAtMoment.{placed_all}
use Rattle.eb_place.proofs.ReaderWords.{word_of_writer, tail_in_table, packed_tail, parts_of}
use Rattle.eb_place.proofs.EnteredTerms.{number_at, number_found, entered_at, entered_is_term}
use Rattle.eb_terms.specs.Finding.{HasNumber}
use Rattle.eb_chain.specs.Needs.{IsTailWord}
use Rattle.eb_place.proofs.WayBackFromPosting.{told}
use Rattle.eb_place.proofs.RegionCounts.{count_in, counts_placed}
use Rattle.eb_place.proofs.NextStore.{accepted_lawful}
use Rattle.eb_writer.specs.Counting.{IsIdle, tokens_in, IsUsedBy, IsReady, IsSmall}

-- all stores are those of whole documents
pub idle_stores : (m : Moment) → IsIdle m → document_stores m.setting m.documents ≡ placings m.setting m.documents.accepted
unfolding document_stores
idle_stores m h = ap (λ c. placings m.setting m.documents.accepted ++ current_stores m.setting m.documents.accepted c) h ∙ append-nil (placings m.setting m.documents.accepted)

pub idle_documents : (m : Moment) → IsIdle m → with_current m.documents ≡ m.documents.accepted
idle_documents m h = ap (λ c. m.documents.accepted ++ current_of c) h ∙ append-nil m.documents.accepted

pub idle_segment : (m : Moment) (s : ℕ) → IsIdle m → terms_of (segment m s) ≡ tokens_in m s
idle_segment m s h = ap (λ z. terms_of (get_or (cut m.setting z) s [])) (idle_documents m h)

-- all terms are entered
pub idle_entered : (m : Moment) (s : ℕ) → IsMoment m → IsIdle m → entered m s ≡ distinct (tokens_in m s)
unfolding entered stores_in_region
idle_entered m s is h =
    let c = counts_placed m.setting m.documents.accepted is.setting (accepted_lawful m is) s in
    (λ i. take (count_in s cell_region (idle_stores m h i)) (distinct (idle_segment m s h i)))
    ∙ take_all (count_in s cell_region (placings m.setting m.documents.accepted)) (distinct (tokens_in m s)) (let k = c.cells in omega arith)

-- all tokens are seen
pub idle_tokens : (m : Moment) (s : ℕ) → IsMoment m → IsIdle m → tokens_seen m s ≡ tokens_in m s
unfolding tokens_seen stores_in_region
idle_tokens m s is h =
    let c = counts_placed m.setting m.documents.accepted is.setting (accepted_lawful m is) s in
    (λ i. take (count_in s tail_region (idle_stores m h i)) (idle_segment m s h i))
    ∙ take_all (count_in s tail_region (placings m.setting m.documents.accepted)) (tokens_in m s) (let k = c.tails in omega arith)

-- numbers that describe a segment are what its tokens use, where these are the entered terms and
-- the seen tokens
pub told_used : (m : Moment) (s : ℕ) (u : Used) (ts : List Term) → entered m s ≡ distinct ts → tokens_seen m s ≡ ts → TellsSegment u m s → IsUsedBy u ts
told_used m s u ts e f h = record {
  terms = h.terms ∙ ap length e;
  text = h.text ∙ ap (sum_by text_words) e;
  pool0 = h.pool0 ∙ ap (slices_begun 0) f;
  pool1 = h.pool1 ∙ ap (slices_begun 1) f;
  pool2 = h.pool2 ∙ ap (slices_begun 2) f;
  pool3 = h.pool3 ∙ ap (slices_begun 3) f;
}

-- and the other way
pub used_tells : (m : Moment) (s : ℕ) (u : Used) (ts : List Term) → entered m s ≡ distinct ts → tokens_seen m s ≡ ts
    → u.documents ≡ length (get_or (cut m.setting m.documents.accepted) s []) → IsUsedBy u ts → TellsSegment u m s
used_tells m s u ts e f n h = record {
  documents = n;
  terms = h.terms ∙ sym (ap length e);
  text = h.text ∙ sym (ap (sum_by text_words) e);
  pool0 = h.pool0 ∙ sym (ap (slices_begun 0) f);
  pool1 = h.pool1 ∙ sym (ap (slices_begun 1) f);
  pool2 = h.pool2 ∙ sym (ap (slices_begun 2) f);
  pool3 = h.pool3 ∙ sym (ap (slices_begun 3) f);
}

pub ready_used : (m : Moment) (s : ℕ) (u : Used) → IsMoment m → IsReady m s u → IsUsedBy u (tokens_in m s)
ready_used m s u is r = told_used m s u (tokens_in m s) (idle_entered m s is r.idle) (idle_tokens m s is r.idle) r.tells

-- the segment has room for them
pub idle_room : (m : Moment) (s : ℕ) → IsMoment m → s < m.setting.segments → Room m.setting s (tokens_in m s)
idle_room m s is h = (placed_all m.setting m.documents.accepted is.setting (accepted_lawful m is)).room s h

pub small_first : (m : Moment) (s : ℕ) (u : Used) → IsMoment m → s < m.setting.segments → IsUsedBy u (tokens_in m s) → IsSmall u 0
small_first m s u is inside h =
    let r = idle_room m s is inside in
    let few = r.fits.few in
    let texts = r.fits.texts in
    let small = r.small in
    let p0 = r.fits.slices 0 (lit< tt) in
    let p1 = r.fits.slices 1 (lit< tt) in
    let p2 = r.fits.slices 2 (lit< tt) in
    let p3 = r.fits.slices 3 (lit< tt) in
    record {
      terms = omega (arith, h.terms);
      text = omega (arith, h.text);
      pool0 = omega (arith, h.pool0);
      pool1 = omega (arith, h.pool1);
      pool2 = omega (arith, h.pool2);
      pool3 = omega (arith, h.pool3);
    }

-- ---- a term of the segment

-- a term that occurs in the segment is entered
pub there_entered : (m : Moment) (s : ℕ) (t : Term) → IsMoment m → IsIdle m → 1 ≤ count_of t (tokens_in m s) → IsEntered m s t
there_entered m s t is h some =
    let A = tokens_in m s in
    let e = idle_entered m s is h in
    let k = number_of t A in
    let low : k < length (distinct A) = number_low t A some in
    let at = number_at A k low in
    entered_at m s k t (omega (arith, low, ap length e)) (ap (λ z. get_or z k []) e ∙ sym (number_once t (get_or (distinct A) k []) A some (sym at)))

pub none_in : (m : Moment) (s : ℕ) (t : Term) → IsMoment m → IsIdle m → (IsEntered m s t → ⊥) → count_of t (tokens_in m s) ≡ 0
none_in m s t is h away = elim (cases_lt 0 (count_of t (tokens_in m s))) [
  | inl l ↦ absurd (away (there_entered m s t is h l))
  | inr l ↦ omega arith
]

-- where its number is found
pub record IsKnown (m : Moment) (s : ℕ) (t : Term) (k : ℕ) : Type 0 where
  pub term : IsTerm m s t k
  pub some : 1 ≤ count_of t (tokens_in m s)
  pub number : k ≡ number_of t (tokens_in m s)

pub some_in : (m : Moment) (s : ℕ) (t : Term) (k : ℕ) → IsIdle m → s < m.setting.segments → HasNumber m s t k → IsKnown m s t k
some_in m s t k h inside n =
    let f = number_found m s t n.entered in
    let term : IsTerm m s t f.0 = subst (λ z. IsTerm m s z f.0) f.2 (entered_is_term m s f.0 inside f.1) in
    let e = idle_segment m s h in
    record {
      term = subst (IsTerm m s t) (term.number ∙ sym n.number) term;
      some = subst (λ z. 1 ≤ count_of t z) e term.there;
      number = n.number ∙ ap (number_of t) e;
    }

tail_word_of : (t : Term) (ts : List Term) (f n : ℕ) → count_of t ts ≡ suc f → n ≡ f → SlicesFit ts → IsTailWord (count_of t ts) (address_of t n ts + 1)
tail_word_of t ts f n e q fit =
    let w = told f (address_of t f ts) (parts_of t f ts (slice_in t f ts (omega arith) fit)) in
    let base : IsTailWord (suc f) (suc (address_of t f ts)) = record { pool = w.0; offset = w.1 } in
    subst (λ (z : ℕ × ℕ). IsTailWord z.0 z.1) (λ i. (sym e i, (ap suc (ap (λ k. address_of t k ts) (sym q)) ∙ (let o : suc (address_of t n ts) ≡ address_of t n ts + 1 = omega arith in o)) i)) base

-- its tail's word says as many postings as it has there
pub tail_in : (m : Moment) (s : ℕ) (t : Term) (k : ℕ) → IsMoment m → IsIdle m → s < m.setting.segments
    → IsKnown m s t k → IsTailWord (count_of t (tokens_in m s)) (word m (place m.setting (slot s tail_region k)))
tail_in m s t k is h inside known =
    let σ = m.setting in
    let docs = m.documents.accepted in
    let ts = tokens_in m s in
    let i = tail_in_table m s t k is known.term in
    let room = idle_room m s is inside in
    let r = (placed_all σ docs is.setting (accepted_lawful m is)).reached s inside in
    let word_is : word m (place σ (slot s tail_region k)) ≡ address_of t (count_of t ts - 1) ts + 1 =
    word_of_writer m (slot s tail_region k) is i.1 (packed_tail s k) ∙ ap (λ z. val σ z (slot s tail_region k)) (idle_stores m h)
    ∙ ap (λ z. val σ (placings σ docs) (slot s tail_region z)) known.number ∙ r.tail t known.some in
    let f = count_of t ts - 1 in
    let some = known.some in
    subst (IsTailWord (count_of t ts)) (sym word_is) (tail_word_of t ts f f (omega arith) refl (slices_fit σ ts room.small room.fits))

-- ---- from one moment to another with the same documents part

pub tokens_same : (m n : Moment) (s : ℕ) → IsNotBefore n m → n.documents ≡ m.documents → tokens_in n s ≡ tokens_in m s
tokens_same m n s l e = λ i. terms_of (get_or (cut (sym l.setting i) ((e i).accepted)) s [])

pub idle_same : (m n : Moment) → n.documents ≡ m.documents → IsIdle m → IsIdle n
idle_same m n e h = ap (λ (x : Documents). x.current) e ∙ h
