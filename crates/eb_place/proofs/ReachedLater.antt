-- What a reader has reached stays at every later moment.
use Rattle.std.proofs.Common.{◌≡◌, ℕ, zero, suc, ◌<◌, ◌≤◌, List, [], ◌∷◌, ◌++◌, length, take, drop, get_or, refl, ap, sym, ◌∙◌, subst, arith, inl, inr, append-nil, append_assoc, Option, Some, None}
use Rattle.std.proofs.lemmas.Bool.{cases_Bool, cases_lt}
use Rattle.std.proofs.lemmas.List.{length-take, length-append, take-append-le, take-append-drop}
use mathlib.Core.List.{IsPrefix}
use Rattle.eb_base.specs.Term.{Term}
use Rattle.eb_base.specs.Document.{Doc}
use Rattle.eb_base.specs.Setting.{Setting}
use Rattle.eb_place.specs.declared.moment.Moment.{Moment}
use Rattle.eb_place.specs.Layout.Slot.{slot}
use Rattle.eb_place.specs.Layout.Region.{tail_region}
use Rattle.eb_place.specs.Postings.{count_of, number_of, postings, terms_of}
use Rattle.eb_place.specs.Room.{cut, fits, with_doc}
use Rattle.eb_place.specs.Address.{address_of}
use Rattle.eb_place.specs.Placing.{Store, doc_stores}
use Rattle.eb_place.specs.Moments.{with_current, current_of, current_stores, placings, placings_after, document_stores, IsMoment}
use Rattle.eb_place.specs.Later.{Goes, IsNotBefore}
use Rattle.eb_place.specs.Seen.{segment, tails_done, seen_count}
use Rattle.eb_place.specs.Walk.{address_in, IsTerm}
use Rattle.eb_place.proofs.TermCounts.{count_of-append}
use Rattle.eb_place.proofs.AddressesDiffer.{address_stays}
use Rattle.eb_place.proofs.CutSegments.{cut_push}
use Rattle.eb_place.proofs.EnoughPackedWords.{length-postings}
use Rattle.eb_place.proofs.Prefixes.{prefix_trans}
use Rattle.eb_place.proofs.TermNumbersStay.{number_stays}
use Rattle.eb_place.proofs.WordsOfTokens.{times, times-append}
use Rattle.eb_place.proofs.WordsOfHistories.{terms_more, postings_more}
use Rattle.eb_place.proofs.WordsAtMoment.{placings-append, placings_push}
use Rattle.eb_place.proofs.ReaderWords.{reached_is, all_stored, moment_words, reached_few}

-- ---- the history, with the document that is being placed

-- the history with the current document grows with the documents part
pub started_grows : (a b : List Doc) (x y : Option (Doc × ℕ)) → IsPrefix a b → Goes a x record { accepted = b; current = y } → IsPrefix (a ++ current_of x) (b ++ current_of y)
started_grows a b None y p g = (p.0 ++ current_of y, ap (λ z. z ++ (p.0 ++ current_of y)) (append-nil a) ∙ sym (append_assoc a p.0 (current_of y)) ∙ ap (λ z. z ++ current_of y) p.1)
started_grows a b (Some c) y p (inr q) = (q.0 ++ current_of y, sym (append_assoc (a ++ c.0 ∷ []) q.0 (current_of y)) ∙ ap (λ z. z ++ current_of y) q.1)
started_grows a b (Some c) None p (inl q) = absurd q.1
started_grows a b (Some c) (Some e) p (inl q) = ([], append-nil (a ++ c.0 ∷ []) ∙ (λ i. q.0 i ++ (q.1.0 i ∷ [])))

-- the same between two moments
pub later_started : (m n : Moment) → IsNotBefore n m → IsPrefix (with_current m.documents) (with_current n.documents)
later_started m n l = started_grows m.documents.accepted n.documents.accepted m.documents.current n.documents.current l.documents.accepted l.documents.current

-- ---- the stores

take_prefix : (i j : ℕ) (xs : List Store) → i ≤ j → IsPrefix (take i xs) (take j xs)
take_prefix zero j xs h = (take j xs, refl)
take_prefix (suc i) zero xs h = absurd (omega arith)
take_prefix (suc i) (suc j) [] h = ([], refl)
take_prefix (suc i) (suc j) (x ∷ xs) h = let r = take_prefix i j xs (omega arith) in (r.0, ap (λ z. x ∷ z) r.1)

under : (xs ys zs : List Store) → IsPrefix ys zs → IsPrefix (xs ++ ys) (xs ++ zs)
under xs ys zs p = (p.0, append_assoc xs ys p.0 ∙ ap (λ z. xs ++ z) p.1)

stores_grow : (σ : Setting) (a b : List Doc) (x y : Option (Doc × ℕ)) → IsPrefix a b → Goes a x record { accepted = b; current = y }
    → IsPrefix (placings σ a ++ current_stores σ a x) (placings σ b ++ current_stores σ b y)
stores_grow σ a b None y p g =
    let e : placings σ b ≡ placings σ a ++ placings_after σ a p.0 = ap (placings σ) (sym p.1) ∙ placings-append σ a p.0 in (
      placings_after σ a p.0 ++ current_stores σ b y,
      ap (λ z. z ++ (placings_after σ a p.0 ++ current_stores σ b y)) (append-nil (placings σ a))
          ∙ sym (append_assoc (placings σ a) (placings_after σ a p.0) (current_stores σ b y)) ∙ ap (λ z. z ++ current_stores σ b y) (sym e),
    )
stores_grow σ a b (Some c) y p (inr q) =
    let e : placings σ b ≡ placings σ (a ++ c.0 ∷ []) ++ placings_after σ (a ++ c.0 ∷ []) q.0 = ap (placings σ) (sym q.1) ∙ placings-append σ (a ++ c.0 ∷ []) q.0 in
    let d = placings_push σ a c.0 in
    let one : IsPrefix (placings σ a ++ take c.1 (doc_stores σ a c.0)) (placings σ (a ++ c.0 ∷ [])) = subst (IsPrefix (placings σ a ++ take c.1 (doc_stores σ a c.0))) (sym d)
    (under (placings σ a) (take c.1 (doc_stores σ a c.0)) (doc_stores σ a c.0) (drop c.1 (doc_stores σ a c.0), take-append-drop c.1 (doc_stores σ a c.0))) in
    let two : IsPrefix (placings σ (a ++ c.0 ∷ [])) (placings σ b ++ current_stores σ b y) = (
      placings_after σ (a ++ c.0 ∷ []) q.0 ++ current_stores σ b y,
      sym (append_assoc (placings σ (a ++ c.0 ∷ [])) (placings_after σ (a ++ c.0 ∷ []) q.0) (current_stores σ b y)) ∙ ap (λ z. z ++ current_stores σ b y) (sym e),
    ) in
    prefix_trans _ _ _ one two
stores_grow σ a b (Some c) None p (inl q) = absurd q.1
stores_grow σ a b (Some c) (Some e) p (inl q) =
    subst (λ (w : List Doc × Doc). IsPrefix (placings σ a ++ take c.1 (doc_stores σ a c.0)) (placings σ w.0 ++ take e.1 (doc_stores σ w.0 w.1))) (λ i. (q.0 i, q.1.0 i))
    (under (placings σ a) (take c.1 (doc_stores σ a c.0)) (take e.1 (doc_stores σ a c.0)) (take_prefix c.1 e.1 (doc_stores σ a c.0) q.1.1))

-- the stores of a moment are the first of those of a later one
pub later_stores : (m n : Moment) → IsNotBefore n m → IsPrefix (document_stores m.setting m.documents) (document_stores n.setting n.documents)
unfolding document_stores
later_stores m n l = subst (λ σ. IsPrefix (placings m.setting m.documents.accepted ++ current_stores m.setting m.documents.accepted m.documents.current)
    (placings σ n.documents.accepted ++ current_stores σ n.documents.accepted n.documents.current)) l.setting
    (stores_grow m.setting m.documents.accepted n.documents.accepted m.documents.current n.documents.current l.documents.accepted l.documents.current)

-- ---- the segments

segments_push : (σ : Setting) (segs : List (List Doc)) (d : Doc) (s : ℕ) → IsPrefix (get_or segs s []) (get_or (with_doc σ segs d) s [])
segments_push σ [] d zero = (d ∷ [], refl)
segments_push σ [] d (suc s) = ([], refl)
segments_push σ (x ∷ []) d zero = elim (cases_Bool (fits σ x d)) [
  | inl here ↦ rw here (d ∷ [], refl)
  | inr away ↦ rw away ([], append-nil x)
]
segments_push σ (x ∷ []) d (suc s) = (get_or (with_doc σ (x ∷ []) d) (suc s) [], refl)
segments_push σ (x ∷ y ∷ ys) d zero = ([], append-nil x)
segments_push σ (x ∷ y ∷ ys) d (suc s) = segments_push σ (y ∷ ys) d s

-- a segment grows at its end
pub segments_grow : (σ : Setting) (xs ys : List Doc) (s : ℕ) → IsPrefix (get_or (cut σ xs) s []) (get_or (cut σ (xs ++ ys)) s [])
segments_grow σ xs [] s = ([], append-nil (get_or (cut σ xs) s []) ∙ ap (λ z. get_or (cut σ z) s []) (sym (append-nil xs)))
segments_grow σ xs (y ∷ ys) s =
    prefix_trans _ _ _ (subst (λ z. IsPrefix (get_or (cut σ xs) s []) (get_or z s [])) (sym (cut_push σ xs y)) (segments_push σ (cut σ xs) y s))
    (subst (λ z. IsPrefix (get_or (cut σ (xs ++ y ∷ [])) s []) (get_or (cut σ z) s [])) (append_assoc xs (y ∷ []) ys) (segments_grow σ (xs ++ y ∷ []) ys s))

-- the same between two moments
pub later_segment : (m n : Moment) (s : ℕ) → IsNotBefore n m → IsPrefix (segment m s) (segment n s)
later_segment m n s l = let p = later_started m n l in
    subst (λ σ. IsPrefix (segment m s) (get_or (cut σ (with_current n.documents)) s [])) l.setting
    (subst (λ z. IsPrefix (segment m s) (get_or (cut m.setting z) s [])) p.1 (segments_grow m.setting (with_current m.documents) p.0 s))

-- ---- what is reached

in_segment : (m : Moment) (s : ℕ) (t : Term) (f : ℕ) → IsMoment m → s < m.setting.segments → f < seen_count m s t → f < count_of t (terms_of (segment m s))
in_segment m s t f is h l = let r = reached_is m s t is h in let n = all_stored m s t (moment_words m s is h) in omega arith

-- the address of a seen posting is the same later
pub later_address : (m n : Moment) (s : ℕ) (t : Term) (f : ℕ) → IsMoment m → IsNotBefore n m → s < m.setting.segments → f < seen_count m s t → address_in n s t f ≡ address_in m s t f
later_address m n s t f is l h r = let p = later_segment m n s l in
    ap (λ z. address_of t f (terms_of z)) (sym p.1) ∙ ap (address_of t f) (terms_more (segment m s) p.0) ∙ address_stays t f (terms_of (segment m s)) (terms_of p.0) (in_segment m s t f is h r)

-- what was seen of a term is a prefix of its postings later
pub later_postings : (m n : Moment) (s : ℕ) (t : Term) (k : ℕ) → IsNotBefore n m → k ≤ seen_count m s t → take k (postings t (segment n s)) ≡ take k (postings t (segment m s))
later_postings m n s t k l r = let p = later_segment m n s l in let q = postings_more t (segment m s) p.0 in
    ap (λ z. take k (postings t z)) (sym p.1) ∙ ap (take k) q.1 ∙ take-append-le k (postings t (segment m s)) q.0 (omega (arith, reached_few m s t))

-- a term keeps its number
pub later_term : (m n : Moment) (s : ℕ) (t : Term) (k : ℕ) → IsNotBefore n m → IsTerm m s t k → IsTerm n s t k
later_term m n s t k l h = let p = later_segment m n s l in
    let e : terms_of (segment n s) ≡ terms_of (segment m s) ++ terms_of p.0 = ap terms_of (sym p.1) ∙ terms_more (segment m s) p.0 in
    record {
      inside = subst (λ σ. s < σ.segments) l.setting h.inside;
      there = let j = h.there in omega (arith, ap (count_of t) e, count_of-append t (terms_of (segment m s)) (terms_of p.0));
      number = h.number ∙ sym (ap (number_of t) e ∙ number_stays t (terms_of (segment m s)) (terms_of p.0) h.there);
    }

-- no fewer are reached
pub later_reached : (m n : Moment) (s : ℕ) (t : Term) → IsNotBefore n m → seen_count m s t ≤ seen_count n s t
unfolding seen_count tails_done
later_reached m n s t l =
    let p = later_segment m n s l in
    let q = postings_more t (segment m s) p.0 in
    let e : postings t (segment n s) ≡ postings t (segment m s) ++ q.0 = ap (postings t) (sym p.1) ∙ q.1 in
    let st = later_stores m n l in
    let a = length-take (times m.setting (document_stores m.setting m.documents) (slot s tail_region (number_of t (terms_of (segment m s))))) (postings t (segment m s)) in
    let b = length-take (times n.setting (document_stores n.setting n.documents) (slot s tail_region (number_of t (terms_of (segment n s))))) (postings t (segment n s)) in
    let lengths = ap length e ∙ length-append (postings t (segment m s)) q.0 in
    let more = ap (λ z. times m.setting z (slot s tail_region (number_of t (terms_of (segment m s))))) (sym st.1)
    ∙ times-append m.setting (document_stores m.setting m.documents) st.0 (slot s tail_region (number_of t (terms_of (segment m s)))) in
    elim (cases_lt 0 (count_of t (terms_of (segment m s)))) [
      | inr away ↦ omega (arith, a, length-postings t (segment m s))
      | inl there ↦
          let k : number_of t (terms_of (segment n s)) ≡ number_of t (terms_of (segment m s)) =
          ap (number_of t) (ap terms_of (sym p.1) ∙ terms_more (segment m s) p.0) ∙ number_stays t (terms_of (segment m s)) (terms_of p.0) there in
          let c : times n.setting (document_stores n.setting n.documents) (slot s tail_region (number_of t (terms_of (segment n s))))
          ≡ times m.setting (document_stores n.setting n.documents) (slot s tail_region (number_of t (terms_of (segment m s)))) =
          λ i. times (sym l.setting i) (document_stores n.setting n.documents) (slot s tail_region (k i)) in
          omega (arith, a, b, c, more, lengths)
    ]
