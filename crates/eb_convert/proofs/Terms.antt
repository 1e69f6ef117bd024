-- One term after the other.
use Rattle.std.proofs.Common.{◌≡◌, ℕ, ◌+◌, ◌*◌, ◌^◌, ◌%◌, ◌<◌, ◌≤◌, List, [], ◌∷◌, ◌++◌, length, drop, get_or, reverse, refl, ap, sym, ◌∙◌, subst, arith, append_assoc, inl, inr}
use Rattle.std.proofs.lemmas.Bool.{cases_lt}
use Rattle.std.proofs.lemmas.List.{length-reverse, drop_more, length-append, drop_all}
use Rattle.eb_base.specs.Term.{Term}
use Rattle.eb_base.specs.Document.{Doc}
use Rattle.eb_place.specs.declared.moment.Conversions.{Conversions}
use Rattle.eb_place.specs.declared.moment.Moment.{Moment}
use Rattle.eb_place.specs.Layout.Slot.{slot}
use Rattle.eb_place.specs.Layout.Region.{packed_region, directory_region, converted_region, tail_region}
use Rattle.eb_place.specs.Postings.{postings, frequency, terms_of, distinct}
use Rattle.eb_place.specs.Packed.{packed}
use Rattle.eb_place.specs.Placing.{Store, in_row}
use Rattle.eb_base.specs.Setting.{Setting}
use Rattle.eb_place.specs.Layout.{place}
use Rattle.eb_place.specs.Conversion.{pack_stores, segment_stores, convert_stores}
use Rattle.eb_place.specs.Moments.{IsMoment, IsClosed, with_current, word}
use Rattle.eb_place.specs.Later.{IsNotBefore}
use Rattle.eb_place.specs.Seen.{segment, seen, seen_count}
use Rattle.eb_place.specs.Walk.{IsTerm}
use Rattle.eb_place.proofs.EnoughPackedWords.{postings_few, length-postings}
use Rattle.eb_place.proofs.ReachedLater.{later_term}
use Rattle.eb_chain.specs.Chains.{Stands}
use Rattle.eb_chain.specs.declared.chain.Chain.{Chain}
use Rattle.eb_place.proofs.ConverterWords.{closed_room, closed_segment}
use Rattle.eb_place.proofs.PostingsFall.{newest_falls, newest_small}
use Rattle.eb_place.proofs.TermNumbers.{count_at_most, number_of_term}
use Rattle.eb_convert.specs.Progress.{IsBegunAt, HasLeft, IsBlockNext, term_stores, terms_left, HasTerm, HasNoTerm}
use Rattle.eb_place.proofs.ConverterWords.{closed_later}
use Rattle.eb_convert.proofs.Putting.{left_later, left_begin}
use Rattle.eb_place.proofs.ClosedSegments.{closed_seen, tail_none, tail_some}

-- the chain of a term of a closed segment, opened: its blocks come next, then its directory word
pub term_next : (m n : Moment) (s : ℕ) (t : Term) (k at : ℕ) (others : List Store) (c : Chain) → IsMoment m → IsMoment n → IsNotBefore n m → n.conversions ≡ m.conversions
    → HasLeft m s (term_stores m s t k at ++ others) → Stands n s t c (seen_count n s t) (reverse (seen n s t))
    → IsBlockNext n s t c (seen_count n s t) at (reverse (postings t (segment m s))) ((slot s directory_region k, at * 2 ^ 32 + frequency t (segment m s)) ∷ others)
term_next m n s t k at others c is js l e left st =
    let d : Store = (slot s directory_region k, at * 2 ^ 32 + frequency t (segment m s)) in
    let left' = left_later m n s (term_stores m s t k at ++ others) l e left in
    let g = closed_segment m n s l left.closed in
    let sn : seen n s t ≡ postings t (segment m s) = closed_seen n s t js left'.closed ∙ ap (postings t) g in
    record {
      chain = subst (λ zs. Stands n s t c (seen_count n s t) (reverse zs)) sn st;
      left = subst (HasLeft n s) (append_assoc (in_row s packed_region at (packed t (segment m s))) (d ∷ []) others) left';
      others = omega arith;
      falls = newest_falls m s t is;
      small = newest_small m s t is;
    }

pub postings_room : (m : Moment) (s : ℕ) (t : Term) → IsMoment m → IsClosed m s → length (reverse (postings t (segment m s))) ≤ 34 * m.setting.terms
postings_room m s t is c =
    let room = closed_room m s is c in
    omega (arith, postings_few m.setting (terms_of (segment m s)) room.fits, length-postings t (segment m s), count_at_most t (terms_of (segment m s)), length-reverse (postings t (segment m s)))

-- the directory word
pub directory_value : (at total f : ℕ) → at < 2 ^ 32 → total ≡ f → f < 2 ^ 32 → (at * 2 ^ 32 % 2 ^ 64 + total ≡ at * 2 ^ 32 + f) × (at * 2 ^ 32 % 2 ^ 64 + total < 2 ^ 64)
directory_value at total f h e l = (omega arith, omega arith)

-- ---- which terms there are

-- a tail that isn't 0 is that of a term
pub has_term_at : (m n : Moment) (s k v : ℕ) → IsMoment m → IsMoment n → IsNotBefore n m → IsClosed m s → k < m.setting.terms → v ≡ word n (place n.setting (slot s tail_region k)) → 0 < v
    → HasTerm m s k
unfolding HasTerm
has_term_at m n s k v is js l c b e h = elim (cases_lt k (length (distinct (terms_of (segment m s))))) [
  | inl low ↦ low
  | inr high ↦
      let g = closed_segment m n s l c in
      let ins = (closed_room m s is c).inside in
      let z = tail_none n s k js (subst (λ (σ : Setting). s < σ.segments) l.setting ins) (subst (λ (seg : List Doc). length (distinct (terms_of seg)) ≤ k) (sym g) high)
      (subst (λ (σ : Setting). k < σ.terms) l.setting b) in
      absurd (omega arith)
]

-- and one that is 0 of no term
pub has_no_term_at : (m n : Moment) (s k v : ℕ) → IsMoment m → IsMoment n → IsNotBefore n m → IsClosed m s → v ≡ word n (place n.setting (slot s tail_region k)) → v ≤ 0 → HasNoTerm m s k
unfolding HasNoTerm HasTerm
has_no_term_at m n s k v is js l c e h = elim (cases_lt k (length (distinct (terms_of (segment m s))))) [
  | inr high ↦ high
  | inl low ↦
      let ins = (closed_room m s is c).inside in
      let t = get_or (distinct (terms_of (segment m s))) k [] in
      let q = number_of_term m s k ins low in
      let z = tail_some n s t k js (closed_later m n s l c) (later_term m n s t k l q) in
      absurd (omega arith)
]

-- ---- the stores of the terms

-- the next term's come first
pub terms_more : (m : Moment) (s at k : ℕ) → HasTerm m s k
    → terms_left m s at k ≡ term_stores m s (get_or (distinct (terms_of (segment m s))) k []) k at ++ terms_left m s
    (at + length (packed (get_or (distinct (terms_of (segment m s))) k []) (segment m s))) (k + 1)
unfolding terms_left HasTerm pack_stores
terms_more m s at k h =
    let D = distinct (terms_of (segment m s)) in
    let t = get_or D k [] in
    let l : Store = (slot s converted_region 0, 1) in
    let d : Store = (slot s directory_region k, at * 2 ^ 32 + frequency t (segment m s)) in
    let R = in_row s packed_region at (packed t (segment m s)) in
    let M = pack_stores s (segment m s) (at + length (packed t (segment m s))) (k + 1) (drop (k + 1) D) in
    ap (λ zs. pack_stores s (segment m s) at k zs ++ l ∷ []) (drop_more D k [] h) ∙ regroup R d M l
  where
    regroup : (R : List Store) (d : Store) (M : List Store) (l : Store) → (R ++ (d ∷ M)) ++ l ∷ [] ≡ (R ++ d ∷ []) ++ (M ++ l ∷ [])
    regroup R d M l = simp append_assoc

-- and where there is none, the converted word
pub terms_none : (m : Moment) (s at k : ℕ) → HasNoTerm m s k → terms_left m s at k ≡ (slot s converted_region 0, 1) ∷ []
unfolding terms_left HasNoTerm pack_stores
terms_none m s at k h = ap (λ zs. pack_stores s (segment m s) at k zs ++ (slot s converted_region 0, 1) ∷ []) (drop_all k (distinct (terms_of (segment m s))) h)

pub terms_some : (m : Moment) (s at k : ℕ) → 1 ≤ length (terms_left m s at k)
unfolding terms_left
terms_some m s at k = omega (arith, length-append (pack_stores s (segment m s) at k (drop k (distinct (terms_of (segment m s))))) ((slot s converted_region 0, 1) ∷ []))

-- the same at a later moment
pub terms_later : (m n : Moment) (s at k : ℕ) → IsNotBefore n m → IsClosed m s → terms_left n s at k ≡ terms_left m s at k
unfolding terms_left
terms_later m n s at k l c = ap (λ (seg : List Doc). pack_stores s seg at k (drop k (distinct (terms_of seg))) ++ (slot s converted_region 0, 1) ∷ []) (closed_segment m n s l c)

-- they are all where nothing is done
pub terms_all : (m : Moment) (s : ℕ) → segment_stores m.setting (with_current m.documents) s ≡ terms_left m s 0 0
unfolding terms_left segment_stores convert_stores
terms_all m s = refl

-- no more terms than the setting has
pub terms_few : (m : Moment) (s : ℕ) → IsMoment m → IsClosed m s → HasNoTerm m s m.setting.terms
unfolding HasNoTerm
terms_few m s is c = let room = closed_room m s is c in room.fits.few

-- the next term, where there is one, also after words grew
pub record IsTermAhead (n : Moment) (s at k : ℕ) (m : Moment) : Type 0 where
  pub term : Term
  pub is_term : IsTerm n s term k
  pub left : HasLeft n s (term_stores n s term k at ++ terms_left m s (at + length (packed term (segment n s))) (k + 1))

pub term_ahead : (m k0 n : Moment) (s at k : ℕ) → IsMoment m → IsMoment k0 → IsClosed m s → IsNotBefore k0 m → IsNotBefore n k0 → n.conversions ≡ k0.conversions → HasTerm k0 s k
    → HasLeft k0 s (terms_left m s at k) → IsTermAhead n s at k m
unfolding HasTerm
term_ahead m k0 n s at k is ks c l ln e h left =
    let c0 = closed_later m k0 s l c in
    let ins = (closed_room k0 s ks c0).inside in
    let t = get_or (distinct (terms_of (segment k0 s))) k [] in
    let g = closed_segment k0 n s ln c0 in
    let q = number_of_term k0 s k ins h in
    let same = terms_later m k0 s at k l c in
    let left' = left_later k0 n s (terms_left k0 s at k) ln e (subst (HasLeft k0 s) (sym same) left) in
    let more = subst (HasLeft n s) (terms_more k0 s at k h) left' in
    let later = terms_later m k0 s (at + length (packed t (segment k0 s))) (k + 1) l c in
    record {
      term = t;
      is_term = later_term k0 n s t k ln q;
      left = subst (λ (seg : List Doc). HasLeft n s ((in_row s packed_region at (packed t seg) ++ (
        slot s directory_region k,
        at * 2 ^ 32 + frequency t seg,
      ) ∷ []) ++ terms_left m s (at + length (packed t seg)) (k + 1))) (sym g) (subst (λ (zs : List Store). HasLeft n s (term_stores k0 s t k at ++ zs)) later more);
    }

pub terms_end : (m k0 n : Moment) (s at k : ℕ) → IsClosed m s → IsNotBefore k0 m → IsNotBefore n k0 → n.conversions ≡ k0.conversions → HasNoTerm k0 s k → HasLeft k0 s (terms_left m s at k)
    → HasLeft n s ((slot s converted_region 0, 1) ∷ [])
terms_end m k0 n s at k c l ln e h left =
    let same = terms_later m k0 s at k l c in
    left_later k0 n s ((slot s converted_region 0, 1) ∷ []) ln e (subst (HasLeft k0 s) (sym same ∙ terms_none k0 s at k h) left)

-- the segment before one that is begun is closed, and all stores of its conversion are left
pub begins_left : (m : Moment) (s : ℕ) → m.conversions ≡ record { converted = s; packed = 0 } → IsBegunAt m (s + 1) → HasLeft m s (terms_left m s 0 0)
unfolding IsBegunAt
begins_left m s e h = subst (HasLeft m s) (terms_all m s) (left_begin m s (ap (λ (c : Conversions). c.converted) e) (ap (λ (c : Conversions). c.packed) e) h)
