-- The words of each segment after the placings of a history.
use Rattle.std.proofs.Common.{◌≡◌, ◌≢◌, ℕ, zero, suc, ◌+◌, ◌-◌, ◌<◌, ◌≤◌, true, List, [], ◌∷◌, ◌++◌, length, map, get_or, filter}
use Rattle.std.proofs.Common.{refl, ap, sym, ◌∙◌, subst, arith, inl, inr, bytes_eq, if◌then◌else◌, append-nil, append_assoc}
use Rattle.std.proofs.lemmas.Bool.{cases_Bool, and_parts, leb-true}
use Rattle.std.proofs.lemmas.List.{map-append, get_or_append_left}
use Rattle.std.proofs.lemmas.List.Elements.{filter-append}
use Rattle.std.proofs.Math.Seq.{get_or-append_seam}
use Rattle.eb_base.specs.Term.{Term}
use Rattle.eb_base.specs.Document.{Doc, IsDocument}
use Rattle.eb_base.specs.Setting.{Setting, IsSetting}
use Rattle.eb_place.specs.Layout.{pool_slices}
use Rattle.eb_place.specs.Postings.{Token, count_of, posting_of, tokens_from, segment_from, tokens, postings, terms_of}
use Rattle.eb_place.specs.Room.{holds, fits, with_doc, last_of, all_slices}
use Rattle.eb_place.specs.Address.{slices_begun}
use Rattle.eb_place.proofs.TermCounts.{same_term, count_of-nil, count_of-cons, begun_is}
use Rattle.eb_place.proofs.FitsEmptySegment.{fits_empty}
use Rattle.eb_place.proofs.StoresWithinTable.{SegmentFits}
use Rattle.eb_place.proofs.StoringTokens.{Agrees}

-- ---- which segment a document goes to

-- one more document goes to the end of segment `last`, after `before`, and the others stay
pub record Goes (σ : Setting) (segs : List (List Doc)) (d : Doc) (new : List (List Doc)) (last : ℕ) (before : List Doc) : Type 0 where
  pub most : length new ≡ last + 1
  pub here : get_or new last [] ≡ before ++ d ∷ []
  pub old : get_or segs last [] ≡ before
  pub other : (s : ℕ) → s ≢ last → get_or new s [] ≡ get_or segs s []

-- the documents before it in its segment
abbrev pub before_in : Setting → List (List Doc) → Doc → List Doc
before_in σ segs d = if fits σ (last_of segs) d then last_of segs else []

-- so the segments change
pub goes : (σ : Setting) (segs : List (List Doc)) (d : Doc) → Goes σ segs d (with_doc σ segs d) (length (with_doc σ segs d) - 1) (before_in σ segs d)
goes σ [] d = elim (cases_Bool (fits σ [] d)) [
  | inl here ↦ rw here (record { most = omega arith; here = refl; old = refl; other = one })
  | inr away ↦ rw away (record { most = omega arith; here = refl; old = refl; other = one })
]
  where
    one : (s : ℕ) → s ≢ 0 → get_or ((d ∷ []) ∷ []) s [] ≡ []
    one zero h = absurd (h refl)
    one (suc s) h = refl
goes σ (x ∷ []) d = elim (cases_Bool (fits σ x d)) [
  | inl here ↦ rw here (record { most = omega arith; here = refl; old = refl; other = one })
  | inr away ↦ rw away (record { most = omega arith; here = refl; old = refl; other = two })
]
  where
    one : (s : ℕ) → s ≢ 0 → get_or ((x ++ d ∷ []) ∷ []) s [] ≡ get_or (x ∷ []) s []
    one zero h = absurd (h refl)
    one (suc s) h = refl

    two : (s : ℕ) → s ≢ 1 → get_or (x ∷ (d ∷ []) ∷ []) s [] ≡ get_or (x ∷ []) s []
    two zero h = refl
    two (suc zero) h = absurd (h refl)
    two (suc (suc s)) h = refl
goes σ (x ∷ y ∷ ys) d = lift (with_doc σ (y ∷ ys) d) (length (with_doc σ (y ∷ ys) d) - 1) (goes σ (y ∷ ys) d)
  where
    lift : (new : List (List Doc)) (last : ℕ) → Goes σ (y ∷ ys) d new last (before_in σ (y ∷ ys) d) → Goes σ (x ∷ y ∷ ys) d (x ∷ new) (suc (length new) - 1) (before_in σ (y ∷ ys) d)
    lift new last g = subst (λ k. Goes σ (x ∷ y ∷ ys) d (x ∷ new) k (before_in σ (y ∷ ys) d)) (let m = g.most in let e : suc last ≡ suc (length new) - 1 = omega arith in e)
        (record { most = let m = g.most in omega arith; here = g.here; old = g.old; other = other })
      where
        other : (s : ℕ) → s ≢ suc last → get_or (x ∷ new) s [] ≡ get_or (x ∷ y ∷ ys) s []
        other zero h = refl
        other (suc s) h = g.other s (λ e. h (ap suc e))

-- ---- room

-- what a segment holds, as facts
pub holds_fits : (σ : Setting) (seg : List Doc) → holds σ seg ≡ true → SegmentFits σ (terms_of seg) × (length seg ≤ σ.docs)
unfolding holds
holds_fits σ seg h =
    let a6 = and_parts _ _ h in
    let a5 = and_parts _ _ a6.0 in
    let a4 = and_parts _ _ a5.0 in
    let a3 = and_parts _ _ a4.0 in
    let a2 = and_parts _ _ a3.0 in
    let a1 = and_parts _ _ a2.0 in
    (record { few = leb-true _ _ a1.1; texts = leb-true _ _ a2.1; slices = by_pool (leb-true _ _ a3.1) (leb-true _ _ a4.1) (leb-true _ _ a5.1) (leb-true _ _ a6.1) }, leb-true _ _ a1.0)
  where
    by_pool : all_slices 0 (terms_of seg) ≤ pool_slices σ 0 → all_slices 1 (terms_of seg) ≤ pool_slices σ 1 → all_slices 2 (terms_of seg) ≤ pool_slices σ 2
        → all_slices 3 (terms_of seg) ≤ pool_slices σ 3 → (p : ℕ) → p < 4 → slices_begun p (terms_of seg) ≤ pool_slices σ p
    by_pool h0 h1 h2 h3 zero l = omega (arith, begun_is 0 l (terms_of seg), h0)
    by_pool h0 h1 h2 h3 (suc zero) l = omega (arith, begun_is 1 l (terms_of seg), h1)
    by_pool h0 h1 h2 h3 (suc (suc zero)) l = omega (arith, begun_is 2 l (terms_of seg), h2)
    by_pool h0 h1 h2 h3 (suc (suc (suc zero))) l = omega (arith, begun_is 3 l (terms_of seg), h3)
    by_pool h0 h1 h2 h3 (suc (suc (suc (suc p)))) l = absurd (omega arith)

-- the document's segment holds it
pub holds_here : (σ : Setting) (segs : List (List Doc)) (d : Doc) → IsSetting σ → IsDocument d → holds σ (before_in σ segs d ++ d ∷ []) ≡ true
holds_here σ segs d k h = elim (cases_Bool (fits σ (last_of segs) d)) [
  | inl here ↦ rw here here
  | inr away ↦ rw away (fits_empty σ k d h)
]

-- ---- the postings of a document

-- the tokens with one more document
pub terms_push : (seg : List Doc) (d : Doc) → terms_of (seg ++ d ∷ []) ≡ terms_of seg ++ d.terms
unfolding terms_of
terms_push [] d = append-nil d.terms
terms_push (x ∷ seg) d = ap (λ z. x.terms ++ z) (terms_push seg d) ∙ sym (append_assoc x.terms (terms_of seg) d.terms)

segment_push : (n : ℕ) (seg : List Doc) (d : Doc) → segment_from n (seg ++ d ∷ []) ≡ segment_from n seg ++ tokens_from (n + length seg) 0 d.terms
segment_push n [] d = append-nil (tokens_from n 0 d.terms) ∙ ap (λ k. tokens_from k 0 d.terms) (let e : n ≡ n + 0 = omega arith in e)
segment_push n (x ∷ seg) d =
    ap (λ z. tokens_from n 0 x.terms ++ z) (segment_push (n + 1) seg d
    ∙ ap (λ k. segment_from (n + 1) seg ++ tokens_from k 0 d.terms) (let e : n + 1 + length seg ≡ n + suc (length seg) = omega arith in e))
    ∙ sym (append_assoc (tokens_from n 0 x.terms) (segment_from (n + 1) seg) (tokens_from (n + suc (length seg)) 0 d.terms))

-- the terms of tokens
abbrev pub terms_in : List Token → List Term
terms_in ws = map (λ w. w.term) ws

-- the postings of a term among tokens
abbrev pub postings_in : Term → List Token → List ℕ
postings_in t ws = map (λ w. w.posting) (filter (λ w. bytes_eq t w.term) ws)

-- they are as many as it occurs there
pub length-postings_in : (t : Term) (ws : List Token) → length (postings_in t ws) ≡ count_of t (terms_in ws)
length-postings_in t [] = sym (count_of-nil t)
length-postings_in t (w ∷ ws) = let d = count_of-cons t w.term (terms_in ws) in let ih = length-postings_in t ws in elim (cases_Bool (bytes_eq t w.term)) [
  | inl here ↦ rw (d, here) (omega (arith, ih))
  | inr away ↦ rw (d, away) (omega (arith, ih))
]

-- the postings of two lists follow each other
pub postings_append : (t : Term) (ws vs : List Token) → postings_in t (ws ++ vs) ≡ postings_in t ws ++ postings_in t vs
postings_append t ws vs =
    ap (map (λ (x : Token). x.posting)) (filter-append (λ (x : Token). bytes_eq t x.term) ws vs)
    ∙ map-append (λ (x : Token). x.posting) (filter (λ (x : Token). bytes_eq t x.term) ws) (filter (λ (x : Token). bytes_eq t x.term) vs)

tokens_terms : (n p : ℕ) (us : List Term) → terms_in (tokens_from n p us) ≡ us
tokens_terms n p [] = refl
tokens_terms n p (u ∷ us) = ap (λ z. u ∷ z) (tokens_terms n (p + 1) us)

segment_terms : (n : ℕ) (seg : List Doc) → terms_in (segment_from n seg) ≡ terms_of seg
unfolding terms_of
segment_terms n [] = refl
segment_terms n (d ∷ ds) = map-append (λ (w : Token). w.term) (tokens_from n 0 d.terms) (segment_from (n + 1) ds) ∙ (λ i. tokens_terms n 0 d.terms i ++ segment_terms (n + 1) ds i)

-- the numbers of the postings of a segment
abbrev pub numbers : List Token → Term → ℕ → ℕ
numbers ws t f = get_or (postings_in t ws) f 0

-- the posting of the token in the middle
middle : (ws vs : List Token) (w : Token) → numbers (ws ++ w ∷ vs) w.term (count_of w.term (terms_in ws)) ≡ w.posting
middle ws vs w =
    ap (λ z. get_or z (count_of w.term (terms_in ws)) 0) (postings_append w.term ws (w ∷ vs) ∙ ap (λ z. postings_in w.term ws ++ z) head)
    ∙ ap (λ k. get_or (postings_in w.term ws ++ w.posting ∷ postings_in w.term vs) k 0) (sym (length-postings_in w.term ws))
    ∙ get_or-append_seam (postings_in w.term ws) w.posting (postings_in w.term vs) 0
  where
    head : postings_in w.term (w ∷ vs) ≡ w.posting ∷ postings_in w.term vs
    head = rw (same_term w.term) refl

-- tokens are numbered as a document is placed
pub agrees : (n p : ℕ) (ws : List Token) (us : List Term) → Agrees (numbers (ws ++ tokens_from n p us)) n p (terms_in ws) us
agrees n p ws [] = tt
agrees n p ws (u ∷ us) =
    let w : Token = record { term = u; posting = posting_of n p } in (
      middle ws (tokens_from n (p + 1) us) w,
      subst (λ z. Agrees (numbers z) n (p + 1) (terms_in ws ++ u ∷ []) us) (append_assoc ws (w ∷ []) (tokens_from n (p + 1) us))
          (subst (λ z. Agrees (numbers ((ws ++ w ∷ []) ++ tokens_from n (p + 1) us)) n (p + 1) z us) (map-append (λ (x : Token). x.term) ws (w ∷ [])) (agrees n (p + 1) (ws ++ w ∷ []) us)),
    )

-- the numbers of the postings
abbrev pub posting_numbers : List Doc → Term → ℕ → ℕ
posting_numbers seg t f = get_or (postings t seg) f 0

-- so are those of the next document of a segment
pub agrees_doc : (seg : List Doc) (d : Doc) → Agrees (posting_numbers (seg ++ d ∷ [])) (length seg) 0 (terms_of seg) d.terms
unfolding postings tokens
agrees_doc seg d =
    subst (λ z. Agrees (numbers z) (length seg) 0 (terms_of seg) d.terms)
    (sym (segment_push 0 seg d ∙ ap (λ k. segment_from 0 seg ++ tokens_from k 0 d.terms) (let e : 0 + length seg ≡ length seg = omega arith in e)))
    (subst (λ z. Agrees (numbers (segment_from 0 seg ++ tokens_from (length seg) 0 d.terms)) (length seg) 0 z d.terms) (segment_terms 0 seg) (agrees (length seg) 0 (segment_from 0 seg) d.terms))

-- the tokens of further documents come after
pub terms_more : (seg ds : List Doc) → terms_of (seg ++ ds) ≡ terms_of seg ++ terms_of ds
unfolding terms_of
terms_more [] ds = refl
terms_more (x ∷ seg) ds = ap (λ z. x.terms ++ z) (terms_more seg ds) ∙ sym (append_assoc x.terms (terms_of seg) (terms_of ds))

more_docs : (n : ℕ) (seg ds : List Doc) → segment_from n (seg ++ ds) ≡ segment_from n seg ++ segment_from (n + length seg) ds
more_docs n [] ds = ap (λ k. segment_from k ds) (let e : n ≡ n + 0 = omega arith in e)
more_docs n (x ∷ seg) ds =
    ap (λ z. tokens_from n 0 x.terms ++ z) (more_docs (n + 1) seg ds ∙ ap (λ k. segment_from (n + 1) seg ++ segment_from k ds) (let e : n + 1 + length seg ≡ n + suc (length seg) = omega arith in e))
    ∙ sym (append_assoc (tokens_from n 0 x.terms) (segment_from (n + 1) seg) (segment_from (n + suc (length seg)) ds))

-- and so do their postings
pub postings_more : (t : Term) (seg ds : List Doc) → (rest : List ℕ) × (postings t (seg ++ ds) ≡ postings t seg ++ rest)
unfolding postings tokens
postings_more t seg ds = (postings_in t (segment_from (0 + length seg) ds), ap (postings_in t) (more_docs 0 seg ds) ∙ postings_append t (segment_from 0 seg) (segment_from (0 + length seg) ds))

-- a posting stays when documents come
pub posting_front : (seg ds : List Doc) (t : Term) (f : ℕ) → f < count_of t (terms_of seg) → posting_numbers (seg ++ ds) t f ≡ posting_numbers seg t f
unfolding postings tokens
posting_front seg ds t f h = ap (λ z. get_or z f 0) (ap (postings_in t) (more_docs 0 seg ds) ∙ postings_append t (segment_from 0 seg) (segment_from (0 + length seg) ds))
    ∙ get_or_append_left (postings_in t (segment_from 0 seg)) _ 0 f (omega (arith, length-postings_in t (segment_from 0 seg), ap (count_of t) (segment_terms 0 seg)))
