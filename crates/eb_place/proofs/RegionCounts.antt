-- How many stores of a placing go to the tails and to the cells of a segment.
use Rattle.std.proofs.Common.{◌≡◌, ◌≢◌, ℕ, zero, suc, ◌+◌, ◌-◌, ◌*◌, ◌/◌, ◌%◌, ◌^◌, ◌==◌, ◌&&◌, Bool, true, false, List, [], ◌∷◌, ◌++◌, length}
use Rattle.std.proofs.Common.{get_or, refl, ap, sym, ◌∙◌, arith, inl, inr, if◌then◌else◌, nat_le, sum_by, count_by, append-nil, append_assoc}
use Rattle.std.proofs.lemmas.Bool.{eq-eqb, ne_eqb}
use Rattle.std.proofs.lemmas.List.{length_push, length-append}
use Rattle.std.proofs.lemmas.List.Sums.{sum_by-cons}
use Rattle.std.proofs.Math.Bool.{and-false}
use native.Mathlib.Decide.{ℕ_discrete}
use Rattle.eb_base.specs.Term.{Term}
use Rattle.eb_base.specs.Document.{Doc}
use Rattle.eb_base.specs.Setting.{Setting, IsSetting}
use Rattle.eb_place.specs.Layout.{Region, rank, pool_slot, pool_region}
use Rattle.eb_place.specs.Layout.Slot.{published, slot}
use Rattle.eb_place.specs.Layout.Region.{first_region, cell_region, text_place_region, tail_region, text_region, id_region}
use Rattle.eb_place.specs.Postings.{count_of, distinct, number_of, posting_of, terms_of}
use Rattle.eb_place.specs.Room.{text_words, cut, with_doc, IsLawful}
use Rattle.eb_place.specs.Address.{pool_at, begins, address_of}
use Rattle.eb_place.specs.Placing.{Store, in_row, text_of, enter_stores, append_stores, token_stores, tokens_stores, stores_in}
use Rattle.eb_place.specs.Moments.{placings, placings_after}
use Rattle.eb_place.specs.Seen.{is_in}
use Rattle.eb_place.proofs.TermCounts.{one_if, by_push, once, distinct_push, with_term_cases}
use Rattle.eb_place.proofs.FreshPoolWords.{Each, Each-append, Each-if}
use Rattle.eb_place.proofs.FreshPoolWords.Each.{none, more}
use Rattle.eb_place.proofs.WordsOfTokens.{Each-map}
use Rattle.eb_place.proofs.WordsOfHistories.{before_in, terms_push}
use Rattle.eb_place.proofs.StoresOfDocuments.{doc_elsewhere, first_stores, stores_split}
use Rattle.eb_place.proofs.WordsAtMoment.{placed_all, Joins, joins, placings_push, lawful_front, lawful_last, get_none}
use Rattle.eb_place.proofs.EntryStores.{in_region, not_in, elsewhere_in}
use Rattle.eb_place.proofs.RegionStores.{count_by-append, count_none}

-- how many of the stores go to a region of segment s
abbrev pub count_in : ℕ → Region → List Store → ℕ
count_in s r xs = count_by (is_in s r) xs

count_in-cons : (s : ℕ) (r : Region) (y : Store) (ys : List Store) → count_in s r (y ∷ ys) ≡ one_if (is_in s r y) + count_in s r ys
count_in-cons s r y ys = sum_by-cons (λ (z : Store). one_if (is_in s r z)) y ys

-- no store to the region
abbrev pub Away : ℕ → Region → Store → Type 0
Away s r y = is_in s r y ≡ false

row_away : (s v i : ℕ) (r : Region) (vs : List ℕ) → (rank text_region == rank r) ≡ false → Each (Away s r) (in_row v text_region i vs)
row_away s v i r [] h = none
row_away s v i r (x ∷ vs) h = more (not_in s v r text_region i x h) (row_away s v (i + 1) r vs h)

pub tail_pool : (s v a w : ℕ) → Away s tail_region (pool_slot v a, w)
unfolding pool_slot
tail_pool s v a w = by (a / 2 ^ 30) (a % 2 ^ 30)
  where
    by : (p i : ℕ) → Away s tail_region (slot v (pool_region p) i, w)
    by zero i = and-false (v == s)
    by (suc zero) i = and-false (v == s)
    by (suc (suc zero)) i = and-false (v == s)
    by (suc (suc (suc p))) i = and-false (v == s)

cell_pool : (s v a w : ℕ) → Away s cell_region (pool_slot v a, w)
unfolding pool_slot
cell_pool s v a w = by (a / 2 ^ 30) (a % 2 ^ 30)
  where
    by : (p i : ℕ) → Away s cell_region (slot v (pool_region p) i, w)
    by zero i = and-false (v == s)
    by (suc zero) i = and-false (v == s)
    by (suc (suc zero)) i = and-false (v == s)
    by (suc (suc (suc p))) i = and-false (v == s)

-- ---- the stores of a token

-- the stores that enter the term of a token where it is new
abbrev pub enters : Setting → ℕ → List Term → Term → List Store
enters σ s ts u = if count_of u ts == 0 then enter_stores σ s (distinct ts) u else []

-- none of the stores that enter a term goes to a tail
pub enter_no_tail : (σ : Setting) (s : ℕ) (terms : List Term) (t : Term) → Each (Away s tail_region) (enter_stores σ s terms t)
unfolding enter_stores
enter_no_tail σ s terms t = Each-append (row_away s s (sum_by text_words terms) tail_region (text_of t) refl) (more (and-false (s == s)) (more (and-false (s == s)) none))

-- entering stores no tail
pub enters_tails : (σ : Setting) (s : ℕ) (ts : List Term) (u : Term) → count_in s tail_region (enters σ s ts u) ≡ 0
unfolding enter_stores
enters_tails σ s ts u = count_none (is_in s tail_region) (enters σ s ts u)
    (Each-if (count_of u ts == 0) (λ z. enter_no_tail σ s (distinct ts) u))

-- and one cell, where the term is new
pub enters_cells : (σ : Setting) (s : ℕ) (ts : List Term) (u : Term) → count_in s cell_region (enters σ s ts u) ≡ one_if (count_of u ts == 0)
unfolding enter_stores
enters_cells σ s ts u = by (count_of u ts == 0)
  where
    by : (b : Bool) → count_in s cell_region (if b then enter_stores σ s (distinct ts) u else []) ≡ one_if b
    by false = refl
    by true =
        let x : Store = (slot s text_place_region (length (distinct ts)), sum_by text_words (distinct ts)) in
        let c = Rattle.eb_place.specs.Placing.cell_of_next (2 * σ.terms) (distinct ts) u in
        let y : Store = (slot s cell_region c, length (distinct ts) + 1) in
        let row = in_row s text_region (sum_by text_words (distinct ts)) (text_of u) in
        count_by-append (is_in s cell_region) row (x ∷ y ∷ [])
        ∙ omega (
          arith,
          count_none (is_in s cell_region) row (row_away s s (sum_by text_words (distinct ts)) cell_region (text_of u) refl),
          count_in-cons s cell_region x (y ∷ []),
          ap one_if (not_in s s cell_region text_place_region (length (distinct ts)) (sum_by text_words (distinct ts)) refl),
          count_in-cons s cell_region y [],
          ap one_if (in_region s cell_region c (length (distinct ts) + 1)),
        )

-- a posting stores one tail
pub appends_tails : (s : ℕ) (ts : List Term) (u : Term) (f p : ℕ) → count_in s tail_region (append_stores s ts u f p) ≡ 1
unfolding append_stores
appends_tails s ts u f p =
    let K : List Store = if begins f && nat_le 1 (pool_at f) then ((pool_slot s (address_of u f ts - 1), address_of u (f - 1) ts) ∷ []) else [] in
    let x : Store = (pool_slot s (address_of u f ts), p) in
    let y : Store = (slot s tail_region (number_of u ts), address_of u f ts + 1) in
    count_by-append (is_in s tail_region) K (x ∷ y ∷ [])
    ∙ omega (
      arith,
      count_none (is_in s tail_region) K (Each-if (begins f && nat_le 1 (pool_at f)) (λ z. more (tail_pool s s (address_of u f ts - 1) (address_of u (f - 1) ts)) none)),
      count_in-cons s tail_region x (y ∷ []),
      ap one_if (tail_pool s s (address_of u f ts) p),
      count_in-cons s tail_region y [],
      ap one_if (in_region s tail_region (number_of u ts) (address_of u f ts + 1)),
    )

-- and no cell
pub appends_cells : (s : ℕ) (ts : List Term) (u : Term) (f p : ℕ) → count_in s cell_region (append_stores s ts u f p) ≡ 0
unfolding append_stores
appends_cells s ts u f p = count_none (is_in s cell_region) (append_stores s ts u f p) (Each-append
    (Each-if (begins f && nat_le 1 (pool_at f)) (λ z. more (cell_pool s s (address_of u f ts - 1) (address_of u (f - 1) ts)) none))
    (more (cell_pool s s (address_of u f ts) p) (more (and-false (s == s)) none)))

-- ---- the stores of further tokens

-- each token stores one tail
pub tokens_tails : (σ : Setting) (s n p : ℕ) (ts us : List Term) → count_in s tail_region (tokens_stores σ s n p ts us) ≡ length us
unfolding tokens_stores token_stores
tokens_tails σ s n p ts [] = refl
tokens_tails σ s n p ts (u ∷ us) =
    let A = append_stores s ts u (count_of u ts) (posting_of n p) in
    count_by-append (is_in s tail_region) (enters σ s ts u ++ A) (tokens_stores σ s n (p + 1) (ts ++ u ∷ []) us)
    ∙ omega (
      arith,
      count_by-append (is_in s tail_region) (enters σ s ts u) A,
      enters_tails σ s ts u,
      appends_tails s ts u (count_of u ts) (posting_of n p),
      tokens_tails σ s n (p + 1) (ts ++ u ∷ []) us,
    )

-- a new term makes one more distinct term
pub distinct_one : (ts : List Term) (u : Term) → length (distinct (ts ++ u ∷ [])) ≡ length (distinct ts) + one_if (count_of u ts == 0)
distinct_one ts u = let d = ap length (distinct_push ts u) in let o = once u ts in elim (with_term_cases (distinct ts) u) [
  | inl w ↦ omega (arith, d, ap length w.1, ap one_if (ne_eqb (count_of u ts) 0 (λ z. omega (arith, o, w.0))))
  | inr w ↦ omega (arith, d, ap length w.1, length_push (distinct ts) u, ap one_if (eq-eqb (count_of u ts) 0 (omega (arith, o, w.0))))
]

-- and each new term one cell
pub tokens_cells : (σ : Setting) (s n p : ℕ) (ts us : List Term) → length (distinct ts) + count_in s cell_region (tokens_stores σ s n p ts us) ≡ length (distinct (ts ++ us))
unfolding tokens_stores token_stores
tokens_cells σ s n p ts [] = omega (arith, ap (λ z. length (distinct z)) (append-nil ts))
tokens_cells σ s n p ts (u ∷ us) =
    let A = append_stores s ts u (count_of u ts) (posting_of n p) in
    let R = tokens_stores σ s n (p + 1) (ts ++ u ∷ []) us in
    omega (
      arith,
      count_by-append (is_in s cell_region) (enters σ s ts u ++ A) R,
      count_by-append (is_in s cell_region) (enters σ s ts u) A,
      enters_cells σ s ts u,
      appends_cells s ts u (count_of u ts) (posting_of n p),
      tokens_cells σ s n (p + 1) (ts ++ u ∷ []) us,
      distinct_one ts u,
      ap (λ z. length (distinct z)) (append_assoc ts (u ∷ []) us),
    )

-- ---- the stores of documents

-- the first-document word is neither
pub firsts_away : (s v : ℕ) (r : Region) (seg : List Doc) (count : ℕ) → (rank first_region == rank r) ≡ false → count_in v r (first_stores s seg count) ≡ 0
unfolding first_stores
firsts_away s v r seg count h =
    count_none (is_in v r) (if length seg == 0 then ((slot s first_region 0, count + 1) ∷ []) else []) (Each-if (length seg == 0) (λ z. more (not_in v s r first_region 0 (count + 1) h) none))

lasts_away : (s v n id count : ℕ) (r : Region) → (rank id_region == rank r) ≡ false → count_in v r ((slot s id_region n, id) ∷ (published, count + 1) ∷ []) ≡ 0
lasts_away s v n id count r h = count_none (is_in v r) ((slot s id_region n, id) ∷ (published, count + 1) ∷ []) (more (not_in v s r id_region n id h) (more refl none))

-- this much of a document in its segment, and nothing in another
pub doc_tails : (σ : Setting) (s : ℕ) (seg : List Doc) (count : ℕ) (d : Doc) → count_in s tail_region (stores_in σ s seg count d) ≡ length d.terms
doc_tails σ s seg count d =
    let T = tokens_stores σ s (length seg) 0 (terms_of seg) d.terms in
    let Z : List Store = (slot s id_region (length seg), d.id) ∷ (published, count + 1) ∷ [] in
    omega (
      arith,
      ap (count_in s tail_region) (stores_split σ s seg count d),
      count_by-append (is_in s tail_region) (first_stores s seg count) (T ++ Z),
      firsts_away s s tail_region seg count refl,
      count_by-append (is_in s tail_region) T Z,
      tokens_tails σ s (length seg) 0 (terms_of seg) d.terms,
      lasts_away s s (length seg) d.id count tail_region refl,
    )

pub doc_cells : (σ : Setting) (s : ℕ) (seg : List Doc) (count : ℕ) (d : Doc)
    → length (distinct (terms_of seg)) + count_in s cell_region (stores_in σ s seg count d) ≡ length (distinct (terms_of seg ++ d.terms))
doc_cells σ s seg count d =
    let T = tokens_stores σ s (length seg) 0 (terms_of seg) d.terms in
    let Z : List Store = (slot s id_region (length seg), d.id) ∷ (published, count + 1) ∷ [] in
    omega (
      arith,
      ap (count_in s cell_region) (stores_split σ s seg count d),
      count_by-append (is_in s cell_region) (first_stores s seg count) (T ++ Z),
      firsts_away s s cell_region seg count refl,
      count_by-append (is_in s cell_region) T Z,
      tokens_cells σ s (length seg) 0 (terms_of seg) d.terms,
      lasts_away s s (length seg) d.id count cell_region refl,
    )

pub doc_other : (σ : Setting) (s v : ℕ) (r : Region) (seg : List Doc) (count : ℕ) (d : Doc) → s ≢ v → count_in v r (stores_in σ s seg count d) ≡ 0
doc_other σ s v r seg count d h = count_none (is_in v r) (stores_in σ s seg count d) (Each-map (elsewhere_in v r) (doc_elsewhere σ s v seg count d h))

-- the tails and the cells of a segment after whole documents
pub record Counts (σ : Setting) (docs : List Doc) (v : ℕ) : Type 0 where
  pub tails : count_in v tail_region (placings σ docs) ≡ length (terms_of (get_or (cut σ docs) v []))
  pub cells : count_in v cell_region (placings σ docs) ≡ length (distinct (terms_of (get_or (cut σ docs) v [])))

pub counts_placed : (σ : Setting) (docs : List Doc) → IsSetting σ → IsLawful σ docs → (v : ℕ) → Counts σ docs v
unfolding placings_after cut terms_of distinct
counts_placed σ docs k = by_push (λ ds. IsLawful σ ds → (v : ℕ)
    → Counts σ ds v) (λ h v. record { tails = sym (ap (λ z. length (terms_of z)) (get_none v)); cells = sym (ap (λ z. length (distinct (terms_of z))) (get_none v)) }) step docs
  where
    step : (ds : List Doc) (d : Doc) → (IsLawful σ ds → (v : ℕ) → Counts σ ds v) → IsLawful σ (ds ++ d ∷ []) → (v : ℕ) → Counts σ (ds ++ d ∷ []) v
    step ds d ih h v =
        let front = lawful_front σ ds (d ∷ []) h in
        let p = placed_all σ ds k front in
        by (length (with_doc σ (cut σ ds) d) - 1) (before_in σ (cut σ ds) d) (joins σ ds d k p.short (lawful_last σ ds d h)) (ih front v)
      where
        by : (s : ℕ) (before : List Doc) → Joins σ ds d s before → Counts σ ds v → Counts σ (ds ++ d ∷ []) v
        by s before j c =
            let e = placings_push σ ds d ∙ ap (λ z. placings σ ds ++ z) j.stores in
            let X = stores_in σ s before (length ds) d in
            elim (ℕ_discrete v s) [
              | yes q ↦
                  let old : get_or (cut σ ds) v [] ≡ before = ap (λ z. get_or (cut σ ds) z []) q ∙ j.old in
                  let new : terms_of (get_or (cut σ (ds ++ d ∷ [])) v []) ≡ terms_of before ++ d.terms =
                  ap (λ z. terms_of (get_or (cut σ (ds ++ d ∷ [])) z [])) q ∙ ap terms_of j.here ∙ terms_push before d in
                  record {
                    tails = omega (
                      arith,
                      ap (count_in v tail_region) e,
                      count_by-append (is_in v tail_region) (placings σ ds) X,
                      ap (λ z. count_in z tail_region X) q,
                      doc_tails σ s before (length ds) d,
                      c.tails,
                      ap (λ z. length (terms_of z)) old,
                      ap length new,
                      length-append (terms_of before) d.terms,
                    );
                    cells = omega (
                      arith,
                      ap (count_in v cell_region) e,
                      count_by-append (is_in v cell_region) (placings σ ds) X,
                      ap (λ z. count_in z cell_region X) q,
                      doc_cells σ s before (length ds) d,
                      c.cells,
                      ap (λ z. length (distinct (terms_of z))) old,
                      ap (λ z. length (distinct z)) new,
                    );
                  }
              | no q ↦
                  let same = j.other v q in
                  record {
                    tails = omega (
                      arith,
                      ap (count_in v tail_region) e,
                      count_by-append (is_in v tail_region) (placings σ ds) X,
                      doc_other σ s v tail_region before (length ds) d (λ w. q (sym w)),
                      c.tails,
                      ap (λ z. length (terms_of z)) same,
                    );
                    cells = omega (
                      arith,
                      ap (count_in v cell_region) e,
                      count_by-append (is_in v cell_region) (placings σ ds) X,
                      doc_other σ s v cell_region before (length ds) d (λ w. q (sym w)),
                      c.cells,
                      ap (λ z. length (distinct (terms_of z))) same,
                    );
                  }
            ]
