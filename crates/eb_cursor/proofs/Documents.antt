-- From postings to documents.
use Rattle.std.proofs.Common.{◌≡◌, ℕ, zero, suc, ◌+◌, ◌*◌, ◌/◌, ◌%◌, ◌<◌, ◌≤◌, Bool, true, false, List, [], ◌∷◌, length, bytes_eq, refl, sym, ap, ◌∙◌, inl, inr, arith, slice_get}
use Rattle.std.specs.List.{list_any}
use Rattle.std.proofs.lemmas.Bool.{cases_Bool, cases_lt, or_cases, or_parts}
use Rattle.eb_base.specs.Document.{Doc}
use Rattle.eb_base.specs.Query.{word}
use Rattle.eb_place.specs.Postings.{places}
use Rattle.eb_cursor.specs.Tops.{top}
use Rattle.eb_cursor.specs.Posted.{terms_at, is_term, is_posting, match_at, Narrow, document_end}
use Rattle.eb_cursor.proofs.Tops.{top_here, top_past, top_le}

-- a number that passes is below the top
pub top_reaches : (s : ℕ → Bool) (k m : ℕ) → s k ≡ true → k < m → k < top s m
top_reaches s k zero e h = absurd (omega arith)
top_reaches s k (suc m) e h = elim (cases_Bool (s m)) [
  | inl i ↦ omega (arith, top_here s m i)
  | inr i ↦ elim (cases_lt k m) [
    | inl j ↦ omega (arith, top_past s m i, top_reaches s k m e j)
    | inr j ↦ let n : m ≡ k = omega arith in let w : s m ≡ true = rw n e in cc
  ]
]

-- the document n passes f exactly where one of its places passes s
pub record Block (f s : ℕ → Bool) (n : ℕ) : Type 0 where
  pub some : f n ≡ true → (k : ℕ) × (k < places) × (s (places * n + k) ≡ true)
  pub none : f n ≡ false → (k : ℕ) → k < places → s (places * n + k) ≡ false

pub top_stays : (s : ℕ → Bool) (m j : ℕ) → ((k : ℕ) → k < j → s (m + k) ≡ false) → top s (m + j) ≡ top s m
top_stays s m zero h = let e : m + zero ≡ m = omega arith in rw e refl
top_stays s m (suc j) h = let e : m + suc j ≡ suc (m + j) = omega arith in
    rw e (top_past s (m + j) (h j (omega arith)) ∙ top_stays s m j (λ k i. h k (omega arith)))

document_in : (n x : ℕ) → places * n < x → x ≤ places * n + places → suc n ≡ document_end x
document_in n zero h i = absurd (omega arith)
document_in n (suc x) h i = omega arith

pub blocks : (f s : ℕ → Bool) → ((n : ℕ) → Block f s n) → (end : ℕ) → top f end ≡ document_end (top s (places * end))
blocks f s b zero = refl
blocks f s b (suc n) = let more : places * suc n ≡ places * n + places = omega arith in
    elim (cases_Bool (f n)) [
      | inl e ↦ let w = (b n).some e in
          let reach : places * n + w.0 < top s (places * n + places) = top_reaches s (places * n + w.0) (places * n + places) w.2 (omega arith) in
          let low : places * n < top s (places * n + places) = omega arith in
          top_here f n e ∙ document_in n (top s (places * n + places)) low (top_le s (places * n + places)) ∙ ap (λ (x : ℕ). document_end (top s x)) (sym more)
      | inr e ↦ top_past f n e ∙ blocks f s b n ∙ ap document_end (sym (top_stays s (places * n) places ((b n).none e))) ∙ ap (λ (x : ℕ). document_end (top s x)) (sym more)
    ]

-- ---- a word

any_at : (t : List ℕ) (ts : List (List ℕ)) → list_any (bytes_eq t) ts ≡ true → (k : ℕ) × (k < length ts) × (is_term t (slice_get ts k) ≡ true)
any_at t [] e = cc
any_at t (u ∷ us) e = elim (or_cases (bytes_eq t u) (list_any (bytes_eq t) us) e) [
  | inl i ↦ (0, omega arith, i)
  | inr i ↦ let w = any_at t us i in (suc w.0, omega arith, w.2)
]

none_at : (t : List ℕ) (ts : List (List ℕ)) → list_any (bytes_eq t) ts ≡ false → (k : ℕ) → is_term t (slice_get ts k) ≡ false
none_at t [] e k = refl
none_at t (u ∷ us) e zero = (or_parts (bytes_eq t u) (list_any (bytes_eq t) us) e).0
none_at t (u ∷ us) e (suc k) = none_at t us (or_parts (bytes_eq t u) (list_any (bytes_eq t) us) e).1 k

pub posting_at : (docs : List Doc) (t : List ℕ) (n k : ℕ) → k < places → is_posting docs t (places * n + k) ≡ is_term t (slice_get (terms_at docs n) k)
posting_at docs t n k h = let d : (places * n + k) / places ≡ n = omega arith in let m : (places * n + k) % places ≡ k = omega arith in rw (d, m) refl

pub word_block : (docs : List Doc) → Narrow docs → (t : List ℕ) (n : ℕ) → Block (match_at docs (word t)) (is_posting docs t) n
word_block docs w t n = record {
  some = λ e. let a = any_at t (terms_at docs n) e in let h : a.0 < places = omega (arith, w.narrow n) in (a.0, h, posting_at docs t n a.0 h ∙ a.2);
  none = λ e k h. posting_at docs t n k h ∙ none_at t (terms_at docs n) e k;
}

pub word_top : (docs : List Doc) → Narrow docs → (t : List ℕ) (end : ℕ) → top (match_at docs (word t)) end ≡ document_end (top (is_posting docs t) (places * end))
word_top docs w t end = blocks (match_at docs (word t)) (is_posting docs t) (word_block docs w t) end
