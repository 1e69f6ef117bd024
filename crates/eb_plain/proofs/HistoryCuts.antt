-- A history that is cut, with one more document.
use Rattle.std.proofs.Common.{◌≡◌, ℕ, zero, suc, ◌+◌, ◌-◌, ◌<◌, ◌≤◌, true, false, List, [], ◌∷◌, ◌++◌, length, map, take, drop, refl, sym, ap, ◌∙◌, arith, length-append, length-drop}
use Rattle.std.specs.Prelude.{nat_lt}
use Rattle.std.proofs.lemmas.Bool.Decides.{nat_tests}
use Rattle.std.proofs.lemmas.List.{map-append, drop-take, length-map}
use Rattle.eb_base.specs.Document.{Doc}
use Rattle.eb_base.specs.Setting.{Setting}
use Rattle.eb_place.specs.Room.{fits, with_doc, cut, last_of, has_room}
use Rattle.eb_place.proofs.CutSegments.{cut_push}
use Rattle.eb_plain.specs.Cutting.{IsCutAt}

with_doc-fits : (σ : Setting) (segs : List (List Doc)) (s : List Doc) (d : Doc) → fits σ s d ≡ true → with_doc σ (segs ++ s ∷ []) d ≡ segs ++ (s ++ d ∷ []) ∷ []
with_doc-fits σ [] s d e = rw e refl
with_doc-fits σ (r ∷ []) s d e = ap (λ x. r ∷ x) (with_doc-fits σ [] s d e)
with_doc-fits σ (r ∷ q ∷ rs) s d e = ap (λ x. r ∷ x) (with_doc-fits σ (q ∷ rs) s d e)

with_doc-new : (σ : Setting) (segs : List (List Doc)) (s : List Doc) (d : Doc) → fits σ s d ≡ false → with_doc σ (segs ++ s ∷ []) d ≡ (segs ++ s ∷ []) ++ (d ∷ []) ∷ []
with_doc-new σ [] s d e = rw e refl
with_doc-new σ (r ∷ []) s d e = ap (λ x. r ∷ x) (with_doc-new σ [] s d e)
with_doc-new σ (r ∷ q ∷ rs) s d e = ap (λ x. r ∷ x) (with_doc-new σ (q ∷ rs) s d e)

last_of-push : (segs : List (List Doc)) (s : List Doc) → last_of (segs ++ s ∷ []) ≡ s
last_of-push [] s = refl
last_of-push (r ∷ []) s = refl
last_of-push (r ∷ q ∷ rs) s = last_of-push (q ∷ rs) s

drop-push : (docs : List Doc) (d : Doc) (n : ℕ) → n ≤ length docs → drop n (docs ++ d ∷ []) ≡ drop n docs ++ d ∷ []
drop-push docs d zero le = refl
drop-push [] d (suc n) le = absurd (omega arith)
drop-push (e ∷ es) d (suc n) le = drop-push es d n (omega arith)

drop_last : (docs : List Doc) (d : Doc) (n : ℕ) → n ≡ length docs → drop n (docs ++ d ∷ []) ≡ d ∷ []
drop_last [] d n e = ap (λ m. drop m (d ∷ [])) e
drop_last (x ∷ xs) d zero e = absurd (omega arith)
drop_last (x ∷ xs) d (suc n) e = drop_last xs d n (omega arith)

pub cut_first : (σ : Setting) (d : Doc) → IsCutAt σ (d ∷ []) [] 0
unfolding cut
cut_first σ d = record { earlier = []; cut = refl; lengths = refl }

pub cut_fits : (σ : Setting) (docs : List Doc) (d : Doc) (closed : List ℕ) (start : ℕ) → IsCutAt σ docs closed start → start ≤ length docs
    → fits σ (drop start docs) d ≡ true → IsCutAt σ (docs ++ d ∷ []) closed start
cut_fits σ docs d closed start c le e = record {
  earlier = c.earlier;
  cut = cut_push σ docs d ∙ ap (λ x. with_doc σ x d) c.cut ∙ with_doc-fits σ c.earlier (drop start docs) d e ∙ ap (λ x. c.earlier ++ x ∷ []) (sym (drop-push docs d start le));
  lengths = c.lengths;
}

pub cut_new : (σ : Setting) (docs : List Doc) (d : Doc) (closed : List ℕ) (start len : ℕ) → IsCutAt σ docs closed start → len ≡ length (drop start docs)
    → fits σ (drop start docs) d ≡ false → IsCutAt σ (docs ++ d ∷ []) (closed ++ len ∷ []) (length docs)
cut_new σ docs d closed start len c l e = record {
  earlier = c.earlier ++ drop start docs ∷ [];
  cut = cut_push σ docs d ∙ ap (λ x. with_doc σ x d) c.cut ∙ with_doc-new σ c.earlier (drop start docs) d e
      ∙ ap (λ x. (c.earlier ++ drop start docs ∷ []) ++ x ∷ []) (sym (drop_last docs d (length docs) refl));
  lengths = ap (λ x. closed ++ x ∷ []) l ∙ ap (λ x. x ++ length (drop start docs) ∷ []) c.lengths ∙ sym (map-append length c.earlier (drop start docs ∷ []));
}

pub all_lengths : (σ : Setting) (docs : List Doc) (closed : List ℕ) (start : ℕ) → IsCutAt σ docs closed start → closed ++ (length docs - start) ∷ [] ≡ map length (cut σ docs)
all_lengths σ docs closed start c =
    ap (λ x. x ++ (length docs - start) ∷ []) c.lengths ∙ ap (λ n. map length c.earlier ++ n ∷ []) (sym (length-drop start docs))
    ∙ sym (ap (map length) c.cut ∙ map-append length c.earlier (drop start docs ∷ []))

pub begun_is : (σ : Setting) (docs : List Doc) (closed : List ℕ) (start : ℕ) → IsCutAt σ docs closed start → length closed + 1 ≡ length (cut σ docs)
begun_is σ docs closed start c = omega (arith, ap length c.cut, length-append c.earlier (drop start docs ∷ []), ap length c.lengths, length-map c.earlier (length {A = Doc}))

pub last_is : (σ : Setting) (docs : List Doc) (closed : List ℕ) (start : ℕ) → IsCutAt σ docs closed start → last_of (cut σ docs) ≡ drop start docs
last_is σ docs closed start c = ap last_of c.cut ∙ last_of-push c.earlier (drop start docs)

none_of : (docs : List Doc) → length docs ≡ 0 → docs ≡ []
none_of [] e = refl
none_of (d ∷ ds) e = absurd (omega arith)

pub cut_none : (σ : Setting) (docs : List Doc) → length docs ≡ 0 → cut σ docs ≡ []
unfolding cut
cut_none σ docs e = ap (cut σ) (none_of docs e)

pub none_dropped : (docs : List Doc) (n : ℕ) → length docs ≡ 0 → [] ≡ drop n docs
none_dropped docs n e = sym (ap (drop n) (none_of docs e) ∙ drop_nil n)
  where
    drop_nil : (n : ℕ) → drop {A = Doc} n [] ≡ []
    drop_nil zero = refl
    drop_nil (suc n) = refl

pub room_further : (σ : Setting) (docs : List Doc) (d : Doc) (begun : ℕ) → begun ≡ length (cut σ docs) → begun < σ.segments → true ≡ has_room σ docs d
unfolding has_room
room_further σ docs d begun e lt =
    let free : nat_lt (length (cut σ docs)) σ.segments ≡ true = grind (arith, nat_tests) in
    rw free refl

pub room_last : (σ : Setting) (docs : List Doc) (d : Doc) (begun start : ℕ) → begun ≡ length (cut σ docs) → σ.segments ≤ begun
    → last_of (cut σ docs) ≡ drop start docs → fits σ (drop start docs) d ≡ has_room σ docs d
unfolding has_room
room_last σ docs d begun start e le last =
    let full : nat_lt (length (cut σ docs)) σ.segments ≡ false = grind (arith, nat_tests) in
    rw (full, last) refl

-- the first n documents, and the part of them from a place on
pub front_first : (docs : List Doc) → 0 < length docs → (d : Doc) × (take 1 docs ≡ d ∷ [])
front_first [] lt = absurd (omega arith)
front_first (d ∷ ds) lt = (d, refl)

pub front_from : (docs : List Doc) (start n : ℕ) → start ≤ n → take (n - start) (drop start docs) ≡ drop start (take n docs)
front_from docs start n le =
    let e : start + (n - start) ≡ n = omega arith in
    sym (ap (λ m. drop start (take m docs)) (sym e) ∙ drop-take start (n - start) docs)
