-- What is counted of terms and of a segment, one more at a time.
use Rattle.std.proofs.Common.{◌≡◌, ℕ, zero, suc, ◌+◌, ◌*◌, ◌<◌, ◌≤◌, ◌^◌, Bool, true, false, List, [], ◌∷◌, ◌++◌, length, take, drop, get_or}
use Rattle.std.proofs.Common.{sum_by, bytes_eq, refl, sym, ap, ◌∙◌, arith, append_assoc, append-nil, length-append, drop-cons, add-one, cond}
use Rattle.std.specs.Prelude.{nat_le, flat_map}
use Rattle.std.specs.List.{list_any}
use Rattle.std.proofs.lemmas.Bool.{lt-leb}
use Rattle.std.proofs.lemmas.Bool.Decides.{nat_tests}
use Rattle.std.proofs.lemmas.List.{take_more}
use Rattle.std.proofs.Math.ListN.{drop_of_length-le}
use Rattle.std.proofs.Math.Seq.{take-length}
use Rattle.std.proofs.lemmas.List.Sums.{sum_by-append}
use Rattle.eb_base.specs.Document.{Doc, most_tokens, most_bytes}
use Rattle.eb_base.specs.Setting.{Setting}
use Rattle.eb_place.specs.Postings.{count_of, distinct, terms_of, with_term}
use Rattle.eb_place.specs.Room.{text_words, slices, all_slices, holds, fits}
use Rattle.eb_place.proofs.TermCounts.{distinct_push, count_of-cons, count_of-nil}
use Rattle.eb_place.proofs.FitsEmptySegment.{text_cost, all_slices_cost}
use Rattle.eb_plain.specs.TermRoom.{holds_terms}

abbrev pub as_number : Bool → ℕ
as_number b = cond b 1 0

pub count_next : (t u : List ℕ) (ts : List (List ℕ)) (i : ℕ) → i < length ts → u ≡ get_or ts i u
    → count_of t (drop i ts) ≡ as_number (bytes_eq t u) + count_of t (drop (i + 1) ts)
count_next t u ts i lt e = rw (add-one, drop-cons ts i u, ← e) (count_of-cons t u (drop (suc i) ts))

pub count_all : (t : List ℕ) (ts : List (List ℕ)) (i n : ℕ) → length ts ≤ i → n + count_of t (drop i ts) ≡ count_of t ts → n ≡ count_of t ts
count_all t ts i n le e =
    let none : count_of t (drop i ts) ≡ 0 = ap (count_of t) (drop_of_length-le ts le) ∙ count_of-nil t in
    omega (arith, none, e)

pub distinct_next : (u : List ℕ) (ts : List (List ℕ)) (i : ℕ) → i < length ts → u ≡ get_or ts i u
    → distinct (take (i + 1) ts) ≡ with_term (distinct (take i ts)) u
distinct_next u ts i lt e = ap distinct (take_more ts i u lt ∙ ap (λ x. take i ts ++ x ∷ []) (sym e)) ∙ distinct_push (take i ts) u

pub kept : (found : List (List ℕ)) (t : List ℕ) → list_any (bytes_eq t) found ≡ true → found ≡ with_term found t
kept found t e = rw e refl

pub pushed : (found : List (List ℕ)) (t : List ℕ) → list_any (bytes_eq t) found ≡ false → found ++ t ∷ [] ≡ with_term found t
pushed found t e = rw e refl

-- what is distinct is no more than the list
pub text_few : (ts : List (List ℕ)) → length ts ≤ most_tokens * 2 ^ 32 → sum_by length ts ≤ most_bytes * 2 ^ 32 → sum_by text_words (distinct ts) < 2 ^ 60
text_few ts few short = omega (arith, few, short, text_cost ts)

slices_few : (p f : ℕ) → 1 * slices p f ≤ f + 0
slices_few zero f = grind (arith, nat_tests)
slices_few (suc zero) f = grind (arith, nat_tests)
slices_few (suc (suc zero)) f = grind (arith, nat_tests)
slices_few (suc (suc (suc p))) f = grind (arith, nat_tests)

pub all_slices_few : (p : ℕ) (ts : List (List ℕ)) → length ts ≤ most_tokens * 2 ^ 32 → all_slices p ts < 2 ^ 60
all_slices_few p ts few = omega (arith, few, all_slices_cost p 1 (slices_few p) ts)

pub all_taken : (ts : List (List ℕ)) (i : ℕ) → i ≤ length ts → length ts ≤ i → take i ts ≡ ts
all_taken ts i le ge = let e : i ≡ length ts = omega (arith, le, ge) in ap (λ n. take n ts) e ∙ take-length ts

-- ---- the documents of a segment

pub terms_of-push : (docs : List Doc) (d : Doc) → terms_of (docs ++ d ∷ []) ≡ terms_of docs ++ d.terms
unfolding terms_of
terms_of-push [] d = append-nil d.terms
terms_of-push (e ∷ es) d = ap (λ ts. e.terms ++ ts) (terms_of-push es d) ∙ sym (append_assoc e.terms (flat_map (λ (x : Doc). x.terms) es) d.terms)

pub terms_next : (docs : List Doc) (i : ℕ) (d : Doc) → i < length docs → d ≡ get_or docs i d → terms_of (take (i + 1) docs) ≡ terms_of (take i docs) ++ d.terms
terms_next docs i d lt e = ap terms_of (take_more docs i d lt ∙ ap (λ x. take i docs ++ x ∷ []) (sym e)) ∙ terms_of-push (take i docs) d

pub terms_all : (docs : List Doc) (i : ℕ) → i ≤ length docs → length docs ≤ i → terms_of (take i docs) ≡ terms_of docs
terms_all docs i le ge = let e : i ≡ length docs = omega (arith, le, ge) in ap terms_of (ap (λ n. take n docs) e ∙ take-length docs)

pub limits_push : (ts us : List (List ℕ)) (n : ℕ) → length ts ≤ most_tokens * n → sum_by length ts ≤ most_bytes * n → length us ≤ most_tokens → sum_by length us ≤ most_bytes
    → (length (ts ++ us) ≤ most_tokens * (n + 1)) × (sum_by length (ts ++ us) ≤ most_bytes * (n + 1))
limits_push ts us n few short one small = (omega (arith, few, one, length-append ts us), omega (arith, short, small, sum_by-append length ts us))

-- ---- which document fits

leb_from : (a b : ℕ) → a ≤ b → nat_le a b ≡ true
leb_from a b le = grind (arith, nat_tests)

pub fits_full : (σ : Setting) (seg : List Doc) (d : Doc) → σ.docs ≤ length seg → false ≡ fits σ seg d
unfolding holds
fits_full σ seg d full =
    let over : nat_le (length (seg ++ d ∷ [])) σ.docs ≡ false = lt-leb _ _ (omega (arith, full, length-append seg (d ∷ []))) in
    rw over refl

pub fits_is : (σ : Setting) (seg : List Doc) (d : Doc) → length seg < σ.docs → fits σ seg d ≡ holds_terms σ (terms_of seg ++ d.terms)
unfolding holds
fits_is σ seg d room =
    let under : nat_le (length (seg ++ d ∷ [])) σ.docs ≡ true = leb_from _ _ (omega (arith, room, length-append seg (d ∷ []))) in
    rw (under, terms_of-push seg d) refl

pub terms_of-nil : terms_of [] ≡ []
unfolding terms_of
terms_of-nil = refl
