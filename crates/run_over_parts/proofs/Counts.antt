-- A count over the parts of a history is the count over it.
use Rattle.std.proofs.Common.{◌≡◌, ℕ, zero, suc, ◌+◌, ◌%◌, ◌<◌, ◌≤◌, ◌==◌, leb, nat_lt, ◌&&◌, cond, inl, inr, Bool, true, false, List, [], ◌∷◌}
use Rattle.std.proofs.Common.{map, get_or, refl, ap, sym, ◌∙◌, arith}
use Rattle.std.proofs.lemmas.Bool.Decides.{nat_tests}
use Rattle.std.specs.Prelude.{filter}
use Rattle.std.specs.List.{range_with_len, count_by}
use Rattle.std.proofs.lemmas.Bool.{cases_Bool}
use Rattle.std.proofs.lemmas.List.{ext_get_or}
use Rattle.std.proofs.Math.Nat.{mod-lt}
use Rattle.eb_base.specs.Document.{Doc}
use Rattle.eb_base.specs.Match.{is_match}
use Rattle.eb_base.specs.Query.{Tree}
use Rattle.eb_blend.specs.Counted.{all_of}
use Rattle.eb_blend.specs.Laws.{part, cut_into}
use Rattle.eb_blend.specs.Parts.{AreFronts, history}
use Rattle.eb_count.specs.Counts.{is_in_bucket}
use Rattle.eb_count.specs.Tallies.{Numbers, raised, HasCounted}
use Rattle.eb_count.proofs.Counting.{count_cons, count_append}
use Rattle.eb_place.proofs.Prefixes.{prefix_whole, prefix_length}

-- ---- counts document by document

count_sum : (f g h : Doc → Bool) → ((d : Doc) → cond (f d) 1 0 + cond (g d) 1 0 ≡ cond (h d) 1 0) → (docs : List Doc) → count_by f docs + count_by g docs ≡ count_by h docs
count_sum f g h one [] = refl
count_sum f g h one (d ∷ docs) = omega (arith, count_cons f d docs, count_cons g d docs, count_cons h d docs, one d, count_sum f g h one docs)

count_same : (f g : Doc → Bool) → ((d : Doc) → f d ≡ g d) → (docs : List Doc) → count_by f docs ≡ count_by g docs
count_same f g same [] = refl
count_same f g same (d ∷ docs) =
    let one : ◌≡◌ {A = ℕ} (cond (f d) 1 0) (cond (g d) 1 0) = ap (λ (b : Bool). cond b 1 0) (same d) in
    omega (arith, count_cons f d docs, count_cons g d docs, one, count_same f g same docs)

count_none : (docs : List Doc) → count_by (λ (d : Doc). false) docs ≡ 0
count_none [] = refl
count_none (d ∷ docs) = omega (arith, count_cons (λ (x : Doc). false) d docs, count_none docs)

count_filter : (f r : Doc → Bool) (docs : List Doc) → count_by f (filter r docs) ≡ count_by (λ d. f d && r d) docs
count_filter f r [] = refl
count_filter f r (d ∷ docs) = go (count_filter f r docs) (r d) refl
  where
    go : count_by f (filter r docs) ≡ count_by (λ x. f x && r x) docs → (b : Bool) → r d ≡ b
        → count_by f (cond b (d ∷ filter r docs) (filter r docs)) ≡ count_by (λ x. f x && r x) (d ∷ docs)
    go rest true e =
        let own : ◌≡◌ {A = ℕ} (cond (f d && r d) 1 0) (cond (f d) 1 0) = (elim (cases_Bool (f d)) [ inl y ↦ rw (y, e) refl | inr n ↦ rw n refl ]) in
        omega (arith, count_cons f d (filter r docs), count_cons (λ x. f x && r x) d docs, own, rest)
    go rest false e =
        let own : ◌≡◌ {A = ℕ} (cond (f d && r d) 1 0) 0 = (elim (cases_Bool (f d)) [ inl y ↦ rw (y, e) refl | inr n ↦ rw n refl ]) in
        omega (arith, count_cons (λ x. f x && r x) d docs, own, rest)

-- ---- the parts from one of them on

abbrev lies : ℕ → ℕ → ℕ → Bool
lies a n x = leb a x && nat_lt x (a + n)

lies_none : (a x : ℕ) → lies a 0 x ≡ false
lies_none a x = grind (arith, nat_tests)

lies_one : (b : Bool) (a n x : ℕ) → cond (b && (x == a)) 1 0 + cond (b && lies (a + 1) n x) 1 0 ≡ cond (b && lies a (suc n) x) 1 0
lies_one false a n x = refl
lies_one true a n x = grind (arith, nat_tests)

lies_all : (n x : ℕ) → x < n → lies 0 n x ≡ true
lies_all n x lt = grind (arith, nat_tests)

from_part : (f : Doc → Bool) (parts a n : ℕ) (docs : List Doc) → count_by f (all_of (map (part parts docs) (range_with_len a n))) ≡ count_by (λ d. f d && lies a n (d.id % parts)) docs
from_part f parts a zero docs =
    let off : (d : Doc) → (f d && lies a 0 (d.id % parts)) ≡ false = λ d. (elim (cases_Bool (f d)) [ inl y ↦ rw (y, lies_none a (d.id % parts)) refl | inr m ↦ rw m refl ]) in
    sym (count_same (λ d. f d && lies a 0 (d.id % parts)) (λ d. false) off docs ∙ count_none docs)
from_part f parts a (suc n) docs =
    let own = count_filter f (λ d. d.id % parts == a) docs in
    let rest = from_part f parts (a + 1) n docs in
    let both = count_append f (all_of (map (part parts docs) (range_with_len (a + 1) n))) (part parts docs a) in
    let sums = count_sum (λ d. f d && (d.id % parts == a)) (λ d. f d && lies (a + 1) n (d.id % parts)) (λ d. f d && lies a (suc n) (d.id % parts))
    (λ d. lies_one (f d) a n (d.id % parts)) docs in
    omega (arith, own, rest, both, sums)

all_counted : (f : Doc → Bool) (parts : ℕ) (docs : List Doc) → 1 ≤ parts → count_by f (all_of (cut_into parts docs)) ≡ count_by f docs
all_counted f parts docs some =
    let on : (d : Doc) → (f d && lies 0 parts (d.id % parts)) ≡ f d = λ d.
    (elim (cases_Bool (f d)) [ inl y ↦ rw (y, lies_all parts (d.id % parts) (mod-lt d.id some)) refl | inr m ↦ rw m refl ]) in
    from_part f parts 0 parts docs ∙ count_same (λ d. f d && lies 0 parts (d.id % parts)) f on docs

pub parts_counted : (q : Tree) (parts : ℕ) (docs : List Doc) (old new : Numbers) → 1 ≤ parts → HasCounted q (all_of (cut_into parts docs)) old new → HasCounted q docs old new
parts_counted q parts docs old new some c = record {
  start = c.start;
  width = c.width;
  total = c.total ∙ ap (raised old.total) (all_counted (is_match q) parts docs some);
  long = c.long;
  buckets = λ i l. c.buckets i l ∙ ap (raised (get_or old.buckets i 0)) (all_counted (λ d. is_match q d && is_in_bucket old.start old.width i d.id) parts docs some);
}

-- ---- prefixes of one another

pub same_histories : (hs all : List (List Doc)) → AreFronts hs all → AreFronts all hs → hs ≡ all
same_histories hs all f g =
    ext_get_or [] hs all f.parts
    (λ p l. prefix_whole (history hs p) (history all p) (f.each p) (prefix_length (history all p) (history hs p) (g.each p)))
