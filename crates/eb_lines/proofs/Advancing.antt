-- How far some lines come, with one more line.
use Rattle.std.proofs.Common.{◌≡◌, ℕ, ◌+◌, ◌≤◌, Bool, List, [], ◌∷◌, ◌++◌, length, take, drop, count_by, flat_map, sym, ap, ◌∙◌, arith, append-nil, zero-add, length-append}
use Rattle.std.proofs.lemmas.Grind.{flat_map-append}
use Rattle.std.proofs.lemmas.List.{take-append-drop}
use Rattle.std.proofs.lemmas.List.Sums.{sum_by-append}
use Rattle.std.proofs.Math.Seq.{take-length}
use Rattle.eb_lines.specs.Reading.{Reading, blank, document, query, refused, watch}
use Rattle.eb_lines.specs.Progress.{documents_in, is_query, is_refused, accepted, queries, refusals, told, one_if}

pub flat_map-push : {A B : Type 0} (f : A → List B) (xs : List A) (x : A) → flat_map f (xs ++ x ∷ []) ≡ flat_map f xs ++ f x
flat_map-push f xs x = flat_map-append f xs (x ∷ []) ∙ ap (λ ys. flat_map f xs ++ ys) (append-nil (f x))

pub accepted-push : (rs : List Reading) (r : Reading) → accepted (rs ++ r ∷ []) ≡ accepted rs ++ documents_in r
unfolding accepted
accepted-push rs r = flat_map-push documents_in rs r

pub accepted-append : (rs ss : List Reading) → accepted (rs ++ ss) ≡ accepted rs ++ accepted ss
unfolding accepted
accepted-append rs ss = flat_map-append documents_in rs ss

documents_one : (r : Reading) → length (documents_in r) ≤ 1
documents_one blank = omega arith
documents_one (document d) = omega arith
documents_one (query k q) = omega arith
documents_one (refused x) = omega arith
documents_one (watch n q) = omega arith

-- no more documents than lines
pub accepted_few : (rs : List Reading) → length (accepted rs) ≤ length rs
unfolding accepted
accepted_few [] = omega arith
accepted_few (r ∷ rs) = omega (arith, length-append (documents_in r) (accepted rs), documents_one r, accepted_few rs)

pub count_push : {A : Type 0} (p : A → Bool) (xs : List A) (x : A) → count_by p (xs ++ x ∷ []) ≡ count_by p xs + one_if (p x)
count_push p xs x = sum_by-append (λ y. one_if (p y)) xs (x ∷ []) ∙ ap (λ n. count_by p xs + n) (zero-add (one_if (p x)))

pub queries-push : (rs : List Reading) (r : Reading) → queries (rs ++ r ∷ []) ≡ queries rs + one_if (is_query r)
unfolding queries
queries-push rs r = count_push is_query rs r

pub refusals-push : (rs : List Reading) (r : Reading) → refusals (rs ++ r ∷ []) ≡ refusals rs + one_if (is_refused r)
unfolding refusals
refusals-push rs r = count_push is_refused rs r

-- ---- what a line sees

pub told-length : (rs : List Reading) → told rs (length rs) ≡ length (accepted rs)
unfolding told
told-length rs = ap (λ xs. length (accepted xs)) (take-length rs)

pub told_within : (rs : List Reading) (j : ℕ) → told rs j ≤ length (accepted rs)
unfolding told
told_within rs j =
    let parts = ap length (ap accepted (sym (take-append-drop j rs)) ∙ accepted-append (take j rs) (drop j rs)) in
    omega (arith, parts, length-append (accepted (take j rs)) (accepted (drop j rs)))
