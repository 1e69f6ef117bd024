-- When two lists of parts, and two queries of parts, are the same.
use Rattle.std.proofs.Common.{◌≡◌, ◌↔◌, IsTrue, Bool, ℕ, zero, suc, ◌+◌, ◌<◌, length, map, take, get_or, slice_get, Some, arith, rules, List, [], ◌∷◌, refl, ap, sym, ◌∙◌}
use Rattle.eb_base.specs.Query.{Tree, conjunction, disjunction, tree, trees_of, parts_of}
use Rattle.eb_base.specs.declared.query.Query.{Query, And, Or, the_lemmas}
use Rattle.eb_base.specs.declared.query.Queries.{Queries}

trees_same : (xs ys : List Tree) → trees_of xs ≡ trees_of ys → xs ≡ ys
trees_same [] [] e = refl
trees_same [] (y ∷ ys) e = absurd (cc e)
trees_same (x ∷ xs) [] e = absurd (cc e)
trees_same (x ∷ xs) (y ∷ ys) e =
    let h : x ≡ y = cc e in
    let t : trees_of xs ≡ trees_of ys = cc e in
    let r = trees_same xs ys t in
    λ i. h i ∷ r i

tree_And : (qs : Queries) → tree (And qs) ≡ conjunction (trees_of (parts_of qs))
tree_And qs = search (rules, the_lemmas)

tree_Or : (qs : Queries) → tree (Or qs) ≡ disjunction (trees_of (parts_of qs))
tree_Or qs = search (rules, the_lemmas)

pub and_same : (q r : Query) (xs ys : Queries) (b : Bool) → q ≡ And xs → r ≡ And ys → IsTrue b ↔ (parts_of xs ≡ parts_of ys) → IsTrue b ↔ (tree q ≡ tree r)
and_same q r xs ys b is by h =
    let l = ap tree is ∙ tree_And xs in
    let m = ap tree by ∙ tree_And ys in (
      λ t. l ∙ ap (λ (ts : List Tree). conjunction (trees_of ts)) (h.0 t) ∙ sym m,
      λ e. let u : conjunction (trees_of (parts_of xs)) ≡ conjunction (trees_of (parts_of ys)) = sym l ∙ e ∙ m in h.1 (trees_same (parts_of xs) (parts_of ys) (cc u)),
    )

pub or_same : (q r : Query) (xs ys : Queries) (b : Bool) → q ≡ Or xs → r ≡ Or ys → IsTrue b ↔ (parts_of xs ≡ parts_of ys) → IsTrue b ↔ (tree q ≡ tree r)
or_same q r xs ys b is by h =
    let l = ap tree is ∙ tree_Or xs in
    let m = ap tree by ∙ tree_Or ys in (
      λ t. l ∙ ap (λ (ts : List Tree). disjunction (trees_of ts)) (h.0 t) ∙ sym m,
      λ e. let u : disjunction (trees_of (parts_of xs)) ≡ disjunction (trees_of (parts_of ys)) = sym l ∙ e ∙ m in h.1 (trees_same (parts_of xs) (parts_of ys) (cc u)),
    )

pub taken_same : (xs ys : List Query) (n : ℕ) (x : Query) (y : Tree) → n < length xs → x ≡ get_or xs n x → slice_get (map tree ys) n ≡ Some y → tree x ≡ y
    → map tree (take n xs) ≡ map tree (take n ys) → map tree (take (n + 1) xs) ≡ map tree (take (n + 1) ys)
taken_same [] ys n x y h is got same all = absurd (omega arith)
taken_same (a ∷ xs) [] n x y h is got same all = absurd (cc got)
taken_same (a ∷ xs) (b ∷ ys) zero x y h is got same all =
    let e : tree b ≡ y = cc got in
    λ i. (ap tree (sym is) ∙ same ∙ sym e) i ∷ []
taken_same (a ∷ xs) (b ∷ ys) (suc n) x y h is got same all =
    let s : suc n + 1 ≡ suc (n + 1) = omega arith in
    let head : tree a ≡ tree b = cc all in
    let tail : map tree (take n xs) ≡ map tree (take n ys) = cc all in
    let more = taken_same xs ys n x y (omega arith) is got same tail in
    rw s (λ i. head i ∷ more i)
