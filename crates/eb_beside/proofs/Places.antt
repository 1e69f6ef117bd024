-- Calls at each place, counted from a number, and by the elements.
use Rattle.std.proofs.Common.{◌≡◌, ℕ, ◌+◌, ◌<◌, List, [], ◌∷◌, length, slice_index_or, suc, zero, sym, subst, arith}
use Rattle.std.specs.Fork.{AcceptsAt, ChangesAt}
use Rattle.eb_beside.specs.Each.{AcceptsFrom, ChangesFrom}
use denote.Ref.{MutBor}
use denote.Param.Members.{Shared}

module _ {F T : Type 0} (g : Shared F (ℕ × (MutBor T × Unit {0})) ((Unit {0}) × (MutBor T × Unit {0}))) (f : F) where
  pub accepts_first : (from : ℕ) (x : T) (xs all : List T) → all ≡ x ∷ xs → AcceptsFrom g f from all → AcceptsFrom g f from (x ∷ [])
  unfolding AcceptsFrom
  accepts_first from x xs all is accepts = ((subst (AcceptsFrom g f from) is accepts).0, tt)

  pub accepts_rest : (from : ℕ) (x : T) (xs all : List T) → all ≡ x ∷ xs → AcceptsFrom g f from all → AcceptsFrom g f (from + 1) xs
  unfolding AcceptsFrom
  accepts_rest from x xs all is accepts = (subst (AcceptsFrom g f from) is accepts).1

  pub accepts_one : (from : ℕ) (x : T) → AcceptsFrom g f from (x ∷ []) → AcceptsAt g f from x
  unfolding AcceptsFrom
  accepts_one from x accepts = accepts.0

  pub changes_one : (from : ℕ) (x y : T) → ChangesAt g f from x y → ChangesFrom g f from (x ∷ []) (y ∷ [])
  unfolding ChangesFrom
  changes_one from x y changes = (changes, tt)

  pub changes_none : (from : ℕ) (all left : List T) → length all ≡ 0 → ChangesFrom g f from all left
  unfolding ChangesFrom
  changes_none from [] left is = tt
  changes_none from (x ∷ xs) left is = (let no : ⊥ = omega arith in elim no [ ])

  pub changes_both : (from : ℕ) (x y : T) (xs ys all : List T) → all ≡ x ∷ xs → ChangesFrom g f from (x ∷ []) (y ∷ []) → ChangesFrom g f (from + 1) xs ys
      → ChangesFrom g f from all (y ∷ ys)
  unfolding ChangesFrom
  changes_both from x y xs ys all is first rest = subst (λ zs. ChangesFrom g f from zs (y ∷ ys)) (sym is) (first.0, rest)

  -- f may be called at each place of the whole list; so from the first on
  pub accepts_from : (from : ℕ) (xs : List T) → ((i : ℕ) (p : MutBor T) → i < length xs → p.now ≡ slice_index_or xs i p.now → g.pre f (from + i, (p, tt)))
      → AcceptsFrom g f from xs
  unfolding AcceptsFrom
  accepts_from from [] may = tt
  accepts_from from (x ∷ xs) may = (
    (λ p is. subst (λ n. g.pre f (n, (p, tt))) {x = from + 0} (omega arith) (may 0 p (omega arith) is)),
    accepts_from (from + 1) xs (λ i p l is. subst (λ n. g.pre f (n, (p, tt))) {x = from + suc i} (omega arith) (may (suc i) p (omega arith) is)),
  )

  pub changes_each : (from : ℕ) (xs ys : List T) → ChangesFrom g f from xs ys → (i : ℕ) (d : T) → i < length xs
      → ChangesAt g f (from + i) (slice_index_or xs i d) (slice_index_or ys i d)
  unfolding ChangesFrom
  changes_each from [] ys all i d l = (let no : ⊥ = omega arith in elim no [ ])
  changes_each from (x ∷ xs) [] all i d l = elim all [ ]
  changes_each from (x ∷ xs) (y ∷ ys) all zero d l = subst (λ n. ChangesAt g f n x y) {x = from} (omega arith) all.0
  changes_each from (x ∷ xs) (y ∷ ys) all (suc i) d l =
      subst (λ n. ChangesAt g f n (slice_index_or xs i d) (slice_index_or ys i d)) {x = from + 1 + i} (omega arith) (changes_each (from + 1) xs ys all.1 i d (omega arith))
