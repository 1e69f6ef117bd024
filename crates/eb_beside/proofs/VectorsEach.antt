-- What may be called at which place, and what the calls leave there, of two elements whose places
-- are counted from 3.
use Rattle.std.proofs.Common.{◌≡◌, ℕ, ◌+◌, [], ◌∷◌, arith}
use Rattle.eb_beside.specs.Each.{AcceptsFrom, ChangesFrom}
use denote.Ref.{MutBor}
use denote.Param.Members.{Shared}

-- may be called where the element is 2 above its place, and adds the place to it
abbrev adds : Shared (Unit {0}) (ℕ × (MutBor ℕ × Unit {0})) ((Unit {0}) × (MutBor ℕ × Unit {0}))
adds = record { pre = λ f a. a.1.0.now ≡ a.0 + 2; post = λ f a r. r.1.0.now ≡ a.1.0.now + a.0; steps = λ f a r g. r.1.0.now ≡ a.1.0.now + a.0 }

module _ (at : ℕ → MutBor ℕ) (is : (n : ℕ) → (at n).now ≡ n) where
  accepts_both : AcceptsFrom adds tt 3 (5 ∷ 6 ∷ [])
  unfolding AcceptsFrom
  accepts_both = (λ p e. e, (λ p e. e, tt))

  not_at_the_same_place : AcceptsFrom adds tt 3 (5 ∷ 5 ∷ []) → ⊥
  unfolding AcceptsFrom
  not_at_the_same_place h = omega (arith, h.1.0 (at 5) (is 5), is 5)

  not_from_nought : AcceptsFrom adds tt 0 (5 ∷ 6 ∷ []) → ⊥
  unfolding AcceptsFrom
  not_from_nought h = omega (arith, h.0 (at 5) (is 5), is 5)

  changes_both : ChangesFrom adds tt 3 (5 ∷ 7 ∷ []) (8 ∷ 11 ∷ [])
  unfolding ChangesFrom
  changes_both = (
    record { argument = at 5; argument_is = is 5; after_call = at 8; call = omega (arith, is 5, is 8); left = is 8 },
    (record { argument = at 7; argument_is = is 7; after_call = at 11; call = omega (arith, is 7, is 11); left = is 11 }, tt),
  )

  none_left_out : ChangesFrom adds tt 3 (5 ∷ 7 ∷ []) (8 ∷ []) → ⊥
  unfolding ChangesFrom
  none_left_out h = h.1

  not_the_first_place_twice : ChangesFrom adds tt 3 (5 ∷ 7 ∷ []) (8 ∷ 10 ∷ []) → ⊥
  unfolding ChangesFrom
  not_the_first_place_twice h =
      let c = h.1.0 in
      let called : c.after_call.now ≡ c.argument.now + 4 = c.call in
      omega (arith, called, c.argument_is, c.left)
