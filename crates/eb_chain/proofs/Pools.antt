-- The pool that a walk is in.
use Rattle.std.proofs.Common.{◌≡◌, ℕ, suc, ◌+◌, ◌-◌, ◌*◌, ◌/◌, ◌^◌, ◌<◌, ◌≤◌, List, length, ap, sym, ◌∙◌, subst, arith}
use Rattle.std.proofs.lemmas.Bool.Decides.{nat_tests}
use Rattle.eb_base.specs.Term.{Term}
use Rattle.eb_place.specs.declared.moment.Moment.{Moment}
use Rattle.eb_place.specs.Layout.{slice_bits, address_pool}
use Rattle.eb_place.specs.Address.{pool_at, offset_at}
use Rattle.eb_place.specs.Moments.{IsMoment}
use Rattle.eb_place.specs.Walk.{address_in}
use Rattle.eb_place.proofs.ReaderWords.{Parts, address_parts}
use Rattle.eb_place.proofs.WayBackFromPosting.{told, linked_at}
use Rattle.eb_chain.specs.declared.chain.Way.TheVariants.{End, At, Link}
use Rattle.eb_chain.specs.declared.chain.Chain.{Chain}
use Rattle.eb_chain.specs.Chains.{Stands}
use Rattle.eb_chain.proofs.Walks.{at_of, link_of, end_of}

-- the pools rise with the postings
pool_next : (f : ℕ) → pool_at f ≤ pool_at (suc f)
unfolding pool_at
pool_next f = grind (arith, nat_tests)

-- between the pool of the newest of f postings and that of the posting after it
abbrev pub IsPoolOf : ℕ → ℕ → Type 0
IsPoolOf f pool = (pool_at (f - 1) ≤ pool) × (pool ≤ pool_at f)

first_pool : 0 ≡ pool_at 0
unfolding pool_at
first_pool = grind (arith, nat_tests)

pub pool_at_end : (m : Moment) (s : ℕ) (t : Term) (c : Chain) (opened : ℕ) (rest : List ℕ) → Stands m s t c opened rest → c.way ≡ End → IsPoolOf (length rest) 0
pool_at_end m s t c opened rest h e = let z = end_of m s t (length rest) c.way h.way e in (omega (arith, first_pool, ap (λ k. pool_at (k - 1)) z), omega arith)

pub pool_at_posting : (m : Moment) (s : ℕ) (t : Term) (c : Chain) (opened : ℕ) (rest : List ℕ) (a pool : ℕ)
    → IsMoment m → Stands m s t c opened rest → c.way ≡ At a → pool ≡ address_pool a → IsPoolOf (length rest) pool
pool_at_posting m s t c opened rest a pool is h e p =
    let w = at_of m s t (length rest) c.way a h.way e in
    let f = w.0 in
    let here = w.2 in
    let k = told f a (subst (Parts f) (sym here.is) (address_parts m s t f is here.inside here.reached)) in
    let n : length rest - 1 ≡ f = omega (arith, w.1) in
    (omega (arith, p, k.0, ap pool_at n), omega (arith, p, k.0, pool_next f, ap pool_at w.1))

-- one place back from after the first of a slice the pool is the same
pool_back : (p r a : ℕ) → a ≡ p * 2 ^ 30 + r → r < 2 ^ 30 → 1 ≤ r → (a - 1) / 2 ^ 30 ≡ p
pool_back p r a e l h = omega arith

pub pool_at_link : (m : Moment) (s : ℕ) (t : Term) (c : Chain) (opened : ℕ) (rest : List ℕ) (a pool : ℕ)
    → IsMoment m → Stands m s t c opened rest → c.way ≡ Link a → pool ≡ address_pool a → IsPoolOf (length rest) pool
pool_at_link m s t c opened rest a pool is h e p =
    let w = link_of m s t (length rest) c.way a h.way e in
    let f = w.0 in
    let here = w.2 in
    let parts = address_parts m s t (suc f) is here.inside here.reached in
    let first = linked_at f here.begins in
    let back =
    pool_back (pool_at (suc f)) (parts.slice * 2 ^ slice_bits (pool_at (suc f)) + offset_at (suc f)) (address_in m s t (suc f)) (omega (arith, parts.is)) parts.inside (omega (arith, first.1)) in
    let same : pool ≡ pool_at (suc f) = p ∙ ap (λ x. x / 2 ^ 30) here.is ∙ back in
    let n : length rest - 1 ≡ f = omega (arith, w.1) in
    (omega (arith, same, pool_next f, ap pool_at n), omega (arith, same, ap pool_at w.1))
