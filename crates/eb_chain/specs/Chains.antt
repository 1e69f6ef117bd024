-- Which postings a chain still has to give, and how many loads a call makes.
use Rattle.std.specs.Prelude.{◌≡◌, ℕ, zero, suc, ◌-◌, ◌<◌, ◌≤◌, ◌&&◌, List, [], ◌∷◌, length, take, reverse, Option, Some, None, if◌then◌else◌, nat_lt, nat_le}
use Rattle.eb_base.specs.Term.{Term}
use Rattle.eb_place.specs.declared.moment.Moment.{Moment}
use Rattle.eb_place.specs.Layout.{place, pool_slot, address_pool, address_offset}
use Rattle.eb_place.specs.Postings.{postings}
use Rattle.eb_place.specs.Address.{begins, pool_at}
use Rattle.eb_place.specs.Seen.{segment, seen_count}
use Rattle.eb_place.specs.Walk.{IsAddress, IsLink, posting_in}
use Rattle.eb_chain.specs.declared.chain.Way.{Way}
use Rattle.eb_chain.specs.declared.chain.Way.TheVariants.{End, At, Link}
use Rattle.eb_chain.specs.declared.chain.Chain.{Chain}

-- the loads of a call, where `opened` postings were to be given at first and this many are left:
-- none after the oldest; one for a posting; one more where the posting given before begins a slice
-- that has a link
unfoldable pub next_loads : ℕ → ℕ → ℕ
next_loads opened zero = 0
next_loads opened (suc f) = if nat_lt (suc f) opened && begins (suc f) && nat_le 1 (pool_at (suc f)) then 2 else 1

-- the loads to the posting that this way leads to
abbrev pub way_loads : Way → ℕ
way_loads End = 0
way_loads (At a) = 1
way_loads (Link a) = 2

-- the way to the newest of the f oldest postings
abbrev pub IsWay : Moment → ℕ → Term → ℕ → Way → Type 0
IsWay m s t zero w = w ≡ End
IsWay m s t (suc f) End = ⊥
IsWay m s t (suc f) (At a) = IsAddress m s t f a
IsWay m s t (suc f) (Link a) = IsLink m s t f a

-- of the postings of the term in segment s the chain was opened for the oldest `opened`, which are
-- seen; it has still to give `rest`, the oldest of them, newest first
pub record Stands (m : Moment) (s : ℕ) (t : Term) (c : Chain) (opened : ℕ) (rest : List ℕ) : Type 0 where
  pub inside : s < m.setting.segments
  pub of_segment : c.segment ≡ s
  pub seen : opened ≤ seen_count m s t
  pub left : length rest ≤ opened
  pub postings : rest ≡ reverse (take (length rest) (postings t (segment m s)))
  pub way : IsWay m s t (length rest) c.way
  pub loads : way_loads c.way ≡ next_loads opened (length rest)

-- what a call returned: the newest of what was left, none after the oldest
abbrev pub Given : Moment → ℕ → Term → Chain → ℕ → List ℕ → Option ℕ → Type 0
Given m s t c opened [] r = (r ≡ None) × Stands m s t c opened []
Given m s t c opened (x ∷ xs) r = (r ≡ Some x) × Stands m s t c opened xs

-- ---- the parts of a walk

-- the way to the posting before that of an address
pub record IsWayBefore (a : ℕ) (w : Way) : Type 0 where
  pub first : address_pool a ≡ 0 → address_offset a ≡ 0 → w ≡ End
  pub second : address_pool a ≡ 0 → 1 ≤ address_offset a → w ≡ At (a - 1)
  pub linked : 1 ≤ address_pool a → address_offset a ≡ 1 → w ≡ Link (a - 1)
  pub within : 2 ≤ address_offset a → w ≡ At (a - 1)

-- posting f of the term, which is seen, is at address a, whose word is at this place
pub record IsPlaceOf (m : Moment) (s : ℕ) (t : Term) (f a at : ℕ) : Type 0 where
  pub address : IsAddress m s t f a
  pub is : at ≡ place m.setting (pool_slot s a)

-- posting f of the term, which is seen, and its address
pub record IsPosting (m : Moment) (s : ℕ) (t : Term) (f at value : ℕ) : Type 0 where
  pub address : IsAddress m s t f at
  pub is : value ≡ posting_in m s t f

-- the way from a tail word
abbrev pub IsWayOf : ℕ → Way → Type 0
IsWayOf zero w = w ≡ End
IsWayOf (suc a) w = w ≡ At a
