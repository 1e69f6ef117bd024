-- A backward walk over the words of a segment's pools, and what it reads.
use Rattle.std.specs.Prelude.{◌≡◌, ℕ, suc, ◌+◌, ◌-◌, ◌&&◌, Bool, List, [], ◌∷◌, ◌++◌, reverse, All, if◌then◌else◌, ◌==◌, nat_le}
use Rattle.eb_base.specs.Term.{Term}
use Rattle.eb_place.specs.declared.moment.Moment.{Moment}
use Rattle.eb_place.specs.Layout.{place, pool_slot, address_pool, address_offset}
use Rattle.eb_place.specs.Layout.Slot.{slot}
use Rattle.eb_place.specs.Layout.Region.{tail_region}
use Rattle.eb_place.specs.Moments.{word, IsMoment}
use Rattle.eb_place.specs.Later.{IsNotBefore}
use Rattle.eb_place.specs.Seen.{seen}
use Rattle.eb_place.specs.Walk.{IsTerm}

-- the word of segment s that an address names, at a moment
abbrev pub pool_word : Moment → ℕ → ℕ → ℕ
pool_word m s at = word m (place m.setting (pool_slot s at))

-- the word of a term's tail, by the term's number
abbrev pub tail_word : Moment → ℕ → ℕ → ℕ
tail_word m s k = word m (place m.setting (slot s tail_region k))

-- the posting at this address is the first of a slice that has a link
abbrev pub is_first_linked : ℕ → Bool
is_first_linked at = nat_le 1 (address_pool at) && (address_offset at == 1)

-- from an address, one more than the address where the walk goes on, or 0 where it ends: it ends at
-- offset 0 of pool 0; from the first posting of a linked slice it goes where the link says; else
-- one place back
abbrev pub goes_on : (ℕ → ℕ) → ℕ → ℕ
goes_on words at = if (address_pool at == 0) && (address_offset at == 0) then 0 else if is_first_linked at then (words (at - 1) + 1) else at

-- the addresses that the walk reads there: the one of the posting, and the one of the link
abbrev pub reads : ℕ → List ℕ
reads at = at ∷ (if is_first_linked at then ((at - 1) ∷ []) else [])

-- a walk from a tail word: the addresses that it reads, and the postings that it gives
pub data IsWalk (words : ℕ → ℕ) : ℕ → List ℕ → List ℕ → Type 0 where
  ends : IsWalk words 0 [] []
  gives : {at : ℕ} {addresses postings : List ℕ} → IsWalk words (goes_on words at) addresses postings → IsWalk words (suc at) (reads at ++ addresses) (words at ∷ postings)

-- from the tail word of a term at a moment a walk gives the reverse of what is seen of it, and each
-- word that it reads has the same value in every later moment
pub record WalkStays (m n : Moment) (s : ℕ) (t : Term) (k : ℕ) : Type 0 where
  pub addresses : List ℕ
  pub walk : IsWalk (pool_word m s) (tail_word m s k) addresses (reverse (seen m s t))
  pub stay : All (λ at. pool_word n s at ≡ pool_word m s at) addresses

-- reached words stay
abbrev pub ReachedWordsStay : Type 0
ReachedWordsStay = (m n : Moment) (s : ℕ) (t : Term) (k : ℕ) → IsMoment m → IsMoment n → IsNotBefore n m → IsTerm m s t k → WalkStays m n s t k
