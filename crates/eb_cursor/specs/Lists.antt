-- Falling lists of postings.
use Rattle.std.specs.Prelude.{◌≡◌, ℕ, ◌<◌, List, [], ◌∷◌, cond, ltb, MatchOption, Option}
use Rattle.eb_base.specs.Term.{Term}
use Rattle.eb_base.specs.Document.{Doc}
use Rattle.eb_place.specs.declared.moment.Moment.{Moment}
use Rattle.eb_chain.specs.Chains.{Stands}
use Rattle.eb_block.specs.Reading.{ListStands}
use Rattle.eb_cursor.specs.Accepted.{AreFirst}
use Rattle.eb_cursor.specs.declared.posting_list.PostingList.{PostingList}
use Rattle.eb_cursor.specs.declared.posting_list.PostingList.TheVariants.{Empty, Live, Packed}

-- the postings that a list still gives at a moment and later
abbrev pub list_gives : Moment → PostingList → List ℕ → Type 0
list_gives m Empty xs = xs ≡ []
list_gives m (Live c) xs = (s : ℕ) × (t : Term) × (opened : ℕ) × Stands m s t c opened xs
list_gives m (Packed p) xs = (s : ℕ) × (t : Term) × (budget : ℕ) × ListStands m s t p xs budget

-- what cursors read: which postings a list still gives, and which documents are the first of a
-- segment
pub record Gives : Type 1 where
  pub lists : PostingList → List ℕ → Type 0
  pub firsts : ℕ → List Doc → Type 0

-- what they read at a moment and later
abbrev pub gives : Moment → Gives
gives m = record { lists = list_gives m; firsts = AreFirst m }

-- what a call returned: nothing where nothing was left, else the first of what was left
abbrev pub Gave : List ℕ → PostingList → Option ℕ → Moment → Type 0
Gave xs list r n = MatchOption r (xs ≡ []) (λ p. (ys : List ℕ) × (xs ≡ p ∷ ys) × list_gives n list ys)

-- what is left of a falling list below an end
abbrev pub from_below : ℕ → List ℕ → List ℕ
from_below m [] = []
from_below m (z ∷ zs) = cond (ltb z m) (z ∷ zs) (from_below m zs)

-- the first is below the number
abbrev pub IsUnder : ℕ → List ℕ → Type 0
IsUnder m [] = Unit {0}
IsUnder m (z ∷ zs) = z < m

-- each is below the one before it
abbrev pub IsDescending : List ℕ → Type 0
IsDescending [] = Unit {0}
IsDescending (z ∷ zs) = IsUnder z zs × IsDescending zs

-- at some moment that the port stands for, the list still gives some postings
abbrev pub CanGive : {S : Type 0} → (S → Moment → Type 0) → S → PostingList → Type 0
CanGive stands s list = (m : Moment) × (xs : List ℕ) × stands s m × list_gives m list xs
