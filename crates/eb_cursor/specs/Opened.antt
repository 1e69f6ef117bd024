-- What opening a list gives.
use Rattle.std.specs.Prelude.{◌≡◌, ℕ, ◌*◌, Bool, true, List, length}
use Rattle.eb_base.specs.Document.{Doc}
use Rattle.eb_place.specs.Postings.{places}
use Rattle.eb_place.specs.declared.moment.Moment.{Moment}
use Rattle.eb_place.specs.PackedLists.{IsConverted}
use Rattle.eb_cursor.specs.Accepted.{AreFirst}
use Rattle.eb_cursor.specs.Lists.{list_gives, IsDescending, from_below}
use Rattle.eb_cursor.specs.Tops.{below}
use Rattle.eb_cursor.specs.Posted.{is_posting}
use Rattle.eb_cursor.specs.declared.posting_list.PostingList.{PostingList}

-- the first accepted documents of the segment can be read: where its packed lists are read, it is
-- converted
pub record CanRead (m : Moment) (s : ℕ) (docs : List Doc) (packed : Bool) : Type 0 where
  pub first : AreFirst m s docs
  pub converted : packed ≡ true → IsConverted m s

-- the list gives all postings of the term in these documents, and above them what came since
pub record Opened (m : Moment) (docs : List Doc) (t : List ℕ) (list : PostingList) : Type 0 where
  pub postings : List ℕ
  pub told : list_gives m list postings
  pub falls : IsDescending postings
  pub all : from_below (places * length docs) postings ≡ below (is_posting docs t) (places * length docs)

-- at some moment that the port stands for, some first accepted documents of the segment can be read
abbrev pub CanOpen : {S : Type 0} → (S → Moment → Type 0) → S → ℕ → Bool → Type 0
CanOpen stands s segment packed = (m : Moment) × (docs : List Doc) × stands s m × CanRead m segment docs packed
