-- What a search has counted.
use Rattle.std.specs.Prelude.{◌≡◌, ℕ, Bool, length, List}
use Rattle.eb_base.specs.Query.{Tree}
use Rattle.eb_count.specs.Tallies.{Numbers, HasCounted}
use Rattle.eb_place.specs.declared.moment.Moment.{Moment}
use Rattle.eb_place.specs.Later.{IsNotBefore}
use Rattle.eb_place.specs.Room.{cut}
use Rattle.eb_search.specs.Visible.{AreNone}

-- a count that began at moment m and ended at n: at a moment from m to n it loaded the number of
-- accepted documents, and the tally has counted exactly the matches among the documents accepted
-- then
pub record CountedOn (m n : Moment) (q : Tree) (counted : ℕ) (old new : Numbers) : Type 0 where
  pub loaded : Moment
  pub after : IsNotBefore loaded m
  pub before : IsNotBefore n loaded
  pub count : counted ≡ length loaded.documents.accepted
  pub tally : HasCounted q loaded.documents.accepted old new

-- the same where segments were skipped of which the list says false: it holds where none of their
-- documents matches
pub record CountedLikely (m n : Moment) (q : Tree) (likely : List Bool) (counted : ℕ) (old new : Numbers) : Type 0 where
  pub loaded : Moment
  pub after : IsNotBefore loaded m
  pub before : IsNotBefore n loaded
  pub count : counted ≡ length loaded.documents.accepted
  pub tally : AreNone q (cut loaded.setting loaded.documents.accepted) likely → HasCounted q loaded.documents.accepted old new
