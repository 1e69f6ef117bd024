-- What a search has found.
use Rattle.std.specs.Prelude.{◌≡◌, ℕ, ◌-◌, Bool, List, ◌++◌, length}
use Rattle.eb_base.specs.Query.{Tree}
use Rattle.eb_base.specs.Match.{answer}
use Rattle.eb_place.specs.declared.moment.Moment.{Moment}
use Rattle.eb_place.specs.Later.{IsNotBefore}
use Rattle.eb_place.specs.Room.{cut}
use Rattle.eb_search.specs.Visible.{AreNone}

-- a search that began at moment m and ended at n: at a moment from m to n it loaded the count of
-- accepted documents, and the ids are the answer over exactly the documents accepted then
pub record Searched (m n : Moment) (q : Tree) (k counted : ℕ) (found : List ℕ) : Type 0 where
  pub loaded : Moment
  pub after : IsNotBefore loaded m
  pub before : IsNotBefore n loaded
  pub count : counted ≡ length loaded.documents.accepted
  pub ids : found ≡ answer q k loaded.documents.accepted

-- the same where the frame held ids before: those that are found come after them, as many as it
-- still took
pub record SearchedOn (m n : Moment) (q : Tree) (k counted : ℕ) (held found : List ℕ) : Type 0 where
  pub loaded : Moment
  pub after : IsNotBefore loaded m
  pub before : IsNotBefore n loaded
  pub count : counted ≡ length loaded.documents.accepted
  pub ids : found ≡ held ++ answer q (k - length held) loaded.documents.accepted

-- the same where segments were skipped of which the list says false: the ids are the answer where
-- none of their documents matches
pub record SearchedLikely (m n : Moment) (q : Tree) (k : ℕ) (likely : List Bool) (counted : ℕ) (found : List ℕ) : Type 0 where
  pub loaded : Moment
  pub after : IsNotBefore loaded m
  pub before : IsNotBefore n loaded
  pub count : counted ≡ length loaded.documents.accepted
  pub ids : AreNone q (cut loaded.setting loaded.documents.accepted) likely → found ≡ answer q k loaded.documents.accepted

-- the same where the frame held ids before
pub record SearchedOnLikely (m n : Moment) (q : Tree) (k : ℕ) (likely : List Bool) (counted : ℕ) (held found : List ℕ) : Type 0 where
  pub loaded : Moment
  pub after : IsNotBefore loaded m
  pub before : IsNotBefore n loaded
  pub count : counted ≡ length loaded.documents.accepted
  pub ids : AreNone q (cut loaded.setting loaded.documents.accepted) likely → found ≡ held ++ answer q (k - length held) loaded.documents.accepted
