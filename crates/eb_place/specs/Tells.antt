-- How much of a segment is used.
use Rattle.std.specs.Prelude.{◌≡◌, ℕ, [], length, get_or, sum_by}
use Rattle.eb_place.specs.declared.moment.Moment.{Moment}
use Rattle.eb_place.specs.declared.used.Used.{Used}
use Rattle.eb_place.specs.Room.{cut, text_words}
use Rattle.eb_place.specs.Address.{slices_begun}
use Rattle.eb_place.specs.Seen.{entered, tokens_seen}

-- the numbers describe the segment at the moment: its accepted documents, its entered terms and
-- their text words, and the slices of each pool that are begun by postings whose tail stores are
-- done
pub record TellsSegment (u : Used) (m : Moment) (s : ℕ) : Type 0 where
  pub documents : u.documents ≡ length (get_or (cut m.setting m.documents.accepted) s [])
  pub terms : u.terms ≡ length (entered m s)
  pub text : u.text ≡ sum_by text_words (entered m s)
  pub pool0 : u.pool0 ≡ slices_begun 0 (tokens_seen m s)
  pub pool1 : u.pool1 ≡ slices_begun 1 (tokens_seen m s)
  pub pool2 : u.pool2 ≡ slices_begun 2 (tokens_seen m s)
  pub pool3 : u.pool3 ≡ slices_begun 3 (tokens_seen m s)
