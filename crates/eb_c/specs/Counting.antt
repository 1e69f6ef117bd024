-- What is counted, and what a count reports.
use Rattle.std.specs.Prelude.{◌≡◌, ◌⊎◌, ℕ, zero, suc, ◌<◌, List, length, get_or}
use Rattle.eb_base.specs.Document.{Doc}
use Rattle.eb_cursor.specs.Frames.{query_of, k_of}
use Rattle.eb_count.specs.Counts.{match_count, bucket_count}
use Rattle.eb_count.specs.Tallies.{Numbers, raised}
use Rattle.feed_shared.specs.Turns.{FeedToken, history_of, stretch_of, counted}
use Rattle.eb_c.specs.declared.counting.Axis.{Axis}
use Rattle.eb_c.specs.declared.counting.Count.{Count}
use Rattle.eb_c.specs.declared.counting.Counting.{Counting}
use Rattle.eb_c.specs.declared.counting.Counting.TheVariants as counting
use Rattle.eb_c.specs.declared.refusal.Refusal.TheVariants as refusal
use Rattle.eb_c.specs.Numbers.{refusal_number}
use Rattle.eb_c.specs.Asking.{Asked, asks, refused}
use Rattle.eb_c.specs.Streaming.{Follows}

-- buckets of no width are refused
abbrev pub in_buckets : ℕ → ℕ → Asked → Asked
in_buckets width number (refused r column) = refused r column
in_buckets zero (suc n) (asks k q) = refused refusal.BadNumber 0
in_buckets zero zero (asks k q) = asks k q
in_buckets (suc w) number (asks k q) = asks k q

-- what is reported of a count that is refused
abbrev pub nothing_counted : ℕ → Count
nothing_counted column = record { seen = 0; total = 0; column = column }

-- what a count over these documents answers and reports, and the numbers that it writes, one for
-- each bucket; each stays at 2^64 - 1
abbrev pub CountsOver : ℕ → List Doc → Axis → Asked → ℕ → Count → List ℕ → List ℕ → Type 0
CountsOver seen docs axis (asks k q) number c old new =
    (number ≡ 0) × (c ≡ record { seen = seen; total = raised 0 (match_count q docs); column = 0 }) × (length new ≡ length old)
    × ((i : ℕ) → i < length old → get_or new i 0 ≡ raised 0 (bucket_count q axis.start axis.width i docs))
CountsOver seen docs axis (refused r column) number c old new = (number ≡ refusal_number r) × (c ≡ nothing_counted column) × (new ≡ old)

-- this is what is asked, in this many buckets of this width; or it is refused since memory ran out
-- for it
abbrev pub IsCounted : (Asked → Type 0) → ℕ → ℕ → Asked → Type 0
IsCounted IsAsked width number x = (x ≡ refused refusal.NoMemory 0) ⊎ ((y : Asked) × IsAsked y × (x ≡ in_buckets width number y))

-- so for what is asked, over all documents that were accepted
abbrev pub Counts : (Asked → Type 0) → List Doc → Axis → ℕ → Count → List ℕ → List ℕ → Type 0
Counts IsAsked docs axis number c old new = (x : Asked) × IsCounted IsAsked axis.width (length old) x × CountsOver (length docs) docs axis x number c old new

-- so for a follower that knows this then: over the generations that it holds, and how many
-- documents it knows
abbrev pub FollowerCountsOver : FeedToken → Axis → Asked → ℕ → Count → List ℕ → List ℕ → Type 0
FollowerCountsOver f axis x number c old new = CountsOver (counted (history_of f.log f.docs)) (stretch_of f.held f.log f.docs) axis x number c old new

abbrev pub FollowerCounts : (Asked → Type 0) → FeedToken → FeedToken → Axis → ℕ → Count → List ℕ → List ℕ → Type 0
FollowerCounts IsAsked before after axis number c old new =
    (x : Asked) × IsCounted IsAsked axis.width (length old) x × Follows x before after × FollowerCountsOver after axis x number c old new

-- what is to be counted
abbrev pub wanted : Counting → Asked
wanted (counting.Counts frame tally) = asks (k_of frame) (query_of frame)
wanted (counting.Refused r column) = refused r column

-- the numbers are those before the first match, with this many buckets of this axis
pub record IsFresh (axis : Axis) (number : ℕ) (t : Numbers) : Type 0 where
  pub total : t.total ≡ 0
  pub long : length t.buckets ≡ number
  pub none : (i : ℕ) → i < number → get_or t.buckets i 0 ≡ 0
  pub start : t.start ≡ axis.start
  pub width : (0 < number) → t.width ≡ axis.width

abbrev pub IsPrepared : Axis → ℕ → Counting → Type 0
IsPrepared axis number (counting.Counts frame tally) = IsFresh axis number tally
IsPrepared axis number (counting.Refused r column) = Unit {0}
