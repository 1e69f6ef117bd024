-- What a tally holds, and what it has counted.
use Rattle.std.specs.Prelude.{◌≡◌, ℕ, ◌+◌, ◌-◌, ◌^◌, ◌<◌, cond, min, max, List, length, get_or}
use Rattle.eb_base.specs.Document.{Doc}
use Rattle.eb_base.specs.Query.{Tree}
use Rattle.eb_count.specs.Counts.{match_count, is_in_bucket, bucket_count}

-- the buckets' start and width, the matches so far, and those of each bucket
pub record Numbers : Type 0 where
  pub start : ℕ
  pub width : ℕ
  pub total : ℕ
  pub buckets : List ℕ

-- a number raised by n, as far as 64 bits go
abbrev pub raised : ℕ → ℕ → ℕ
raised old n = max old (min (old + n) (2 ^ 64 - 1))

-- one more match is counted, whose document has this id
pub record HasAdded (id : ℕ) (old new : Numbers) : Type 0 where
  pub start : new.start ≡ old.start
  pub width : new.width ≡ old.width
  pub total : new.total ≡ raised old.total 1
  pub long : length new.buckets ≡ length old.buckets
  pub buckets : (i : ℕ) → i < length old.buckets → get_or new.buckets i 0 ≡ raised (get_or old.buckets i 0) (cond (is_in_bucket old.start old.width i id) 1 0)

-- all matches among these documents are counted: all in all, and in each bucket
pub record HasCounted (q : Tree) (docs : List Doc) (old new : Numbers) : Type 0 where
  pub start : new.start ≡ old.start
  pub width : new.width ≡ old.width
  pub total : new.total ≡ raised old.total (match_count q docs)
  pub long : length new.buckets ≡ length old.buckets
  pub buckets : (i : ℕ) → i < length old.buckets → get_or new.buckets i 0 ≡ raised (get_or old.buckets i 0) (bucket_count q old.start old.width i docs)

-- exactly the matches among these documents are counted
pub record AreCounts (q : Tree) (docs : List Doc) (t : Numbers) : Type 0 where
  pub total : t.total ≡ match_count q docs
  pub buckets : (i : ℕ) → i < length t.buckets → get_or t.buckets i 0 ≡ bucket_count q t.start t.width i docs
