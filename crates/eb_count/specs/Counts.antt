-- How many documents match, and how many of them have an id in each bucket of a histogram.
use Rattle.std.specs.Prelude.{ℕ, ◌+◌, ◌*◌, nat_lt, leb, Bool, ◌&&◌, List}
use Rattle.std.specs.List.{count_by}
use Rattle.eb_base.specs.Document.{Doc}
use Rattle.eb_base.specs.Query.{Tree}
use Rattle.eb_base.specs.Match.{is_match}

-- how many of the documents match
abbrev pub match_count : Tree → List Doc → ℕ
match_count q docs = count_by (is_match q) docs

-- whether the id lies in the bucket i of those of width w from x on: from x + w * i to below x + w
-- * i + w
abbrev pub is_in_bucket : ℕ → ℕ → ℕ → ℕ → Bool
is_in_bucket x w i id = leb (x + w * i) id && nat_lt id (x + w * i + w)

-- how many of the documents match and have an id that lies in this bucket
abbrev pub bucket_count : Tree → ℕ → ℕ → ℕ → List Doc → ℕ
bucket_count q x w i docs = count_by (λ d. is_match q d && is_in_bucket x w i d.id) docs
