-- What is remembered of the tokens of a document, to find where a term occurred last.
use Rattle.std.specs.Prelude.{◌≡◌, ℕ, suc, ◌<◌, ◌≤◌, List, [], length, get_or, take}
use Rattle.eb_base.specs.Term.{Term}
use Rattle.eb_base.specs.Document.{most_tokens}
use Rattle.eb_place.specs.Postings.{count_of}
use Rattle.eb_place.specs.Placing.{home_cell}
use Rattle.eb_writer.specs.declared.plan.Recall.{Recall}
use Rattle.eb_writer.specs.declared.plan.TheConstants.{BUCKETS}

-- the bucket of a term
abbrev pub bucket : Term → ℕ
bucket t = home_cell BUCKETS t

-- the token at this place
abbrev pub token_at : List Term → ℕ → Term
token_at ts i = get_or ts i []

-- the bucket of the token at this place
abbrev pub bucket_in : List Term → ℕ → ℕ
bucket_in ts i = bucket (token_at ts i)

-- `last` leads back from the first n tokens to the last one in the bucket: 0 where there is none,
-- else one more than its place
pub record LeadsBack (ts : List Term) (n b last : ℕ) : Type 0 where
  pub back : last ≤ n
  pub there : (p : ℕ) → last ≡ suc p → bucket (token_at ts p) ≡ b
  pub passed : (u : Term) → bucket u ≡ b → count_of u (take n ts) ≡ count_of u (take last ts)

-- the first n tokens are remembered: each bucket leads back to its last token, and each token to
-- the one before it in its bucket
pub record Remembers (r : Recall) (ts : List Term) (n : ℕ) : Type 0 where
  pub buckets : length r.latest ≡ BUCKETS
  pub tokens : length r.before ≡ most_tokens
  pub few : n ≤ length ts
  pub latest : (b : ℕ) → b < BUCKETS → LeadsBack ts n b (get_or r.latest b 0)
  pub before : (p : ℕ) → p < n → LeadsBack ts p (bucket (token_at ts p)) (get_or r.before p 0)

-- where the term at place i occurred last before it, none where it didn't
pub record StoodAt (ts : List Term) (i p : ℕ) : Type 0 where
  pub earlier : p < i
  pub same : token_at ts p ≡ token_at ts i
  pub last : count_of (token_at ts i) (take i ts) ≡ count_of (token_at ts i) (take (suc p) ts)
