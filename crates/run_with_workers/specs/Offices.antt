-- What an office does, by the rules of a store without watches.
use Rattle.std.specs.Prelude.{◌≡◌, ℕ, ◌≤◌, List, [], ◌∷◌, ◌++◌, length, take, Contains}
use Rattle.eb_desk.specs.Asks.{asks_of}
use Rattle.eb_desk.specs.declared.rule.Pair.{Pair}
use Rattle.run_store.specs.Rules.{Rules}
use Rattle.eb_base.specs.Document.{Doc}
use Rattle.eb_base.specs.Match.{answer}
use Rattle.eb_base.specs.Query.{Tree}
use Rattle.eb_count.specs.Tallies.{Numbers, AreCounts}
use Rattle.eb_cursor.specs.declared.frame.Frame.{Frame}
use Rattle.eb_cursor.specs.Frames.{query_of, k_of, ids_of}
use Rattle.eb_fields.specs.Dialect.{Dialect}
use Rattle.run_with_workers.specs.declared.office.Settled.{Settled}

-- the frame has the answer to its query over what is seen of the first `seen` of these documents
abbrev pub Settles : Rules (Unit {0}) → List Doc → Settled → Type 0
Settles rules docs s = (s.seen ≤ length docs) × (ids_of s.frame ≡ answer (query_of s.frame) (k_of s.frame) (rules.sees (take s.seen docs)))

-- the tally has the buckets that it had
pub record HasBucketsOf (old new : Numbers) : Type 0 where
  pub start : new.start ≡ old.start
  pub width : new.width ≡ old.width
  pub long : length new.buckets ≡ length old.buckets

-- these documents are this many, and the tally has exactly the matches of the query among what is seen of them
abbrev pub CountsAll : Rules (Unit {0}) → List Doc → Tree → ℕ → Numbers → Type 0
CountsAll rules docs q seen t = (seen ≡ length docs) × AreCounts q (rules.sees docs) t

-- before the first line: the office holds no document, tells no watch, and was asked nothing
pub record Opens {O : Type 0} (holds : O → Rules (Unit {0}) → List Doc → Unit {0} → Type 0) (asked : O → List Pair) (how : Dialect) (o : O) (rules : Rules (Unit {0})) : Type 0 where
  pub dialect : how ≡ rules.dialect
  pub office : holds o rules [] tt
  pub start : rules.start ≡ []
  pub silent : (d : Doc) → rules.tells tt d ≡ []
  pub unasked : asked o ≡ []

-- a query was asked under this number, with this k, by these pairs
abbrev pub WasAsked : List Pair → ℕ → Tree → ℕ → Type 0
WasAsked ps number q k = (told : ℕ) × Contains ps (record { number = number; told = told; asks = asks_of q k })

-- the query of this frame was asked under this number, after these pairs
abbrev pub Asks : List Pair → List Pair → ℕ → Frame → Type 0
Asks old new number frame = (told : ℕ) × (new ≡ old ++ record { number = number; told = told; asks = asks_of (query_of frame) (k_of frame) } ∷ [])
