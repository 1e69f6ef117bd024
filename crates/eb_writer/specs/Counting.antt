-- What a document needs of a segment, and what is found of its tokens.
use Rattle.std.specs.Prelude.{◌≡◌, ℕ, ◌+◌, ◌*◌, ◌<◌, ◌≤◌, ◌^◌, List, [], ◌++◌, length, get_or, take, sum_by, None, Some, slice_get}
use Rattle.eb_base.specs.Term.{Term}
use Rattle.eb_base.specs.Document.{Doc, IsDocument, most_tokens, most_bytes}
use Rattle.eb_base.specs.Setting.{greatest_power}
use Rattle.eb_place.specs.declared.moment.Moment.{Moment}
use Rattle.eb_place.specs.declared.used.Used.{Used}
use Rattle.eb_place.specs.Postings.{terms_of, distinct, count_of, number_of}
use Rattle.eb_place.specs.Room.{cut, text_words}
use Rattle.eb_place.specs.Address.{slices_begun}
use Rattle.eb_place.specs.Tells.{TellsSegment}
use Rattle.eb_chain.specs.Needs.{IsTailWord}
use Rattle.eb_writer.specs.declared.plan.Found.{Found}
use Rattle.eb_writer.specs.declared.plan.Plan.{Plan}
use Rattle.eb_writer.specs.Recall.{token_at}

-- no document is being placed
abbrev pub IsIdle : Moment → Type 0
IsIdle m = m.documents.current ≡ None

-- the tokens of the accepted documents of a segment
abbrev pub tokens_in : Moment → ℕ → List Term
tokens_in m s = terms_of (get_or (cut m.setting m.documents.accepted) s [])

-- these tokens use this many terms, text words and slices of a segment
pub record IsUsedBy (u : Used) (ts : List Term) : Type 0 where
  pub terms : u.terms ≡ length (distinct ts)
  pub text : u.text ≡ sum_by text_words (distinct ts)
  pub pool0 : u.pool0 ≡ slices_begun 0 ts
  pub pool1 : u.pool1 ≡ slices_begun 1 ts
  pub pool2 : u.pool2 ≡ slices_begun 2 ts
  pub pool3 : u.pool3 ≡ slices_begun 3 ts

-- of the token at place i of a document that comes after the tokens of a segment: the number that
-- its term has or gets, the term's tail word before the document, and how often the term occurs
-- earlier in it
pub record IsFound (before ts : List Term) (i : ℕ) (k : Found) : Type 0 where
  pub number : k.number ≡ number_of (token_at ts i) (before ++ take i ts)
  pub tail : IsTailWord (count_of (token_at ts i) before) k.tail
  pub earlier : k.earlier ≡ count_of (token_at ts i) (take i ts)

-- the first n tokens of a document are found
pub record AreFound (before ts : List Term) (found : List Found) (n : ℕ) : Type 0 where
  pub places : length found ≡ most_tokens
  pub each : (i : ℕ) (k : Found) → i < n → slice_get found i ≡ Some k → IsFound before ts i k

-- what a segment and the tails say of a term that doesn't occur earlier in the document; a new term
-- gets the number `next`
pub record IsFirst (before : List Term) (t : Term) (next : ℕ) (k : Found) : Type 0 where
  pub known : 1 ≤ count_of t before → k.number ≡ number_of t before
  pub new : count_of t before ≡ 0 → k.number ≡ next
  pub tail : IsTailWord (count_of t before) k.tail
  pub earlier : k.earlier ≡ 0

-- no document is being placed, and `used` describes the segment
pub record IsReady (m : Moment) (s : ℕ) (u : Used) : Type 0 where
  pub idle : IsIdle m
  pub inside : s < m.setting.segments
  pub tells : TellsSegment u m s

-- the document's tokens are found in the segment, and this much of it is used with them
pub record IsPlan (m : Moment) (s : ℕ) (u : Used) (d : Doc) (plan : Plan) : Type 0 where
  pub limits : IsDocument d
  pub found : AreFound (tokens_in m s) d.terms plan.found (length d.terms)
  pub used : IsUsedBy plan.used (tokens_in m s ++ d.terms)
  pub documents : plan.used.documents ≡ u.documents

-- the numbers are far from the end of their type, when n tokens are counted
pub record IsSmall (u : Used) (n : ℕ) : Type 0 where
  pub terms : u.terms ≤ 2 ^ greatest_power + n
  pub text : u.text ≤ 4 * 2 ^ greatest_power + most_bytes * n
  pub pool0 : u.pool0 ≤ 2 ^ greatest_power + n
  pub pool1 : u.pool1 ≤ 2 ^ greatest_power + n
  pub pool2 : u.pool2 ≤ 2 ^ greatest_power + n
  pub pool3 : u.pool3 ≤ 2 ^ greatest_power + n
