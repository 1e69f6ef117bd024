-- A desk with its clerk, beside the writer of its feed.
use Rattle.eb_fields.specs.Dialect.{Dialect}
use Rattle.std.specs.Prelude.{◌≡◌, ℕ, List, [], ◌∷◌, Option, Some, None, Contains}
use Rattle.run_store.specs.Rules.{Rules}
use Rattle.eb_base.specs.Document.{Doc}
use Rattle.eb_base.specs.Setting.{Setting}
use Rattle.eb_desk.specs.Desk.{Queues}
use Rattle.feed_serve.specs.Desk.{IsOpen, new_clerk}
use Rattle.feed_serve.specs.Feeds.{feed_name, IsReaderOf}
use Rattle.feed_serve.specs.Jobs.{answerer, answer_pair}
use Rattle.feed_serve.specs.declared.job.Answer.{Answer}
use Rattle.feed_shared.specs.Turns.{WriterToken, generations_of, history_of, HasTaken}
use Rattle.feed_with_workers.specs.declared.feed_office.Side.{Side}
use Rattle.feed_with_workers.specs.declared.feed_office.FeedOffice.{FeedOffice}
use Rattle.feed_with_workers.specs.FeedRules.{workers_rules}

-- the documents that the feed has taken
abbrev pub taken_by : WriterToken → List Doc
taken_by w = history_of w.feed.log w.feed.docs

abbrev pub docs_of : FeedOffice → List Doc
docs_of o = taken_by o.feed

-- the clerk is the desk's and of the feed, and has put no stop; the feed's generations are those of its history
pub record IsStaffed (o : FeedOffice) : Type 0 where
  pub clerk : IsOpen o.desk.now.queues (feed_name o.feed) o.clerk
  pub taken : HasTaken o.feed (docs_of o)

-- the answer's reader is one of the feed, and the clerk put what it answers
pub record IsAnswerAt (o : FeedOffice) (a : Answer) : Type 0 where
  pub made : IsReaderOf (feed_name o.feed) (answerer a)
  pub put : Contains o.clerk.put (answer_pair a)

-- it holds these documents, and goes by the rules of a feed with workers
pub record HoldsFeed (o : FeedOffice) (rules : Rules (Unit {0})) (docs : List Doc) (none : Unit {0}) : Type 0 where
  pub dialect : Dialect
  pub by_rules : rules ≡ workers_rules dialect o.feed.setting o.feed.keep o.form
  pub staffed : IsStaffed o
  pub documents : docs_of o ≡ docs

-- the office is still one of the same feed
pub record Keeps (old new : FeedOffice) : Type 0 where
  pub staffed : IsStaffed new
  pub name : feed_name new.feed ≡ feed_name old.feed
  pub setting : new.feed.setting ≡ old.feed.setting
  pub form : new.form ≡ old.form

-- a new clerk of these queues, and the writer of an empty feed that keeps this number of generations of an index of this setting
abbrev pub IsNewSide : Queues → Setting → ℕ → Option Side → Type 0
IsNewSide queues σ keep None = ⊥
IsNewSide queues σ keep (Some s) = (s.clerk ≡ new_clerk queues (feed_name s.feed)) × (s.feed.setting ≡ σ) × (s.feed.keep ≡ keep)
    × (generations_of s.feed.feed.log s.feed.feed.docs ≡ [] ∷ [])
