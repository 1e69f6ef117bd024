-- What a handle of a feed leads to, and what comes of its calls.
use Rattle.std.specs.Prelude.{◌≡◌, ◌⊎◌, ℕ, false, List, [], ◌∷◌, ◌++◌, Option, None, Some, Result, Ok, Err}
use mathlib.Core.List.{IsPrefix}
use Rattle.eb_base.specs.Document.{Doc}
use Rattle.eb_base.specs.Setting.{Setting}
use Rattle.eb_place.specs.Room.{has_room}
use Rattle.eb_feed.specs.Generations.{with_generation}
use Rattle.eb_table.specs.Known.{Words}
use Rattle.feed_shared.specs.Turns.{FeedToken, PieceToken, WriterToken, generations_of, history_of, stretch_of, counted, HasLapsed, HasTaken}
use Rattle.eb_c.specs.declared.held.Held.{Held}
use Rattle.eb_c.specs.declared.held.Held.TheVariants.{Leader, Follower, Spare, Released}
use Rattle.eb_c.specs.declared.index.Answer.{Answer}
use Rattle.eb_c.specs.declared.refusal.Refusal.{Refusal}
use Rattle.eb_c.specs.declared.refusal.Refusal.TheVariants as refusal
use Rattle.eb_c.specs.Numbers.{refusal_number}
use Rattle.eb_c.specs.Asking.{Asked, asks, refused, TellsOver}

-- it leads to the leader of a feed, which has this
abbrev pub LeadsToLeader : Option Held → WriterToken → Type 0
LeadsToLeader h w = h ≡ Some (Leader w)

-- it leads to a follower of a feed, which knows this
abbrev pub LeadsToFollower : Option Held → FeedToken → Type 0
LeadsToFollower h f = h ≡ Some (Follower f)

-- it leads to an index that was opened ahead
abbrev pub LeadsToSpare : Option Held → Words → Type 0
LeadsToSpare h s = h ≡ Some (Spare (Some s))

-- it leads to a generation that a feed dropped
abbrev pub LeadsToReleased : Option Held → PieceToken → Type 0
LeadsToReleased h p = h ≡ Some (Released p)

-- after it was lent, it leads to another one of this setting, which was lent before it, or to
-- nothing
abbrev pub LeadsBack : Option Held → Setting → Type 0
LeadsBack h σ = (h ≡ None) ⊎ ((s : Words) × LeadsToSpare h s × (s.setting ≡ σ))

-- what was lent is another one of this setting, or nothing
abbrev pub GivesBack : Held → Setting → Type 0
GivesBack h σ = (h ≡ Spare None) ⊎ ((s : Words) × (h ≡ Spare (Some s)) × (s.setting ≡ σ))

-- the document was added, to the newest generation where that has room for it, else to a new one
pub record Takes (old new : WriterToken) (d : Doc) : Type 0 where
  pub setting : new.setting ≡ old.setting
  pub keep : new.keep ≡ old.keep
  pub book : new.feed.book ≡ old.feed.book
  pub turns : IsPrefix old.feed.log new.feed.log
  pub generations : generations_of new.feed.log new.feed.docs ≡ with_generation old.setting (generations_of old.feed.log old.feed.docs) d
  pub history : (history : List Doc) → HasTaken old history → HasTaken new (history ++ d ∷ [])

-- what an add that read this answers, and what the leader has then: a document is refused only
-- where memory runs out for another generation, where the newest has no room for it
abbrev pub LeaderAdds : Result Doc Refusal → WriterToken → ℕ → WriterToken → Type 0
LeaderAdds (Ok d) old number new =
    ((number ≡ 0) × Takes old new d) ⊎ ((number ≡ refusal_number refusal.NoMemory) × (has_room old.setting old.feed.docs d ≡ false) × (new ≡ old))
LeaderAdds (Err r) old number new = (number ≡ refusal_number r) × (new ≡ old)

-- what a follower knows that took its news in: of the same feed at least the turns that it knew,
-- and all that it knew of the history, unless it has lapsed; the closed generations that it knew in
-- any case, and where no turn is new, the documents of the newest one
pub record Hears (old new : FeedToken) : Type 0 where
  pub book : new.book ≡ old.book
  pub turns : IsPrefix old.log new.log
  pub known : IsPrefix (history_of old.log old.docs) (history_of new.log new.docs) ⊎ HasLapsed old new
  pub closed : IsPrefix (history_of old.log []) (history_of new.log new.docs)
  pub newest : new.log ≡ old.log → IsPrefix old.docs new.docs

-- what a follower knows that searched: of its newest generation at least the documents that it knew
pub record Learns (old new : FeedToken) : Type 0 where
  pub book : new.book ≡ old.book
  pub log : new.log ≡ old.log
  pub held : new.held ≡ old.held
  pub docs : IsPrefix old.docs new.docs

-- what a follower knows after this was asked
abbrev pub Follows : Asked → FeedToken → FeedToken → Type 0
Follows (asks k q) old new = (heard : FeedToken) × Hears old heard × Learns heard new
Follows (refused r column) old new = new ≡ old

-- what an ask of a follower that knows this then reports: over the generations that it holds, and
-- how many documents it knows
abbrev pub FollowerTells : FeedToken → Asked → ℕ → Answer → List ℕ → List ℕ → Type 0
FollowerTells f asked number a old new = TellsOver (counted (history_of f.log f.docs)) (stretch_of f.held f.log f.docs) asked number a old new

-- the same for what is asked, or it is refused since memory ran out for it
abbrev pub FollowerAnswers : (Asked → Type 0) → FeedToken → FeedToken → ℕ → Answer → List ℕ → List ℕ → Type 0
FollowerAnswers IsAsked before after number a old new =
    (x : Asked) × ((x ≡ refused refusal.NoMemory 0) ⊎ IsAsked x) × Follows x before after × FollowerTells after x number a old new
