-- The rule of a mailbox.
use Rattle.std.specs.Prelude.{◌≡◌, ℕ, ◌⊎◌, List, [], ◌∷◌, All}
use mathlib.Core.Option.{some}
use lib.ListN.{get_elem?}
use Rattle.logbook.specs.Pages.{Book}
use Rattle.feed_shared.specs.declared.mail.Ticket.{Ticket}
use Rattle.feed_shared.specs.declared.mail.Ticket.TheVariants.{Opening, At}
use Rattle.crossbeam_queue.specs.Passes.{Pass, view}
use Rattle.feed_shared.specs.Turns.{FeedToken}

-- which feed an end knows
abbrev pub book_of : Ticket → Book
book_of Opening = record { number = 0; log_name = 0; cells_name = 0 }
book_of (At book) = book

-- each reader in the mailbox is of this feed, and each end knows that
pub record MailOf (book : Book) (items : List FeedToken) (views : List Ticket) : Type 0 where
  pub made : All (λ m. m.book ≡ book) items
  pub seated : (by : ℕ) (v : Ticket) → get_elem? views by ≡ some v → v ≡ At book

-- the mailbox is empty, and its one end knows nothing yet
abbrev pub IsOpening : List FeedToken → List Ticket → Type 0
IsOpening items views = (items ≡ []) × (views ≡ Opening ∷ [])

abbrev pub KeepsMail : List FeedToken → List Ticket → Type 0
KeepsMail items views = IsOpening items views ⊎ ((book : Book) × MailOf book items views)

-- the end is as before, and what moved is of its feed
abbrev pub IsMoved : Ticket → FeedToken → Ticket → Type 0
IsMoved v x w = (w ≡ v) × ((book : Book) → v ≡ At book → x.book ≡ book)

-- which feed a pass knows
abbrev pub pass_book : Pass FeedToken Ticket → Book
pass_book p = book_of (view p)

-- it knows one
abbrev pub IsEnd : Pass FeedToken Ticket → Type 0
IsEnd p = view p ≡ At (pass_book p)
