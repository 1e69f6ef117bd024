-- What a handle of watches leads to, and what comes of its calls.
use Rattle.std.specs.Prelude.{◌≡◌, ◌≢◌, ◌⊎◌, ◌↔◌, ℕ, true, false, List, length, min, Option, Some, Result, Ok, Err}
use Rattle.eb_base.specs.Document.{Doc}
use Rattle.eb_base.specs.Query.{Tree}
use Rattle.eb_watch.specs.declared.faults.SetFault.{SetFault}
use Rattle.eb_watch.specs.declared.faults.SetFault.TheVariants as fault
use Rattle.eb_watch.specs.declared.watches.Watches.{Watches}
use Rattle.eb_watch.specs.Watches.{Watched, is_set, most_watches, numbers_of, matching, with_watch, without_watch}
use Rattle.eb_c.specs.declared.held.Held.{Held}
use Rattle.eb_c.specs.declared.held.Held.TheVariants as held
use Rattle.eb_c.specs.declared.told.Told.{Told}
use Rattle.eb_c.specs.declared.refusal.Refusal.{Refusal}
use Rattle.eb_c.specs.declared.refusal.Refusal.TheVariants as refusal
use Rattle.eb_c.specs.Numbers.{refusal_number}
use Rattle.eb_c.specs.Asking.{Asked, asks, refused, written}

-- it leads to these watches
abbrev pub LeadsToWatches : Option Held → Watches → Type 0
LeadsToWatches h w = h ≡ Some (held.Watches w)

-- what a call answers where a watch was to be set, and where one was to be removed
abbrev pub set_number : {T : Type 0} → Result T SetFault → ℕ
set_number (Ok t) = 0
set_number (Err fault.Taken) = refusal_number refusal.WatchTaken
set_number (Err fault.Full) = refusal_number refusal.WatchesFull
set_number (Err fault.NoMemory) = refusal_number refusal.NoMemory

abbrev pub remove_number : {T E : Type 0} → Result T E → ℕ
remove_number (Ok t) = 0
remove_number (Err e) = refusal_number refusal.NoWatch

-- setting a watch of this number to this query comes to this
pub record HasSet (old : List Watched) (number : ℕ) (q : Tree) (result : ℕ) (new : List Watched) : Type 0 where
  pub set : result ≡ 0 → new ≡ with_watch old number q
  pub taken : (result ≡ refusal_number refusal.WatchTaken) ↔ (is_set old number ≡ true)
  pub full : (result ≡ refusal_number refusal.WatchesFull) ↔ ((is_set old number ≡ false) × (length old ≡ most_watches))
  pub unchanged : result ≢ 0 → new ≡ old

-- the same where this is asked; where it is refused, the watches are as before
abbrev pub SetsAsked : Asked → List Watched → ℕ → ℕ → ℕ → List Watched → Type 0
SetsAsked (asks k q) old number result column new = (column ≡ 0) × HasSet old number q result new
SetsAsked (refused r at) old number result column new = (result ≡ refusal_number r) × (column ≡ at) × (new ≡ old)

-- the same for what is asked, or it is refused since there was no memory for it
abbrev pub Sets : (Asked → Type 0) → List Watched → ℕ → ℕ → ℕ → List Watched → Type 0
Sets IsAsked old number result column new = (x : Asked) × ((x ≡ refused refusal.NoMemory 0) ⊎ IsAsked x) × SetsAsked x old number result column new

-- removing the watch of this number comes to this
pub record HasRemoved (old : List Watched) (number : ℕ) (result : ℕ) (new : List Watched) : Type 0 where
  pub removed : result ≡ 0 → new ≡ without_watch old number
  pub no_watch : (result ≡ refusal_number refusal.NoWatch) ↔ (is_set old number ≡ false)
  pub either : (result ≡ 0) ⊎ (result ≡ refusal_number refusal.NoWatch)
  pub unchanged : result ≢ 0 → new ≡ old

-- no watch matches, and no number is written
abbrev pub none_told : Told
none_told = record { count = 0; written = 0 }

-- these numbers of watches that match, where there is room for this many
abbrev pub numbers_told : List ℕ → ℕ → Told
numbers_told numbers room = record { count = length numbers; written = min (length numbers) room }

-- what a call tells for what was read of a document: the numbers of the watches that match it,
-- rising, as many as there is room for
abbrev pub TellsWatches : Result Doc Refusal → List Watched → ℕ → Told → List ℕ → List ℕ → Type 0
TellsWatches (Ok d) ws result told old new =
    ((result ≡ 0) × (told ≡ numbers_told (numbers_of (matching ws d)) (length old)) × (new ≡ written (numbers_of (matching ws d)) old))
    ⊎ ((result ≡ refusal_number refusal.NoMemory) × (told ≡ none_told) × (new ≡ old))
TellsWatches (Err r) ws result told old new = (result ≡ refusal_number r) × (told ≡ none_told) × (new ≡ old)
