-- Watches as they are in memory.
use Rattle.std.specs.Prelude.{◌≡◌, ℕ, List, map, get_or}
use Rattle.std.specs.List.{All}
use Rattle.std.specs.Ordering.{nat_cmp}
use Rattle.std.specs.BTreeSet.{BTreeSet, contains}
use Rattle.std.specs.HashMap.{HashMap}
use Rattle.std.specs.declared.vec.Vec.{Vec}
use mathlib.Core.HLevel.{Π_prop}
use Rattle.eb_base.specs.Query.{tree, IsWellFormed}
use Rattle.eb_base.proofs.Formed.{well_formed_prop}
use Rattle.eb_watch.specs.declared.watch.Watch.{Watch}
use Rattle.eb_watch.specs.Key.{watch_key, is_keyless, key_has}
use Rattle.eb_watch.specs.Watches.{Watched}
use Rattle.eb_watch.specs.Index.{leads, finds}

-- the entries of the map, as watches
abbrev pub watched : List (ℕ × Watch) → List Watched
watched es = map (λ e. (e.0, tree e.1.query)) es

-- the terms lead to exactly the watches that have them in their key
abbrev pub TermsLead : {S Z : Type 0} → HashMap (Vec ℕ Z) (BTreeSet ℕ) S → List Watched → Type 0
TermsLead by_term ws = (t : List ℕ) (n : ℕ) → leads by_term t n ≡ finds (λ q. key_has (watch_key q) t) ws n

-- the set has exactly the watches without a key
abbrev pub AreKeyless : BTreeSet ℕ → List Watched → Type 0
AreKeyless keyless ws = (n : ℕ) → contains nat_cmp keyless n ≡ finds is_keyless ws n

-- each query is well formed
abbrev pub AllWellFormed : List Watched → Type 0
AllWellFormed ws = All (λ w. IsWellFormed w.1) ws

-- and this fact has one proof at most
pub all_formed_prop : (ws : List Watched) → IsProp (AllWellFormed ws)
all_formed_prop ws = Π_prop (λ k. Π_prop (λ w. Π_prop (λ inside. well_formed_prop (get_or ws k w).1)))
