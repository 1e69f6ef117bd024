-- Which watches a document's terms lead to.
use Rattle.std.specs.Prelude.{◌≡◌, ℕ, Bool, false, ◌==◌, ◌&&◌, ◌||◌, not, List, Option, None, Some, bytes_eq}
use Rattle.std.specs.List.{list_any}
use Rattle.std.specs.Ordering.{nat_cmp}
use Rattle.std.specs.BTreeSet.{BTreeSet, contains}
use Rattle.std.specs.HashMap.{HashMap, get_by}
use Rattle.std.specs.declared.vec.Vec.{Vec}
use Rattle.eb_base.specs.Query.{Tree}
use Rattle.eb_watch.specs.Watches.{Watched}

-- the number is in the set, where there is one
abbrev pub has_number : Option (BTreeSet ℕ) → ℕ → Bool
has_number None n = false
has_number (Some s) n = contains nat_cmp s n

-- the set of the term has the number
abbrev pub leads : {S Z : Type 0} → HashMap (Vec ℕ Z) (BTreeSet ℕ) S → List ℕ → ℕ → Bool
leads by_term t n = has_number (get_by (λ k. bytes_eq t k.items) by_term) n

-- the watch of this number has the property
abbrev pub finds : (Tree → Bool) → List Watched → ℕ → Bool
finds p ws n = list_any (λ w. (n == w.0) && p w.1) ws

-- from the terms of which the test is true the map leads to the number too, and else as before
abbrev pub LeadsAlso : {S Z : Type 0} → HashMap (Vec ℕ Z) (BTreeSet ℕ) S → HashMap (Vec ℕ Z) (BTreeSet ℕ) S → (List ℕ → Bool) → ℕ → Type 0
LeadsAlso old new tells number = (t : List ℕ) (n : ℕ) → leads new t n ≡ (((n == number) && tells t) || leads old t n)

-- from the terms of which the test is true the map no longer leads to the number, and else as
-- before
abbrev pub LeadsNoMore : {S Z : Type 0} → HashMap (Vec ℕ Z) (BTreeSet ℕ) S → HashMap (Vec ℕ Z) (BTreeSet ℕ) S → (List ℕ → Bool) → ℕ → Type 0
LeadsNoMore old new tells number = (t : List ℕ) (n : ℕ) → leads new t n ≡ (leads old t n && not ((n == number) && tells t))

-- except from those terms to the number, the map leads as before
abbrev pub LeadsElsewhere : {S Z : Type 0} → HashMap (Vec ℕ Z) (BTreeSet ℕ) S → HashMap (Vec ℕ Z) (BTreeSet ℕ) S → (List ℕ → Bool) → ℕ → Type 0
LeadsElsewhere old new tells number = (t : List ℕ) (n : ℕ) → ((n == number) && tells t) ≡ false → leads new t n ≡ leads old t n

-- the map leads as before
abbrev pub LeadsAsBefore : {S Z : Type 0} → HashMap (Vec ℕ Z) (BTreeSet ℕ) S → HashMap (Vec ℕ Z) (BTreeSet ℕ) S → Type 0
LeadsAsBefore old new = (t : List ℕ) (n : ℕ) → leads new t n ≡ leads old t n

-- the set has the number too, where the fact holds, besides what it had
abbrev pub HasAlso : BTreeSet ℕ → BTreeSet ℕ → Bool → ℕ → Type 0
HasAlso old new fact number = (n : ℕ) → contains nat_cmp new n ≡ (((n == number) && fact) || contains nat_cmp old n)

-- the set no longer has the number, where the fact holds, and else has what it had
abbrev pub HasNoMore : BTreeSet ℕ → BTreeSet ℕ → Bool → ℕ → Type 0
HasNoMore old new fact number = (n : ℕ) → contains nat_cmp new n ≡ (contains nat_cmp old n && not ((n == number) && fact))

-- the set has what it had
abbrev pub HasAsBefore : BTreeSet ℕ → BTreeSet ℕ → Type 0
HasAsBefore old new = (n : ℕ) → contains nat_cmp new n ≡ contains nat_cmp old n
