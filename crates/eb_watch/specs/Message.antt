-- A document's terms by number.
use Rattle.std.specs.Prelude.{◌≡◌, ℕ, ◌<◌, false, List, [], length, get_or, Option, Some, unwrap_or, bytes_eq}
use Rattle.std.specs.HashMap.{HashMap, get_by}
use Rattle.std.specs.declared.vec.Vec.{Vec}
use Rattle.eb_watch.specs.declared.message.Message.{Message}

-- the number of the term, if it has one
abbrev pub number_of : {S Z : Type 0} → HashMap (Vec ℕ Z) ℕ S → List ℕ → Option ℕ
number_of m t = get_by (λ k. bytes_eq t k.items) m

-- the term has this number from now on: its earlier one, or else this place; those of other terms
-- are as before
pub record Numbers {S Z : Type 0} (old new : HashMap (Vec ℕ Z) ℕ S) (term : List ℕ) (at number : ℕ) : Type 0 where
  pub is : number ≡ unwrap_or (number_of old term) at
  pub here : number_of new term ≡ Some number
  pub others : (t : List ℕ) → bytes_eq t term ≡ false → number_of new t ≡ number_of old t

-- the first `count` of the terms have these numbers, and a term with a number is at the place of
-- that number
pub record AreNumberedTo {S Z : Type 0} (m : HashMap (Vec ℕ Z) ℕ S) (numbers : List ℕ) (terms : List (List ℕ)) (count : ℕ) : Type 0 where
  pub long : length numbers ≡ count
  pub each : (i : ℕ) → i < count → number_of m (get_or terms i []) ≡ Some (get_or numbers i 0)
  pub stands : (t : List ℕ) (n : ℕ) → number_of m t ≡ Some n → (n < count) × (get_or terms n [] ≡ t)

-- the message has the numbers of these terms
abbrev pub AreNumbered : Message → List (List ℕ) → Type 0
AreNumbered message terms = AreNumberedTo message.by_text message.places.items terms (length terms)
