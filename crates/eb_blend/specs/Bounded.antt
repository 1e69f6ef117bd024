-- How many loads a search of a word makes in parts, and one of an and of words: in each part no more
-- than the bound of a search of that part by itself.
use Rattle.std.specs.Prelude.{◌≡◌, ℕ, ◌+◌, ◌<◌, List, [], length}
use Rattle.eb_base.specs.Document.{Doc}
use Rattle.eb_base.specs.Match.{answer}
use Rattle.eb_base.specs.Query.{word, conjunction}
use Rattle.eb_base.specs.Setting.{Setting}
use Rattle.eb_base.specs.Term.{Term}
use Rattle.eb_cursor.specs.AndCosts.{word_parts}
use Rattle.eb_engine.specs.Loads.{IsBounded, IsAndBounded, IsBoundedAlone, IsAndBoundedAlone}
use Rattle.eb_blend.specs.Parts.{history}

-- what goes part after part from some loads to others: `sum p` are made when part p begins
pub record PartAfterPart (Within : ℕ → ℕ → ℕ → Type 0) (parts before after : ℕ) : Type 0 where
  pub sum : ℕ → ℕ
  pub begins : sum 0 ≡ before
  pub ends : sum parts ≡ after
  pub each : (p : ℕ) → p < parts → Within p (sum p) (sum (p + 1))

-- how many ids a part answers to a word, and to an and of words
abbrev pub word_ids : List (List Doc) → Term → ℕ → ℕ → ℕ
word_ids hs t k p = length (answer (word t) k (history hs p))

abbrev pub and_ids : List (List Doc) → List Term → ℕ → ℕ → ℕ
and_ids hs ts k p = length (answer (conjunction (word_parts ts)) k (history hs p))

-- a search of the word for at most k ids makes from some loads to others in part p, by a reader that
-- knew some histories when it began and knows others when it ends; so does one of an and of the words
abbrev pub WithinBound : Setting → List (List Doc) → List (List Doc) → Term → ℕ → ℕ → ℕ → ℕ → Type 0
WithinBound σ knew knows t k p from to = IsBounded [] σ (history knew p) 0 (history knows p) t (word_ids knows t k p) from to

abbrev pub WithinAndBound : Setting → List (List Doc) → List Term → ℕ → ℕ → ℕ → ℕ → Type 0
WithinAndBound σ knows ts k p from to = IsAndBounded [] σ (history knows p) ts (and_ids knows ts k p) from to

-- the same by the writer of these histories, which adds nothing meanwhile
abbrev pub WithinBoundAlone : Setting → List (List Doc) → Term → ℕ → ℕ → ℕ → ℕ → Type 0
WithinBoundAlone σ hs t k p from to = IsBoundedAlone [] σ (history hs p) 0 t (word_ids hs t k p) from to

abbrev pub WithinAndBoundAlone : Setting → List (List Doc) → List Term → ℕ → ℕ → ℕ → ℕ → Type 0
WithinAndBoundAlone σ hs ts k p from to = IsAndBoundedAlone [] σ (history hs p) ts (and_ids hs ts k p) from to

-- ---- all parts

abbrev pub AreBounded : Setting → List (List Doc) → List (List Doc) → Term → ℕ → ℕ → ℕ → Type 0
AreBounded σ knew knows t k = PartAfterPart (WithinBound σ knew knows t k) (length knows)

abbrev pub AreAndBounded : Setting → List (List Doc) → List Term → ℕ → ℕ → ℕ → Type 0
AreAndBounded σ knows ts k = PartAfterPart (WithinAndBound σ knows ts k) (length knows)

abbrev pub AreBoundedAlone : Setting → List (List Doc) → Term → ℕ → ℕ → ℕ → Type 0
AreBoundedAlone σ hs t k = PartAfterPart (WithinBoundAlone σ hs t k) (length hs)

abbrev pub AreAndBoundedAlone : Setting → List (List Doc) → List Term → ℕ → ℕ → ℕ → Type 0
AreAndBoundedAlone σ hs ts k = PartAfterPart (WithinAndBoundAlone σ hs ts k) (length hs)
