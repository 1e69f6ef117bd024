-- The setting of an index: how many segments it has, and what each has room for.
use Rattle.std.specs.Prelude.{◌≡◌, ℕ, ◌+◌, ◌*◌, ◌≤◌, ◌^◌}

-- the segments, and of each segment the documents and the terms that it has room for
pub record Setting : Type 0 where
  pub segments : ℕ
  pub docs : ℕ
  pub terms : ℕ

-- the words of an index: the count of accepted documents, and for each segment two words, one a
-- document, and 77 a term
abbrev pub words_of : Setting → ℕ
words_of σ = 1 + σ.segments * (2 + σ.docs + 77 * σ.terms)

abbrev pub AreSegments : ℕ → Type 0
AreSegments n = (1 ≤ n) × (n ≤ 64)

abbrev pub AreDocs : ℕ → Type 0
AreDocs n = (1 ≤ n) × (n ≤ 2 ^ 24)

-- the least and the greatest power of two that the terms of a segment can be
abbrev pub least_power : ℕ
least_power = 10

abbrev pub greatest_power : ℕ
greatest_power = 20

-- a power of two from 1,024 to 1,048,576
abbrev pub AreTerms : ℕ → Type 0
AreTerms n = (k : ℕ) × (least_power ≤ k) × (k ≤ greatest_power) × (n ≡ 2 ^ k)

-- at most 1 GiB
abbrev pub AreWords : ℕ → Type 0
AreWords n = n ≤ 2 ^ 27

-- a setting that is allowed
pub record IsSetting (σ : Setting) : Type 0 where
  pub segments : AreSegments σ.segments
  pub docs : AreDocs σ.docs
  pub terms : AreTerms σ.terms
  pub words : AreWords (words_of σ)
