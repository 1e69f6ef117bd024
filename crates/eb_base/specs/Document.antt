-- What a document is, and its limits.
use Rattle.std.specs.Prelude.{ℕ, ◌<◌, ◌≤◌, ◌^◌, List, length, sum_by}
use Rattle.std.specs.List.{All}
use Rattle.eb_base.specs.Term.{AreBytes}

-- a document: an id, and its terms in the order of its words; the position of a term is its place
-- in this list, counted from 0
pub record Doc : Type 0 where
  pub id : ℕ
  pub terms : List (List ℕ)

-- the bytes of all terms
abbrev pub bytes_of : List (List ℕ) → ℕ
bytes_of terms = sum_by length terms

-- the most terms of a document
abbrev pub most_tokens : ℕ
most_tokens = 1024

-- the most bytes of all its terms
abbrev pub most_bytes : ℕ
most_bytes = 16384

-- the terms are within the limits of a document
pub record AreWithinLimits (terms : List (List ℕ)) : Type 0 where
  pub tokens : length terms ≤ most_tokens
  pub bytes : bytes_of terms ≤ most_bytes

-- the document is one that can be made: an id of 64 bits, and terms of bytes, within the limits
pub record IsDocument (d : Doc) : Type 0 where
  pub id : d.id < 2 ^ 64
  pub terms : All AreBytes d.terms
  pub limits : AreWithinLimits d.terms
