-- Which segments are converted.
use Rattle.std.proofs.Common.{◌≡◌, ℕ, zero, suc, ◌+◌, ◌<◌, ◌≤◌, List, length, inl, inr, arith}
use Rattle.std.proofs.lemmas.Bool.{cases_lt}
use mathlib.Core.List.{IsPrefix}
use Rattle.eb_base.specs.Document.{Doc}
use Rattle.eb_base.specs.Setting.{Setting}
use Rattle.eb_place.specs.Room.{cut}
use Rattle.eb_place.proofs.CutSegments.{closed_stays}
use Rattle.eb_engine.specs.Tokens.{AreClosed}
use Rattle.run_index.specs.Conversions.{AreConverted, most_converted}

-- what is closed in a prefix is closed in the whole, which has no fewer segments
front_closed : (σ : Setting) (xs ys : List Doc) (s : ℕ) → IsPrefix xs ys → s + 1 < length (cut σ xs) → length (cut σ xs) ≤ length (cut σ ys)
front_closed σ xs ys s p h = let g = (closed_stays σ xs p.0 s h).0 in rw p.1 at g

-- where all but one of the segments are among the first n
pub few_left : (σ : Setting) (xs ys : List Doc) (n : ℕ) → IsPrefix xs ys → length (cut σ ys) ≤ n + 1 → AreConverted σ xs n
few_left σ xs ys n p few = record { each = λ s h. let g = front_closed σ xs ys s p h in omega (arith, g, few, h) }

-- what holds of a history holds of its prefixes
pub converted_front : (σ : Setting) (xs ys : List Doc) (n : ℕ) → IsPrefix xs ys → AreConverted σ ys n → AreConverted σ xs n
converted_front σ xs ys n p are = record { each = λ s h. let g = front_closed σ xs ys s p h in are.each s (omega (arith, g, h)) }

-- and among more
pub converted_among : (σ : Setting) (docs : List Doc) (n m : ℕ) → AreConverted σ docs n → n ≤ m → AreConverted σ docs m
converted_among σ docs n m are le = record { each = λ s h. omega (arith, are.each s h, le) }

-- no segment waits
pub none_waits : (σ : Setting) (docs : List Doc) (n : ℕ) → length (cut σ docs) ≤ n + 1 → AreConverted σ docs n
none_waits σ docs n few = record { each = λ s h. omega (arith, few, h) }

-- all that can be is converted, and nothing else
pub all_converted : (σ : Setting) (docs : List Doc) (n : ℕ) → AreConverted σ docs n → AreClosed σ docs n → n ≡ most_converted (length (cut σ docs))
all_converted σ docs zero are closed =
    elim (cases_lt (0 + 1) (length (cut σ docs))) [ inl low ↦ (let less = are.each 0 low in omega (arith, less)) | inr high ↦ omega (arith, high) ]
all_converted σ docs (suc k) are closed =
    let has = closed k (omega arith) in
    elim (cases_lt (suc k + 1) (length (cut σ docs))) [ inl low ↦ (let less = are.each (suc k) low in omega (arith, less)) | inr high ↦ omega (arith, high, has) ]
