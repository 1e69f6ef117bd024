-- Where the terms of a window can begin: the higher the end, the higher that place.
use Rattle.std.proofs.Common.{◌≡◌, ℕ, zero, suc, ◌-◌, ◌<◌, ◌≤◌, List, [], ◌∷◌, arith}
use Rattle.eb_base.specs.Document.{Doc}
use Rattle.eb_cursor.specs.Tops.{number_before}
use Rattle.eb_cursor.specs.Posted.{is_posting, first_below, reach_end, document_end}
use Rattle.eb_cursor.proofs.Tops.{top_le, top_up}

pub before_up : (a b : ℕ) → a ≤ b → number_before a ≤ number_before b
before_up zero b h = omega arith
before_up (suc a) zero h = absurd (omega arith)
before_up (suc a) (suc b) h = omega arith

pub before_of : (a b : ℕ) → a < b → a ≤ number_before b
before_of a zero h = absurd (omega arith)
before_of a (suc b) h = omega arith

pub before_low : (n : ℕ) → number_before n ≤ n
before_low zero = omega arith
before_low (suc n) = omega arith

pub before_is : (n : ℕ) → number_before n ≡ n - 1
before_is zero = omega arith
before_is (suc n) = omega arith

pub first_up : (docs : List Doc) (ts : List (List ℕ)) (a b : ℕ) → a ≤ b → first_below docs ts a ≤ first_below docs ts b
first_up docs [] a b h = omega arith
first_up docs (t ∷ ts) a b h =
    top_up (is_posting docs t) (number_before (first_below docs ts a)) (number_before (first_below docs ts b)) (before_up (first_below docs ts a) (first_below docs ts b) (first_up docs ts a b h))

-- the terms begin below the end
pub first_low : (docs : List Doc) (ts : List (List ℕ)) (end : ℕ) → number_before (first_below docs ts end) ≤ end
first_low docs [] end = omega arith
first_low docs (t ∷ ts) end =
    let own : first_below docs (t ∷ ts) end ≤ number_before (first_below docs ts end) = top_le (is_posting docs t) (number_before (first_below docs ts end)) in
    omega (arith, before_low (first_below docs (t ∷ ts) end), own, first_low docs ts end)

document_up : (a b : ℕ) → a ≤ b → document_end a ≤ document_end b
document_up zero b h = omega arith
document_up (suc a) zero h = absurd (omega arith)
document_up (suc a) (suc b) h = omega arith

pub reach_up : (w a b : ℕ) → a ≤ b → reach_end w a ≤ reach_end w b
reach_up w a b h = omega (arith, document_up a b h)
