-- The postings of a term in a segment, newest first, fall, and have the bits of a posting.
use Rattle.std.proofs.Common.{◌≡◌, ℕ, zero, suc, ◌+◌, ◌-◌, ◌^◌, ◌<◌, ◌≤◌, List, [], ◌∷◌, ◌++◌, length, reverse, get_or, map, filter, bytes_eq, subst, arith, inl, inr}
use Rattle.std.proofs.lemmas.Bool.{cases_Bool}
use Rattle.std.proofs.lemmas.List.{length-reverse, get_or-reverse}
use Rattle.eb_base.specs.Term.{Term}
use Rattle.eb_base.specs.Document.{Doc, IsDocument}
use Rattle.eb_place.specs.declared.moment.Moment.{Moment}
use Rattle.eb_place.specs.Postings.{Token, tokens_from, segment_from, tokens, postings, posting_of, posting_bits, places}
use Rattle.eb_place.specs.Moments.{with_current, IsMoment}
use Rattle.eb_place.specs.Seen.{segment}
use Rattle.eb_place.proofs.FreshPoolWords.{Each}
use Rattle.eb_place.proofs.FreshPoolWords.Each.{none, more}
use Rattle.eb_place.proofs.WordsAtMoment.{placed_all}
use Rattle.eb_place.proofs.ReaderWords.{posting_small}
use Rattle.eb_place.specs.Falling.{IsFalling, AllBelow}
use Rattle.eb_place.proofs.FallingLists.{falls_from, below_from}

-- the list rises from this number on
abbrev pub RisesFrom : ℕ → List ℕ → Type 0
RisesFrom low [] = Unit {0}
RisesFrom low (x ∷ xs) = (low ≤ x) × RisesFrom (suc x) xs

rises_lower : (a b : ℕ) (xs : List ℕ) → a ≤ b → RisesFrom b xs → RisesFrom a xs
rises_lower a b [] l h = tt
rises_lower a b (x ∷ xs) l h = (omega (arith, h.0), h.1)

-- the postings of these tokens
of_tokens : List ℕ → List Token → List ℕ
of_tokens t ws = map (λ (w : Token). w.posting) (filter (λ (w : Token). bytes_eq t w.term) ws)

rises_tokens : (t : List ℕ) (n p : ℕ) (ts : List Term) (ws : List Token) → p + length ts ≤ places → RisesFrom (posting_of (n + 1) 0) (of_tokens t ws)
    → RisesFrom (posting_of n p) (of_tokens t (tokens_from n p ts ++ ws))
unfolding of_tokens
rises_tokens t n p [] ws l h = rises_lower (posting_of n p) (posting_of (n + 1) 0) (of_tokens t ws) (omega arith) h
rises_tokens t n p (u ∷ us) ws l h = let ih = rises_tokens t n (p + 1) us ws (omega arith) h in
    elim (cases_Bool (bytes_eq t u)) [
      | inl here ↦ rw here (omega arith, rises_lower (suc (posting_of n p)) (posting_of n (p + 1)) (of_tokens t (tokens_from n (p + 1) us ++ ws)) (omega arith) ih)
      | inr away ↦ rw away (rises_lower (posting_of n p) (posting_of n (p + 1)) (of_tokens t (tokens_from n (p + 1) us ++ ws)) (omega arith) ih)
    ]

rises_segment : (t : List ℕ) (n : ℕ) (seg : List Doc) → Each IsDocument seg → RisesFrom (posting_of n 0) (of_tokens t (segment_from n seg))
unfolding of_tokens
rises_segment t n [] none = tt
rises_segment t n (d ∷ ds) (more i h) = let few = i.limits.tokens in rises_tokens t n 0 d.terms (segment_from (n + 1) ds) (omega arith) (rises_segment t (n + 1) ds h)

rises_at : (low : ℕ) (xs : List ℕ) (k : ℕ) → RisesFrom low xs → suc k < length xs → get_or xs k 0 < get_or xs (suc k) 0
rises_at low [] k h l = absurd (omega arith)
rises_at low (x ∷ []) k h l = absurd (omega arith)
rises_at low (x ∷ y ∷ ys) zero h l = let a = (h.1).0 in omega arith
rises_at low (x ∷ y ∷ ys) (suc k) h l = rises_at (suc x) (y ∷ ys) k h.1 (omega arith)

-- the reverse of a rising list falls
falls_back : (low : ℕ) (xs : List ℕ) → RisesFrom low xs → IsFalling (reverse xs)
falls_back low xs h = falls_from (reverse xs) (λ k l.
    (let n = length-reverse xs in
    let j = length xs - 1 - suc k in
    let e : suc j ≡ length xs - 1 - k = omega arith in
    let a = get_or-reverse xs k 0 (omega arith) in
    let b = get_or-reverse xs (suc k) 0 (omega arith) in
    let r = rises_at low xs j h (omega arith) in
    let r' : get_or xs j 0 < get_or xs (length xs - 1 - k) 0 = subst (λ i. get_or xs j 0 < get_or xs i 0) e r in
    omega arith))

-- the postings of a term in a segment rise
pub postings_rise : (m : Moment) (s : ℕ) (t : Term) → IsMoment m → RisesFrom 0 (postings t (segment m s))
unfolding postings tokens of_tokens
postings_rise m s t is = rises_segment t 0 (segment m s) ((placed_all m.setting (with_current m.documents) is.setting is.lawful).limits s)

pub newest_falls : (m : Moment) (s : ℕ) (t : Term) → IsMoment m → IsFalling (reverse (postings t (segment m s)))
unfolding postings tokens of_tokens
newest_falls m s t is =
    let p = placed_all m.setting (with_current m.documents) is.setting is.lawful in
    falls_back (posting_of 0 0) (postings t (segment m s)) (rises_segment t 0 (segment m s) (p.limits s))

pub newest_small : (m : Moment) (s : ℕ) (t : Term) → IsMoment m → AllBelow (2 ^ posting_bits) (reverse (postings t (segment m s)))
newest_small m s t is =
    let xs = postings t (segment m s) in
    below_from (2 ^ posting_bits) (reverse xs) (λ k l. (let a = get_or-reverse xs k 0 (omega (arith, length-reverse xs)) in omega (arith, posting_small m s t (length xs - 1 - k) is)))
