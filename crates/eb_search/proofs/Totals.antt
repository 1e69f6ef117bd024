-- What a tally has counted of a segment, from the newest document on, and of all segments.
use Rattle.std.proofs.Common.{◌≡◌, ℕ, zero, suc, ◌+◌, ◌-◌, ◌<◌, ◌≤◌, inl, inr, false, List, [], ◌∷◌, ◌++◌, length, map, filter, take, drop, get_or, None, refl, ap, sym, ◌∙◌, subst}
use Rattle.std.proofs.Common.{arith, add-one, drop-cons}
use Rattle.std.proofs.lemmas.Bool.{cases_Bool}
use Rattle.std.proofs.lemmas.List.{take_all, length-map, length-reverse}
use Rattle.std.proofs.lemmas.List.Sums.{length-filter}
use Rattle.std.proofs.Math.Seq.{drop-length}
use Rattle.std.proofs.lemmas.Option.{slice_get-get_or, get_or_from_slice_get}
use Rattle.eb_base.specs.Document.{Doc}
use Rattle.eb_base.specs.Query.{Tree}
use Rattle.eb_base.specs.Match.{is_match, matches, answer}
use Rattle.eb_base.proofs.Matching.{match_decides}
use Rattle.eb_count.specs.Counts.{match_count}
use Rattle.eb_count.specs.Tallies.{Numbers, HasAdded, HasCounted}
use Rattle.eb_count.proofs.Counting.{counted_none, counted_on, counted_match, counted_other, counted_skip}
use Rattle.eb_cursor.specs.Greatest.{MatchesAt, IsGreatest, IsGreatestMatch}
use Rattle.eb_search.proofs.Matches.{nobody}

pub front_at : (docs : List Doc) (place : ℕ) (d : Doc) → place < length docs → d ≡ get_or docs place d → drop place docs ≡ d ∷ drop (place + 1) docs
front_at docs place d lt e = rw (add-one, drop-cons docs place d, ← e) refl

-- nothing matches between two places
tally_down : (q : Tree) (docs : List Doc) (a b : Numbers) (low more : ℕ) → low + more ≤ length docs
    → ((n : ℕ) → low ≤ n → n < low + more → MatchesAt q docs n → ⊥) → HasCounted q (drop (low + more) docs) a b → HasCounted q (drop low docs) a b
tally_down q docs a b low zero le none h = let e : low + 0 ≡ low = omega arith in subst (λ z. HasCounted q (drop z docs) a b) e h
tally_down q docs a b low (suc more) le none h =
    let at : ℕ = low + more in
    let next : low + suc more ≡ at + 1 = omega arith in
    let d : Doc = get_or docs at nobody in
    let there = slice_get-get_or docs at nobody (omega arith) in
    let e : d ≡ get_or docs at d = sym (get_or_from_slice_get docs at d d there) in
    let away : is_match q d ≡ false = elim (cases_Bool (is_match q d)) [
      | inl y ↦ absurd (none at (omega arith) (omega arith) (d, there, (match_decides q d).0 y))
      | inr n ↦ n
    ] in
    let front : drop at docs ≡ d ∷ drop (at + 1) docs = front_at docs at d (omega arith) e in
    let one = counted_other q d (drop (at + 1) docs) a b away (subst (λ z. HasCounted q (drop z docs) a b) next h) in
    tally_down q docs a b low more (omega arith) (λ n s t m. none n s (omega arith) m) (subst (λ (z : List Doc). HasCounted q z a b) (sym front) one)

-- no document is after the last
pub tally_start : (q : Tree) (docs : List Doc) (end : ℕ) (a b : Numbers) → end ≡ length docs → b ≡ a → HasCounted q (drop end docs) a b
tally_start q docs end a b e same =
    let none : drop end docs ≡ [] = ap (λ n. drop n docs) e ∙ drop-length docs in
    subst (λ z. HasCounted q (drop end docs) a z) (sym same) (subst (λ (z : List Doc). HasCounted q z a a) (sym none) (counted_none q a))

-- the greatest match is the next
pub tally_next : (q : Tree) (docs : List Doc) (a b c : Numbers) (end d : ℕ) → 1 ≤ end → end ≤ length docs
    → (g : IsGreatest q docs (end - 1) d) → HasAdded g.matches.0.id b c → HasCounted q (drop end docs) a b → HasCounted q (drop d docs) a c
tally_next q docs a b c end d some le g k h =
    let x : Doc = g.matches.0 in
    let low = g.within in
    let e : (d + 1) + (end - (d + 1)) ≡ end = omega arith in
    let w = tally_down q docs a b (d + 1) (end - (d + 1)) (omega arith) (λ n s t m. g.greatest n (omega arith) (omega arith) m) (subst (λ z. HasCounted q (drop z docs) a b) (sym e) h) in
    let at : x ≡ get_or docs d x = sym (get_or_from_slice_get docs d x x g.matches.1) in
    let front : drop d docs ≡ x ∷ drop (d + 1) docs = front_at docs d x (omega arith) at in
    subst (λ (z : List Doc). HasCounted q z a c) (sym front) (counted_match q x (drop (d + 1) docs) a b c ((match_decides q x).1 g.matches.2) k w)

-- no further match
pub tally_last : (q : Tree) (docs : List Doc) (a b : Numbers) (end : ℕ) → end ≤ length docs → IsGreatestMatch q docs (end - 1) None → HasCounted q (drop end docs) a b → HasCounted q docs a b
tally_last q docs a b end le g h =
    let e : end ≡ 0 + end = omega arith in
    tally_down q docs a b 0 end (omega arith) (λ n s t m. g n (omega arith) m) (subst (λ z. HasCounted q (drop z docs) a b) e h)

-- all documents are passed
pub tally_all : (q : Tree) (docs : List Doc) (a b : Numbers) (end : ℕ) → end ≡ 0 → HasCounted q (drop end docs) a b → HasCounted q docs a b
tally_all q docs a b end e h = subst (λ z. HasCounted q (drop z docs) a b) e h

-- a segment after the newer ones
pub tally_segment : (q : Tree) (docs part : List Doc) (a b c : Numbers) (start end : ℕ) → drop start docs ≡ part ++ drop end docs
    → HasCounted q (drop end docs) a b → HasCounted q part b c → HasCounted q (drop start docs) a c
tally_segment q docs part a b c start end e h k = subst (λ (z : List Doc). HasCounted q z a c) (sym e) (counted_on q part (drop end docs) a b c h k)

none_matches : (q : Tree) (part : List Doc) → ((k : ℕ) → answer q k part ≡ []) → match_count q part ≡ 0
unfolding answer
none_matches q part none =
    let all : List Doc = matches q part in
    let long : length (map (λ (d : Doc). d.id) (take (length all) all)) ≡ length all =
    length-map (take (length all) all) (λ (d : Doc). d.id) ∙ ap length (take_all (length all) all (omega arith)) in
    let e : length (map (λ (d : Doc). d.id) (take (length all) all)) ≡ 0 = ap length (none (length all)) in
    let same : length all ≡ match_count q part = length-reverse (filter (is_match q) part) ∙ length-filter {X = Doc} (is_match q) part in
    omega (arith, long, e, same)

-- a segment that is skipped
pub tally_past : (q : Tree) (docs part : List Doc) (a b : Numbers) (start end : ℕ) → drop start docs ≡ part ++ drop end docs
    → ((k : ℕ) → answer q k part ≡ []) → HasCounted q (drop end docs) a b → HasCounted q (drop start docs) a b
tally_past q docs part a b start end e none h = subst (λ (z : List Doc). HasCounted q z a b) (sym e) (counted_skip q part (drop end docs) a b (none_matches q part none) h)
