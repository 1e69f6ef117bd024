-- The loads of a count of a word's matches.
use Rattle.std.proofs.Common.{◌≡◌, ℕ, zero, suc, ◌+◌, ◌*◌, ◌-◌, ◌≤◌, Bool, List, [], ◌∷◌, ◌++◌, length, take, drop, get_or, cond, ap, sym, ◌∙◌, arith}
use Rattle.std.proofs.lemmas.List.Sums.{sum_by-take-drop}
use Rattle.std.proofs.lemmas.Option.{get_or_from_slice_get}
use mathlib.Core.List.{IsPrefix}
use Rattle.eb_base.specs.Document.{Doc}
use Rattle.eb_base.specs.Match.{is_match}
use Rattle.eb_base.specs.Query.{Tree, word}
use Rattle.eb_base.specs.Term.{Term}
use Rattle.eb_base.proofs.Matching.{match_decides}
use Rattle.eb_count.specs.Counts.{match_count}
use Rattle.eb_count.proofs.Counting.{count_cons, count_append}
use Rattle.eb_cursor.specs.Greatest.{IsGreatest}
use Rattle.eb_place.specs.declared.moment.Moment.{Moment}
use Rattle.eb_place.specs.Room.{cut}
use Rattle.eb_search.specs.Bounds.{loads_from, match_loads, count_bound}
use Rattle.eb_search.proofs.Bounded.{front_is}
use Rattle.eb_search.proofs.Totals.{front_at}

pub match_loads_le : (b i j : ℕ) → i ≤ j → match_loads b i ≤ match_loads b j
match_loads_le zero i j h = omega arith
match_loads_le (suc b) i j h = h

pub match_loads_on : (b i j : ℕ) → match_loads b (i + j) ≡ match_loads b i + match_loads b j
match_loads_on zero i j = omega arith
match_loads_on (suc b) i j = omega arith

-- from an older document on no fewer match
pub match_count_drop : (q : Tree) (docs : List Doc) (i j : ℕ) → i ≤ j → match_count q (drop j docs) ≤ match_count q (drop i docs)
match_count_drop q docs zero j h = omega (arith, sum_by-take-drop {X = Doc} (λ x. cond (is_match q x) 1 0) docs j)
match_count_drop q docs (suc i) zero h = absurd (omega (arith, h))
match_count_drop q [] (suc i) (suc j) h = omega arith
match_count_drop q (d ∷ docs) (suc i) (suc j) h = match_count_drop q docs i j (omega (arith, h))

-- the greatest match is one more
pub loads_next : (q : Tree) (docs : List Doc) (b end d : ℕ) → 1 ≤ end → end ≤ length docs → IsGreatest q docs (end - 1) d
    → match_loads b (match_count q (drop end docs)) + match_loads b 1 ≤ match_loads b (match_count q (drop d docs))
loads_next q docs b end d some le g =
    let x : Doc = g.matches.0 in
    let low = g.within in
    let at : x ≡ get_or docs d x = sym (get_or_from_slice_get docs d x x g.matches.1) in
    let front : drop d docs ≡ x ∷ drop (d + 1) docs = front_at docs d x (omega (arith, low, some, le)) at in
    let one : cond (is_match q x) 1 0 ≡ 1 = ap (λ z. cond z 1 0) ((match_decides q x).1 g.matches.2) in
    let here : match_count q (drop d docs) ≡ 1 + match_count q (drop (d + 1) docs) =
    ap (match_count q) front ∙ count_cons (is_match q) x (drop (d + 1) docs) ∙ ap (λ k. k + match_count q (drop (d + 1) docs)) one in
    let newer = match_count_drop q docs (d + 1) end (omega (arith, low, some)) in
    let more : match_count q (drop end docs) + 1 ≤ match_count q (drop d docs) = omega (arith, here, newer) in
    omega (arith, match_loads_on b (match_count q (drop end docs)) 1, match_loads_le b (match_count q (drop end docs) + 1) (match_count q (drop d docs)) more)

-- all matches are no fewer
pub loads_all : (q : Tree) (docs : List Doc) (b end : ℕ) → match_loads b (match_count q (drop end docs)) ≤ match_loads b (match_count q docs)
loads_all q docs b end = match_loads_le b (match_count q (drop end docs)) (match_count q docs) (match_count_drop q docs 0 end (omega arith))

-- a segment before the newer ones
pub loads_segment : (q : Tree) (docs part : List Doc) (b start end : ℕ) → drop start docs ≡ part ++ drop end docs
    → match_loads b (match_count q (drop start docs)) ≡ match_loads b (match_count q part) + match_loads b (match_count q (drop end docs))
loads_segment q docs part b start end e =
    ap (λ xs. match_loads b (match_count q xs)) e ∙ ap (match_loads b) (count_append (is_match q) part (drop end docs))
    ∙ match_loads_on b (match_count q part) (match_count q (drop end docs))

-- the bound, by the documents that are counted
pub count_bound_is : (likely : List Bool) (was n : Moment) (docs : List Doc) (counted : ℕ) (t : Term) (b : ℕ) → length docs ≡ counted → IsPrefix docs n.documents.accepted
    → count_bound likely was n counted t b
    ≡ 1 + 2 * n.setting.segments + match_loads b (match_count (word t) docs) + loads_from likely was n 0 (length (cut n.setting docs)) t
count_bound_is likely was n docs counted t b same p =
    let now : take counted n.documents.accepted ≡ docs = ap (λ k. take k n.documents.accepted) (sym same) ∙ front_is docs n.documents.accepted p in
    ap (λ xs. 1 + 2 * n.setting.segments + match_loads b (match_count (word t) xs) + loads_from likely was n 0 (length (cut n.setting xs)) t) now
