-- The matches of one segment, from the newest on.
use Rattle.std.proofs.Common.{◌≡◌, ℕ, zero, suc, ◌+◌, ◌-◌, ◌<◌, ◌≤◌, inl, inr, false, List, [], ◌∷◌, ◌++◌, length, take}
use Rattle.std.proofs.Common.{drop, get_or, None, refl, ap, sym, ◌∙◌, subst, arith, append-nil, append_assoc, length-append}
use Rattle.std.proofs.lemmas.Bool.{cases_Bool}
use Rattle.std.proofs.lemmas.List.{take-append-drop}
use Rattle.std.proofs.Math.Seq.{drop-length}
use Rattle.std.proofs.lemmas.Option.{slice_get-get_or, get_or_from_slice_get}
use Rattle.eb_base.specs.Document.{Doc}
use Rattle.eb_base.specs.Query.{Tree}
use Rattle.eb_base.specs.Match.{is_match, answer}
use Rattle.eb_base.proofs.Answering.{IsWalk, walk_match, walk_other, walk_full, walk_end, walk_start, answer-append}
use Rattle.eb_cursor.specs.Greatest.{MatchesAt, IsGreatest, IsGreatestMatch}
use Rattle.eb_base.proofs.Matching.{match_decides}

-- a document that no answer needs
abbrev pub nobody : Doc
nobody = record { id = 0; terms = [] }

-- nothing matches between two places
walk_down : (q : Tree) (k : ℕ) (docs : List Doc) (low more : ℕ) (ids : List ℕ) → low + more ≤ length docs
    → ((n : ℕ) → low ≤ n → n < low + more → MatchesAt q docs n → ⊥) → IsWalk q k docs (low + more) ids → IsWalk q k docs low ids
walk_down q k docs low zero ids le none w = let e : low + 0 ≡ low = omega arith in subst (λ z. IsWalk q k docs z ids) e w
walk_down q k docs low (suc more) ids le none w =
    let at : ℕ = low + more in
    let next : low + suc more ≡ at + 1 = omega arith in
    let d : Doc = get_or docs at nobody in
    let there = slice_get-get_or docs at nobody (omega arith) in
    let e : d ≡ get_or docs at d = sym (get_or_from_slice_get docs at d d there) in
    let away : is_match q d ≡ false = elim (cases_Bool (is_match q d)) [
      | inl y ↦ absurd (none at (omega arith) (omega arith) (d, there, (match_decides q d).0 y))
      | inr n ↦ n
    ] in
    walk_down q k docs low more ids (omega arith) (λ n a b m. none n a (omega arith) m) (walk_other q k docs at d ids (omega arith) e away (subst (λ z. IsWalk q k docs z ids) next w))

-- the matches that are found of a segment, down to a place, after those ids that were there before
pub record HasFound (q : Tree) (k : ℕ) (before : List ℕ) (docs : List Doc) (end : ℕ) (ids : List ℕ) : Type 0 where
  pub found : List ℕ
  pub all : ids ≡ before ++ found
  pub walk : IsWalk q (k - length before) docs end found

pub found_nothing : (q : Tree) (k : ℕ) (before : List ℕ) (docs : List Doc) (end : ℕ) (ids : List ℕ) → end ≡ length docs → ids ≡ before → HasFound q k before docs end ids
found_nothing q k before docs end ids e i = record { found = []; all = i ∙ sym (append-nil before); walk = walk_start q (k - length before) docs end [] e refl }

-- the greatest match is the next
pub found_next : (q : Tree) (k : ℕ) (before : List ℕ) (docs : List Doc) (end d id : ℕ) (ids ids' : List ℕ) → 1 ≤ end
    → end ≤ length docs → length ids < k → (g : IsGreatest q docs (end - 1) d) → id ≡ g.matches.0.id → ids' ≡ ids ++ id ∷ []
    → HasFound q k before docs end ids → HasFound q k before docs d ids'
found_next q k before docs end d id ids ids' some le room g i j h =
    let x : Doc = g.matches.0 in
    let low = g.within in
    let e : (d + 1) + (end - (d + 1)) ≡ end = omega arith in
    let w = walk_down q (k - length before) docs (d + 1) (end - (d + 1)) h.found (omega arith)
    (λ n a b m. g.greatest n (omega arith) (omega arith) m) (subst (λ z. IsWalk q (k - length before) docs z h.found) (sym e) h.walk) in
    let at : x ≡ get_or docs d x = sym (get_or_from_slice_get docs d x x g.matches.1) in
    record {
      found = h.found ++ x.id ∷ [];
      all = j ∙ ap (λ z. ids ++ z ∷ []) i ∙ ap (λ (z : List ℕ). z ++ x.id ∷ []) h.all ∙ append_assoc before h.found (x.id ∷ []);
      walk = walk_match q (k - length before) docs d x h.found (omega arith) at ((match_decides q x).1 g.matches.2) (omega (arith, ap length h.all, length-append before h.found)) w;
    }

-- no further match
pub found_none : (q : Tree) (k : ℕ) (before : List ℕ) (docs : List Doc) (end : ℕ) (ids : List ℕ) → end ≤ length docs
    → IsGreatestMatch q docs (end - 1) None → HasFound q k before docs end ids → ids ≡ before ++ answer q (k - length before) docs
found_none q k before docs end ids le g h =
    let e : end ≡ 0 + end = omega arith in
    let w = walk_down q (k - length before) docs 0 end h.found (omega arith) (λ n a b m. g n (omega arith) m) (subst (λ z. IsWalk q (k - length before) docs z h.found) e h.walk) in
    h.all ∙ ap (λ (z : List ℕ). before ++ z) (walk_end q (k - length before) docs h.found w)

-- all documents are passed
pub found_all : (q : Tree) (k : ℕ) (before : List ℕ) (docs : List Doc) (end : ℕ) (ids : List ℕ) → end ≡ 0 → HasFound q k before docs end ids → ids ≡ before ++ answer q (k - length before) docs
found_all q k before docs end ids e h = h.all ∙ ap (λ (z : List ℕ). before ++ z) (walk_end q (k - length before) docs h.found (subst (λ z. IsWalk q (k - length before) docs z h.found) e h.walk))

-- no more are wanted
pub found_full : (q : Tree) (k : ℕ) (before : List ℕ) (docs : List Doc) (end : ℕ) (ids : List ℕ) → length ids ≡ k → HasFound q k before docs end ids → ids ≡ before ++ answer q (k - length before) docs
found_full q k before docs end ids e h =
    h.all ∙ ap (λ (z : List ℕ). before ++ z) (walk_full q (k - length before) docs end h.found h.walk (omega (arith, ap length h.all, length-append before h.found)))

-- ---- over all segments

answer_none : (q : Tree) (docs : List Doc) → answer q 0 docs ≡ []
unfolding answer
answer_none q docs = refl

-- a segment's answer after that of the newer segments
pub answer_next : (q : Tree) (k : ℕ) (docs part : List Doc) (start end : ℕ) (ids ids' : List ℕ) → drop start docs ≡ part ++ drop end docs
    → ids ≡ answer q k (drop end docs) → ids' ≡ ids ++ answer q (k - length ids) part → ids' ≡ answer q k (drop start docs)
answer_next q k docs part start end ids ids' e i j =
    j ∙ (λ t. i t ++ answer q (k - length (i t)) part) ∙ sym (ap (answer q k) e ∙ answer-append q k part (drop end docs))

-- a full answer over the newest documents is that over all
pub answer_full : (q : Tree) (k : ℕ) (docs : List Doc) (end : ℕ) (ids : List ℕ) → length ids ≡ k → ids ≡ answer q k (drop end docs) → ids ≡ answer q k docs
answer_full q k docs end ids e i =
    let left : k - length (answer q k (drop end docs)) ≡ 0 = omega (arith, ap length i) in
    sym (ap (answer q k) (sym (take-append-drop end docs)) ∙ answer-append q k (take end docs) (drop end docs)
    ∙ ap (λ n. answer q k (drop end docs) ++ answer q n (take end docs)) left
    ∙ ap (λ (z : List ℕ). answer q k (drop end docs) ++ z) (answer_none q (take end docs))
    ∙ append-nil (answer q k (drop end docs)) ∙ sym i)

answer_nothing : (q : Tree) (k : ℕ) → answer q k [] ≡ []
unfolding answer
answer_nothing q zero = refl
answer_nothing q (suc k) = refl

-- no document is after the last
pub answer_first : (q : Tree) (k : ℕ) (docs : List Doc) (end : ℕ) (ids : List ℕ) → end ≡ length docs → ids ≡ [] → ids ≡ answer q k (drop end docs)
answer_first q k docs end ids e i = i ∙ sym (ap (answer q k) (ap (λ n. drop n docs) e ∙ drop-length docs) ∙ answer_nothing q k)

-- ---- the same after ids that a frame held before

pub more_next : (q : Tree) (k : ℕ) (before : List ℕ) (docs part : List Doc) (start end : ℕ) (ids ids' : List ℕ) → drop start docs ≡ part ++ drop end docs
    → ids ≡ before ++ answer q (k - length before) (drop end docs) → ids' ≡ ids ++ answer q (k - length ids) part
    → ids' ≡ before ++ answer q (k - length before) (drop start docs)
more_next q k before docs part start end ids ids' e i j =
    let newer : List ℕ = answer q (k - length before) (drop end docs) in
    let left : k - length ids ≡ (k - length before) - length newer = omega (arith, ap length i, length-append before newer) in
    let older : List ℕ = answer q ((k - length before) - length newer) part in
    j ∙ ap (λ n. ids ++ answer q n part) left ∙ ap (λ (z : List ℕ). z ++ older) i ∙ append_assoc before newer older
    ∙ ap (λ (z : List ℕ). before ++ z) (answer_next q (k - length before) docs part start end newer (newer ++ older) e refl refl)

pub more_full : (q : Tree) (k : ℕ) (before : List ℕ) (docs : List Doc) (end : ℕ) (ids : List ℕ) → length ids ≡ k
    → ids ≡ before ++ answer q (k - length before) (drop end docs) → ids ≡ before ++ answer q (k - length before) docs
more_full q k before docs end ids e i =
    let newer : List ℕ = answer q (k - length before) (drop end docs) in
    i ∙ ap (λ (z : List ℕ). before ++ z) (answer_full q (k - length before) docs end newer (omega (arith, ap length i, length-append before newer)) refl)

pub more_first : (q : Tree) (k : ℕ) (before : List ℕ) (docs : List Doc) (end : ℕ) → end ≡ length docs → before ≡ before ++ answer q (k - length before) (drop end docs)
more_first q k before docs end e =
    sym (ap (λ (z : List ℕ). before ++ z) (sym (answer_first q (k - length before) docs end [] e refl)) ∙ append-nil before)

-- after none it is the answer
pub more_none : (q : Tree) (k : ℕ) (before : List ℕ) (docs : List Doc) (ids : List ℕ) → before ≡ [] → ids ≡ before ++ answer q (k - length before) docs → ids ≡ answer q k docs
more_none q k before docs ids e i =
    let all : k - length before ≡ k = omega (arith, ap length e) in
    i ∙ ap (λ n. before ++ answer q n docs) all ∙ ap (λ (z : List ℕ). z ++ answer q k docs) e
