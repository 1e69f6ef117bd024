-- Laws of the answer: by segments, and by a walk from the newest document.
use Rattle.std.proofs.Common.{◌≡◌, ℕ, zero, suc, ◌+◌, ◌-◌, ◌<◌, ◌≤◌, true, false, List, [], ◌∷◌, ◌++◌, length, take}
use Rattle.std.proofs.Common.{drop, map, get_or, refl, sym, ap, ◌∙◌, arith, rules, length-append, drop-cons, add-one}
use Rattle.std.proofs.lemmas.List.{take-map, take-append-drop}
use Rattle.std.proofs.lemmas.Grind.{common_steps}
use Rattle.std.proofs.Math.Seq.{take-append_seam, drop-length}
use Rattle.eb_base.specs.Document.{Doc}
use Rattle.eb_base.specs.Query.{Tree}
use Rattle.eb_base.specs.Match.{is_match, matches, answer}

abbrev pub ids_of : List Doc → List ℕ
ids_of ds = map (λ (d : Doc). d.id) ds

pub matches-append : (q : Tree) (a b : List Doc) → matches q (a ++ b) ≡ matches q b ++ matches q a
matches-append q a b = search (rules, common_steps)

map-append : (a b : List Doc) → ids_of (a ++ b) ≡ ids_of a ++ ids_of b
map-append [] b = refl
map-append (x ∷ a) b = ap (λ (l : List ℕ). x.id ∷ l) (map-append a b)

pub answer_is : (q : Tree) (k : ℕ) (docs : List Doc) → answer q k docs ≡ take k (ids_of (matches q docs))
unfolding answer
answer_is q k docs = sym (take-map (λ (d : Doc). d.id) k (matches q docs))

take_nil : (k : ℕ) → take {A = ℕ} k [] ≡ []
take_nil zero = refl
take_nil (suc k) = refl

take_append : (k : ℕ) (xs ys : List ℕ) → take k (xs ++ ys) ≡ take k xs ++ take (k - length (take k xs)) ys
take_append k [] ys = let e : k - 0 ≡ k = omega arith in rw (take_nil k, e) refl
take_append zero (x ∷ xs) ys = refl
take_append (suc k) (x ∷ xs) ys = let e : k - length (take k xs) ≡ suc k - suc (length (take k xs)) = omega arith in
    ap (λ (l : List ℕ). x ∷ l) (take_append k xs ys ∙ ap (λ (n : ℕ). take k xs ++ take n ys) e)

-- the newer segment's answer, and then the rest
pub answer-append : (q : Tree) (k : ℕ) (older newer : List Doc) → answer q k (older ++ newer) ≡ answer q k newer ++ answer q (k - length (answer q k newer)) older
answer-append q k older newer =
    answer_is q k (older ++ newer) ∙ ap (λ (l : List Doc). take k (ids_of l)) (matches-append q older newer) ∙ ap (take k) (map-append (matches q newer) (matches q older))
    ∙ take_append k (ids_of (matches q newer)) (ids_of (matches q older))
    ∙ rw (answer_is q k newer, answer_is q (k - length (take k (ids_of (matches q newer)))) older) refl

-- ---- a walk from the newest document to the oldest

-- the ids of the matches from a place on, of which there are at most k
pub record IsWalk (q : Tree) (k : ℕ) (docs : List Doc) (place : ℕ) (ids : List ℕ) : Type 0 where
  pub ids_are : ids ≡ ids_of (matches q (drop place docs))
  pub few : length ids ≤ k

matches-cons_true : (q : Tree) (d : Doc) (ds : List Doc) → is_match q d ≡ true → matches q (d ∷ ds) ≡ matches q ds ++ d ∷ []
matches-cons_true q d ds e = matches-append q (d ∷ []) ds ∙ ap (λ (l : List Doc). matches q ds ++ l) (rw e refl)

matches-cons_false : (q : Tree) (d : Doc) (ds : List Doc) → is_match q d ≡ false → matches q (d ∷ ds) ≡ matches q ds
matches-cons_false q d ds e = rw e refl

front_at : (docs : List Doc) (place : ℕ) (d : Doc) → place < length docs → d ≡ get_or docs place d → drop place docs ≡ d ∷ drop (place + 1) docs
front_at docs place d lt e = rw (add-one, drop-cons docs place d, ← e) refl

-- the document before the walk matches, and its id is the next
pub walk_match : (q : Tree) (k : ℕ) (docs : List Doc) (place : ℕ) (d : Doc) (ids : List ℕ) → place < length docs → d ≡ get_or docs place d
    → is_match q d ≡ true → length ids < k → IsWalk q k docs (place + 1) ids → IsWalk q k docs place (ids ++ d.id ∷ [])
walk_match q k docs place d ids lt e yes_is room w =
    let at : drop place docs ≡ d ∷ drop (place + 1) docs = front_at docs place d lt e in
    record {
      ids_are = ap (λ (l : List ℕ). l ++ d.id ∷ []) w.ids_are
          ∙ sym (ap (λ (l : List Doc). ids_of (matches q l)) at ∙ ap ids_of (matches-cons_true q d (drop (place + 1) docs) yes_is) ∙ map-append (matches q (drop (place + 1) docs)) (d ∷ []));
      few = omega (arith, length-append ids (d.id ∷ []));
    }

-- the document before the walk doesn't match
pub walk_other : (q : Tree) (k : ℕ) (docs : List Doc) (place : ℕ) (d : Doc) (ids : List ℕ) → place < length docs → d ≡ get_or docs place d
    → is_match q d ≡ false → IsWalk q k docs (place + 1) ids → IsWalk q k docs place ids
walk_other q k docs place d ids lt e no_is w =
    let at : drop place docs ≡ d ∷ drop (place + 1) docs = front_at docs place d lt e in
    record {
      ids_are = w.ids_are ∙ sym (ap (λ (l : List Doc). ids_of (matches q l)) at ∙ ap ids_of (matches-cons_false q d (drop (place + 1) docs) no_is));
      few = w.few;
    }

take_whole : (k : ℕ) (xs : List ℕ) → length xs ≤ k → take k xs ≡ xs
take_whole k [] h = take_nil k
take_whole zero (x ∷ xs) h = absurd (omega arith)
take_whole (suc k) (x ∷ xs) h = ap (λ (l : List ℕ). x ∷ l) (take_whole k xs (omega arith))

-- a walk that is full, or has come to the first document, is the answer
pub walk_full : (q : Tree) (k : ℕ) (docs : List Doc) (place : ℕ) (ids : List ℕ) → IsWalk q k docs place ids → length ids ≡ k → ids ≡ answer q k docs
walk_full q k docs place ids w e =
    let more : List ℕ = ids_of (matches q (take place docs)) in
    let all : ids_of (matches q docs) ≡ ids ++ more = ap (λ (l : List Doc). ids_of (matches q l)) (sym (take-append-drop place docs)) ∙ ap ids_of (matches-append q (take place docs) (drop place docs))
    ∙ map-append (matches q (drop place docs)) (matches q (take place docs)) ∙ ap (λ (l : List ℕ). l ++ more) (sym w.ids_are) in
    sym (answer_is q k docs ∙ ap (take k) all ∙ ap (λ (n : ℕ). take n (ids ++ more)) (sym e) ∙ take-append_seam ids more)

pub walk_end : (q : Tree) (k : ℕ) (docs : List Doc) (ids : List ℕ) → IsWalk q k docs 0 ids → ids ≡ answer q k docs
walk_end q k docs ids w = sym (answer_is q k docs ∙ ap (take k) (sym w.ids_are) ∙ take_whole k ids w.few)

pub walk_start : (q : Tree) (k : ℕ) (docs : List Doc) (place : ℕ) (ids : List ℕ) → place ≡ length docs → ids ≡ [] → IsWalk q k docs place ids
walk_start q k docs place ids e n = record {
  ids_are = n ∙ sym (rw (e, drop-length docs) refl);
  few = omega (arith, ap length n);
}
