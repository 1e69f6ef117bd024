-- The loads of an and of words, by the rarest of them.
use Rattle.std.proofs.Common.{◌≡◌, ℕ, zero, suc, ◌+◌, ◌*◌, ◌<◌, ◌≤◌, inl, inr, Bool, true, List, [], ◌∷◌, length, drop, get_or, if◌then◌else◌, ap, sym, subst, ◌∙◌, refl, arith}
use Rattle.std.proofs.lemmas.Bool.{cases_lt}
use Rattle.std.proofs.Math.Nat.{suc-mul}
use Rattle.std.specs.List.{Contains}
use Rattle.eb_base.specs.Document.{Doc}
use Rattle.eb_base.specs.Query.{Tree, conjunction, IsFormed}
use Rattle.eb_base.specs.Term.{Term}
use Rattle.eb_place.specs.declared.moment.Moment.{Moment}
use Rattle.eb_place.specs.Moments.{IsMoment}
use Rattle.eb_place.specs.Later.{IsNotBefore}
use Rattle.eb_cursor.specs.AndCosts.{word_parts, documents_with, and_loads, call_loads, FrameOwesAnd}
use Rattle.eb_cursor.specs.Frames.{ids_of}
use Rattle.eb_cursor.specs.declared.frame.Frame.{Frame}
use Rattle.eb_cursor.proofs.AndLoads.{open_later}
use Rattle.eb_search.specs.Bounds.{rarest_count, and_loads_in, and_loads_from, ids_loads}
use Rattle.eb_search.proofs.Bounded.{spared, spares}

-- one of the words is the rarest
pub rarest_word : (docs : List Doc) (ts : List Term) → 0 < length ts → (t : Term) × Contains ts t × (documents_with docs t ≡ rarest_count docs ts)
rarest_word docs [] h = absurd (omega (arith, h))
rarest_word docs (t ∷ []) h = (t, (0, omega arith, refl), refl)
rarest_word docs (t ∷ u ∷ us) h = let r = rarest_word docs (u ∷ us) (omega arith) in elim (cases_lt (documents_with docs t) (rarest_count docs (u ∷ us))) [
  | inl low ↦ (t, (0, omega arith, refl), omega (arith, low))
  | inr high ↦ (r.0, (suc r.1.0, omega (arith, r.1.1), r.1.2), omega (arith, r.2, high))
]

-- an and has parts
pub some_words : (q : Tree) (ts : List Term) → q ≡ conjunction (word_parts ts) → IsFormed q → 0 < length ts
some_words q ts e f = go ts (subst IsFormed e f)
  where
    go : (us : List Term) → IsFormed (conjunction (word_parts us)) → 0 < length us
    go [] h = absurd h.0
    go (u ∷ us) h = omega arith

pub ids_more : (ts : List Term) (k : ℕ) → ids_loads ts (k + 1) ≡ ids_loads ts k + 1 + call_loads ts
unfolding ids_loads
ids_more ts k = let e : k + 1 ≡ suc k = omega arith in let f : (k + 1) * (1 + call_loads ts) ≡ suc k * (1 + call_loads ts) = ap (λ j. j * (1 + call_loads ts)) e in
    f ∙ suc-mul k (1 + call_loads ts) ∙ omega arith

-- a search of an and of words under way in a segment
pub record IsGoingAnd (s : ℕ) (docs : List Doc) (ts : List Term) (t : Term) (f g : Frame) (before after : ℕ) (n : Moment) : Type 0 where
  pub inside : s < n.setting.segments
  pub left : ℕ
  pub owes : FrameOwesAnd n g s docs ts t left
  pub loads : after + left + ids_loads ts (length (ids_of f)) ≤ before + 1 + and_loads n s ts (documents_with docs t) + ids_loads ts (length (ids_of g))

-- ---- the segments

pub and_from_later : (likely : List Bool) (m n : Moment) (s : ℕ) (ts : List Term) (segs : List (List Doc)) → IsMoment m → IsMoment n → IsNotBefore n m
    → s + length segs ≤ m.setting.segments → and_loads_from likely m s ts segs ≤ and_loads_from likely n s ts segs
and_from_later likely m n s ts [] is js l h = omega arith
and_from_later likely m n s ts (docs ∷ more) is js l h =
    let one : and_loads_in m s ts docs ≤ and_loads_in n s ts docs = omega (arith, open_later m n s ts is js l (omega (arith, h))) in
    omega (
      arith,
      spared (get_or likely s true) (and_loads_in m s ts docs) (and_loads_in n s ts docs) one,
      and_from_later likely m n (s + 1) ts more is js l (omega (arith, h)),
    )

-- where segments are skipped no more is loaded
pub and_spared : (likely : List Bool) (n : Moment) (s : ℕ) (ts : List Term) (segs : List (List Doc)) → and_loads_from likely n s ts segs ≤ and_loads_from [] n s ts segs
and_spared likely n s ts [] = omega arith
and_spared likely n s ts (docs ∷ more) = omega (arith, spares (get_or likely s true) (and_loads_in n s ts docs), and_spared likely n (s + 1) ts more)

-- the segments from one on are some of all
and_from_drop : (likely : List Bool) (n : Moment) (r a : ℕ) (ts : List Term) (segs : List (List Doc))
    → and_loads_from likely n (r + a) ts (drop a segs) ≤ and_loads_from likely n r ts segs
and_from_drop likely n r zero ts segs = let e : r + zero ≡ r = omega arith in omega (arith, ap (λ j. and_loads_from likely n j ts segs) e)
and_from_drop likely n r (suc a) ts [] = omega arith
and_from_drop likely n r (suc a) ts (docs ∷ more) =
    let e : r + suc a ≡ (r + 1) + a = omega arith in omega (arith, ap (λ j. and_loads_from likely n j ts (drop a more)) e, and_from_drop likely n (r + 1) a ts more)

pub and_from_all : (likely : List Bool) (n : Moment) (s : ℕ) (ts : List Term) (segs : List (List Doc)) → and_loads_from likely n s ts (drop s segs) ≤ and_loads_from likely n 0 ts segs
and_from_all likely n s ts segs =
    let e : 0 + s ≡ s = omega arith in omega (arith, ap (λ j. and_loads_from likely n j ts (drop s segs)) e, and_from_drop likely n 0 s ts segs)

drop_at : (s : ℕ) (segs : List (List Doc)) → s < length segs → drop s segs ≡ get_or segs s [] ∷ drop (suc s) segs
drop_at s [] h = absurd (omega (arith, h))
drop_at zero (docs ∷ more) h = refl
drop_at (suc s) (docs ∷ more) h = drop_at s more (omega (arith, h))

-- the next older segment
pub and_from_step : (likely : List Bool) (n : Moment) (s end : ℕ) (ts : List Term) (segs : List (List Doc)) → s < length segs → end ≡ s + 1
    → and_loads_from likely n s ts (drop s segs) ≡ (if get_or likely s true then and_loads_in n s ts (get_or segs s []) else 0) + and_loads_from likely n end ts (drop end segs)
and_from_step likely n s end ts segs h e =
    let k : suc s ≡ end = omega (arith, e) in
    let one = if get_or likely s true then and_loads_in n s ts (get_or segs s []) else 0 in
    ap (and_loads_from likely n s ts) (drop_at s segs h) ∙ ap (λ j. one + and_loads_from likely n j ts (drop (suc s) segs)) (sym e)
    ∙ ap (λ j. one + and_loads_from likely n end ts (drop j segs)) k
