-- Segments that a walk skips, one after another: it finds nothing there, and loads nothing.
use Rattle.std.proofs.Common.{◌≡◌, ℕ, zero, suc, ◌+◌, ◌-◌, ◌<◌, ◌≤◌, Bool, true, false, if◌then◌else◌, List, [], ◌++◌, length, drop, get_or, refl, ap, ◌∙◌, subst, arith, append-nil}
use Rattle.eb_base.specs.Document.{Doc}
use Rattle.eb_base.specs.Match.{answer}
use Rattle.eb_base.specs.Query.{Tree}
use Rattle.eb_base.specs.Setting.{Setting}
use Rattle.eb_base.specs.Term.{Term}
use Rattle.eb_base.proofs.Answering.{answer-append}
use Rattle.eb_count.specs.Tallies.{Numbers, HasCounted}
use Rattle.eb_place.specs.declared.moment.Moment.{Moment}
use Rattle.eb_place.specs.Room.{cut}
use Rattle.eb_cursor.specs.Costs.{word_loads}
use Rattle.eb_search.specs.Bounds.{loads_from, and_loads_in, and_loads_from}
use Rattle.eb_search.specs.Visible.{AreNone, documents_before}
use Rattle.eb_search.proofs.AndBounded.{and_from_step}
use Rattle.eb_search.proofs.Parts.{is_part, drop_segment}
use Rattle.eb_search.proofs.Totals.{tally_past}

-- none of the segments from one on and below another is likely
abbrev pub AreSkipped : List Bool → ℕ → ℕ → Type 0
AreSkipped likely low top = (s : ℕ) → low ≤ s → s < top → get_or likely s true ≡ false

-- the same without the lowest
fewer : (likely : List Bool) (low top : ℕ) → AreSkipped likely low top → AreSkipped likely (low + 1) top
fewer likely low top h s from below = h s (omega (arith, from)) below

-- ---- what is found

abbrev pub before : Setting → List Doc → ℕ → ℕ
before σ docs s = documents_before (cut σ docs) s

answer_past : (q : Tree) (j : ℕ) (σ : Setting) (docs : List Doc) (s : ℕ) → s < length (cut σ docs) → ((k : ℕ) → answer q k (get_or (cut σ docs) s []) ≡ [])
    → answer q j (drop (before σ docs s) docs) ≡ answer q j (drop (before σ docs (s + 1)) docs)
answer_past q j σ docs s here none =
    let part : List Doc = get_or (cut σ docs) s [] in
    let newer : List Doc = drop (before σ docs (s + 1)) docs in
    ap (answer q j) (drop_segment σ docs s here) ∙ answer-append q j part newer
    ∙ ap (λ (z : List ℕ). answer q j newer ++ z) (none (j - length (answer q j newer)))
    ∙ append-nil (answer q j newer)

pub answer_skip : (q : Tree) (j : ℕ) (σ : Setting) (docs : List Doc) (likely : List Bool) (d low top : ℕ) → low + d ≡ top → top ≤ length (cut σ docs)
    → AreNone q (cut σ docs) likely → AreSkipped likely low top → answer q j (drop (before σ docs low) docs) ≡ answer q j (drop (before σ docs top) docs)
answer_skip q j σ docs likely zero low top e few none h =
    let same : low ≡ top = omega (arith, e) in
    ap (λ s. answer q j (drop (before σ docs s) docs)) same
answer_skip q j σ docs likely (suc d) low top e few none h =
    let there : low < top = omega (arith, e) in
    answer_past q j σ docs low (omega (arith, e, few)) (λ k. none low k (h low (omega arith) there))
    ∙ answer_skip q j σ docs likely d (low + 1) top (omega (arith, e)) few none (fewer likely low top h)

pub tally_skip : (q : Tree) (σ : Setting) (docs : List Doc) (a b : Numbers) (likely : List Bool) (d low top : ℕ) → low + d ≡ top → top ≤ length (cut σ docs)
    → AreNone q (cut σ docs) likely → AreSkipped likely low top → HasCounted q (drop (before σ docs top) docs) a b → HasCounted q (drop (before σ docs low) docs) a b
tally_skip q σ docs a b likely zero low top e few none h c =
    let same : top ≡ low = omega (arith, e) in
    subst (λ s. HasCounted q (drop (before σ docs s) docs) a b) same c
tally_skip q σ docs a b likely (suc d) low top e few none h c =
    let there : low < top = omega (arith, e) in
    tally_past q docs (get_or (cut σ docs) low []) a b (before σ docs low) (before σ docs (low + 1)) (drop_segment σ docs low (omega (arith, e, few)))
    (λ k. none low k (h low (omega arith) there))
    (tally_skip q σ docs a b likely d (low + 1) top (omega (arith, e)) few none (fewer likely low top h) c)

-- no fewer documents come before a newer segment
pub before_le : (σ : Setting) (docs : List Doc) (d low top : ℕ) → low + d ≡ top → top ≤ length (cut σ docs) → before σ docs low ≤ before σ docs top
before_le σ docs zero low top e few = let same : low ≡ top = omega (arith, e) in omega (arith, ap (before σ docs) same)
before_le σ docs (suc d) low top e few =
    omega (arith, (is_part σ docs low (omega (arith, e, few))).next, before_le σ docs d (low + 1) top (omega (arith, e)) few)

-- ---- what is loaded

skips : (b : Bool) (x : ℕ) → b ≡ false → (if b then x else 0) ≡ 0
skips b x e = ap (λ (z : Bool). if z then x else 0) e

pub loads_skip : (likely : List Bool) (was n : Moment) (t : Term) (begun d low top : ℕ) → low + d ≡ top → top ≤ begun → AreSkipped likely low top
    → loads_from likely was n low (begun - low) t ≡ loads_from likely was n top (begun - top) t
loads_skip likely was n t begun zero low top e le h =
    let same : low ≡ top = omega (arith, e) in
    ap (λ s. loads_from likely was n s (begun - s) t) same
loads_skip likely was n t begun (suc d) low top e le h =
    let there : low < top = omega (arith, e) in
    let more : begun - low ≡ suc (begun - (low + 1)) = omega (arith, e, le) in
    let rest = loads_skip likely was n t begun d (low + 1) top (omega (arith, e)) le (fewer likely low top h) in
    let none = skips (get_or likely low true) (word_loads was n low t) (h low (omega arith) there) in
    omega (arith, ap (λ k. loads_from likely was n low k t) more, none, rest)

pub and_skip : (likely : List Bool) (n : Moment) (ts : List Term) (segs : List (List Doc)) (d low top : ℕ) → low + d ≡ top → top ≤ length segs → AreSkipped likely low top
    → and_loads_from likely n low ts (drop low segs) ≡ and_loads_from likely n top ts (drop top segs)
and_skip likely n ts segs zero low top e le h =
    let same : low ≡ top = omega (arith, e) in
    ap (λ s. and_loads_from likely n s ts (drop s segs)) same
and_skip likely n ts segs (suc d) low top e le h =
    let there : low < top = omega (arith, e) in
    let rest = and_skip likely n ts segs d (low + 1) top (omega (arith, e)) le (fewer likely low top h) in
    let none = skips (get_or likely low true) (and_loads_in n low ts (get_or segs low [])) (h low (omega arith) there) in
    omega (arith, and_from_step likely n low (low + 1) ts segs (omega (arith, e, le)) refl, none, rest)
