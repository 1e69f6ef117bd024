-- Runs: terms of a window next to each other that are one.
use Rattle.std.specs.Prelude.{◌≡◌, ◌⊎◌, ℕ, zero, suc, ◌-◌, ◌<◌, ◌≤◌, Bool, List, [], length, drop, get_or, Option, None, Some}
use Rattle.eb_base.specs.Document.{Doc}
use Rattle.eb_place.specs.declared.moment.Moment.{Moment}
use Rattle.eb_place.specs.Told.{Told}
use Rattle.eb_cursor.specs.Asked.{FoundWithin, FoundEnd}
use Rattle.eb_cursor.specs.Lists.{Gives, gives}
use Rattle.eb_cursor.specs.Posted.{is_posting, last_term, first_below}
use Rattle.eb_cursor.specs.Ready.{IsLeaf, AllBehind}
use Rattle.eb_cursor.specs.Tops.{top, number_before}
use Rattle.eb_cursor.specs.declared.cursor.Cursor.{Cursor}
use Rattle.eb_cursor.specs.declared.run.Run.{Run}
use Rattle.eb_cursor.specs.declared.window.Asked.{Asked}
use Rattle.eb_cursor.specs.declared.window.Span.{Span}

-- ---- terms asked from the last on

-- the terms from one on were asked: the first of these is at this place
abbrev pub AreAsked : Gives → List Doc → List (List ℕ) → List Cursor → ℕ → Asked → Type 0
AreAsked g docs ts cursors end asked = AllBehind g docs ts cursors end × (asked.first ≡ first_below docs (drop asked.left ts) end)

-- at some moment that the port stands for
abbrev pub CanAskDown : {S : Type 0} → (S → Moment → Type 0) → S → List Cursor → Asked → Type 0
CanAskDown stands s cursors asked = (m : Moment) × (docs : List Doc) × (ts : List (List ℕ)) × (end : ℕ) × stands s m × AreAsked (gives m) docs ts cursors end asked

-- more terms were asked
abbrev pub GoesDown : {S : Type 0} → (S → Moment → Type 0) → (S → Moment → S → Moment → Type 0) → S → S → List Cursor → List Cursor → Asked → Asked → Type 0
GoesDown stands keeps s t old new asked result = (docs : List Doc) (ts : List (List ℕ)) (end : ℕ)
    → Told stands keeps s t (λ m. AreAsked (gives m) docs ts old end asked) (λ n. AreAsked (gives n) docs ts new end result)

-- cursors before a number, and those from another on, are as they were
abbrev pub AreKept : List Cursor → List Cursor → ℕ → ℕ → Type 0
AreKept old new low high = (i : ℕ) (d : Cursor) → (i < low) ⊎ (high ≤ i) → get_or new i d ≡ get_or old i d

-- ---- runs

-- the terms from one on to before another are one, and they are several
pub record IsRun (ts : List (List ℕ)) (run : Run) : Type 0 where
  pub several : suc run.from < run.to
  pub within : run.to ≤ length ts
  pub one : (k : ℕ) → run.from ≤ k → k < run.to → get_or ts k [] ≡ get_or ts run.from []

-- the terms have this run, if one is named
abbrev pub HasRun : Option Run → List (List ℕ) → Type 0
HasRun None ts = Unit {0}
HasRun (Some run) ts = IsRun ts run

-- no run has more terms than this one, and none before it has as many; if none is named, none has three
abbrev pub IsLongest : Option Run → List (List ℕ) → Type 0
IsLongest None ts = (r : Run) → IsRun ts r → r.to - r.from < 3
IsLongest (Some run) ts = (3 ≤ run.to - run.from) × ((r : Run) → IsRun ts r → (r.to - r.from ≤ run.to - run.from) × (r.from < run.from → r.to - r.from < run.to - run.from))

-- one more than the n-th number that passes before this one, counted down; this one where n is 0
abbrev pub back : (ℕ → Bool) → ℕ → ℕ → ℕ
back f zero place = place
back f (suc n) place = top f (number_before (back f n place))

-- the postings of the run's term
abbrev pub is_of_run : List Doc → List (List ℕ) → Run → ℕ → Bool
is_of_run docs ts run = is_posting docs (get_or ts run.from [])

-- the end below which the last term of the run is, where the window is below an end
abbrev pub run_end : List Doc → List (List ℕ) → Run → ℕ → ℕ
run_end docs ts run end = number_before (first_below docs (drop run.to ts) end)

-- the first and the last term of the run stand as far apart as its terms need, the last where it is
-- below the end or further on, and the cursor of neither has passed a place before its own
pub record StandsAt (g : Gives) (docs : List Doc) (ts : List (List ℕ)) (cursors : List Cursor) (run : Run) (end : ℕ) (span : Span) : Type 0 where
  pub apart : span.first ≡ back (is_of_run docs ts run) (run.to - run.from - 1) span.last
  pub there : top (is_of_run docs ts run) span.last ≡ span.last
  pub far : top (is_of_run docs ts run) (run_end docs ts run end) ≤ span.last
  pub first : (d : Cursor) → IsLeaf g (is_of_run docs ts run) (get_or cursors run.from d) span.first
  pub last : (d : Cursor) → IsLeaf g (is_of_run docs ts run) (get_or cursors (run.to - 1) d) span.last

-- so the run stands, if there is one and its places are known
abbrev pub Knows : Gives → List Doc → List (List ℕ) → List Cursor → Option Run → ℕ → Option Span → Type 0
Knows g docs ts cursors None end known = Unit {0}
Knows g docs ts cursors (Some run) end None = Unit {0}
Knows g docs ts cursors (Some run) end (Some span) = StandsAt g docs ts cursors run end span

-- the first and the last term of the run are at these places
abbrev pub IsRunAt : Gives → List Doc → List (List ℕ) → List Cursor → Run → ℕ → Span → Type 0
IsRunAt g docs ts cursors run end span = (span.first ≡ first_below docs (drop run.from ts) end) × (span.last ≡ first_below docs (drop (run.to - 1) ts) end)
    × AllBehind g docs ts cursors end × StandsAt g docs ts cursors run end span

-- ---- what may be asked, and what is found

-- the terms after the run were asked, and the run's places may be known
abbrev pub CanAskRun : {S : Type 0} → (S → Moment → Type 0) → S → Run → Option Span → List Cursor → Asked → Type 0
CanAskRun stands s run known cursors asked = (m : Moment) × (docs : List Doc) × (ts : List (List ℕ)) × (end : ℕ) × stands s m × IsRun ts run
    × AreAsked (gives m) docs ts cursors end asked × Knows (gives m) docs ts cursors (Some run) end known

-- where the run is
abbrev pub FindsRun : {S : Type 0} → (S → Moment → Type 0) → (S → Moment → S → Moment → Type 0) → S → S → Run → Option Span → List Cursor → List Cursor → Asked → Span → Type 0
FindsRun stands keeps s t run known old new asked span = (docs : List Doc) (ts : List (List ℕ)) (end : ℕ) → IsRun ts run
    → Told stands keeps s t (λ m. AreAsked (gives m) docs ts old end asked × Knows (gives m) docs ts old (Some run) end known) (λ n. IsRunAt (gives n) docs ts new run end span)

-- the run is at these places, and the last of all terms at this one
abbrev pub CanAskBefore : {S : Type 0} → (S → Moment → Type 0) → S → Run → Span → ℕ → List Cursor → Type 0
CanAskBefore stands s run span last cursors = (m : Moment) × (docs : List Doc) × (ts : List (List ℕ)) × (end : ℕ) × stands s m × IsRun ts run
    × (last ≡ top (is_posting docs (last_term ts)) end) × IsRunAt (gives m) docs ts cursors run end span

-- where the first is, where it is within the limit
abbrev pub FindsBefore : {S : Type 0} → (S → Moment → Type 0) → (S → Moment → S → Moment → Type 0) → S → S → ℕ → Run → Span → ℕ → List Cursor → List Cursor → Span → Type 0
FindsBefore stands keeps s t limit run span last old new result = (docs : List Doc) (ts : List (List ℕ)) (end : ℕ) → IsRun ts run → last ≡ top (is_posting docs (last_term ts)) end
    → Told stands keeps s t (λ m. IsRunAt (gives m) docs ts old run end span) (λ n. FoundWithin ts docs limit new end result n × StandsAt (gives n) docs ts new run end span)

-- a window may be asked, and the places of its run may be known
abbrev pub CanLook : {S : Type 0} → (S → Moment → Type 0) → S → Option Run → Option Span → List Cursor → ℕ → Type 0
CanLook stands s run known cursors end = (m : Moment) × (docs : List Doc) × (ts : List (List ℕ)) × (last : ℕ) × stands s m × (end ≤ last) × HasRun run ts
    × AllBehind (gives m) docs ts cursors last × Knows (gives m) docs ts cursors run last known

-- where the terms of a window are, the first where it is within the limit, and where its run is
abbrev pub Looks : {S : Type 0} → (S → Moment → Type 0) → (S → Moment → S → Moment → Type 0) → S → S → ℕ → Option Run → Option Span → Option Span → List Cursor → List Cursor → ℕ → Span → Type 0
Looks stands keeps s t limit run known known2 old new end span = (docs : List Doc) (ts : List (List ℕ)) (last : ℕ) → end ≤ last → HasRun run ts
    → Told stands keeps s t (λ m. AllBehind (gives m) docs ts old last × Knows (gives m) docs ts old run last known)
    (λ n. FoundWithin ts docs limit new end span n × Knows (gives n) docs ts new run end known2)

-- a window of terms with such a run may be asked
abbrev pub CanAskWith : {S : Type 0} → (S → Moment → Type 0) → S → Option Run → List Cursor → ℕ → Type 0
CanAskWith stands s run cursors end = (m : Moment) × (docs : List Doc) × (ts : List (List ℕ)) × (last : ℕ) × stands s m × (end ≤ last) × HasRun run ts × AllBehind (gives m) docs ts cursors last

-- the greatest place where one ends
abbrev pub FindsEndWith : {S : Type 0} → (S → Moment → Type 0) → (S → Moment → S → Moment → Type 0) → S → S → Option Run → ℕ → List Cursor → List Cursor → ℕ → ℕ → Type 0
FindsEndWith stands keeps s t run w old new end found = (docs : List Doc) (ts : List (List ℕ)) (last : ℕ) → end ≤ last → HasRun run ts
    → Told stands keeps s t (λ m. AllBehind (gives m) docs ts old last) (FoundEnd ts w docs new end found)
