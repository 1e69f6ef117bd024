-- Runs: where the first and the last of their terms stand.
use Rattle.std.proofs.Common.{◌≡◌, ◌≢◌, inl, inr, ℕ, zero, suc, ◌+◌, ◌-◌, ◌<◌, ◌≤◌, Bool, List, [], length, length-set, Option, None, Some, drop, get_or, set, refl, sym, ap, ◌∙◌, subst, arith}
use Rattle.std.proofs.lemmas.Bool.{cases_lt}
use Rattle.std.proofs.lemmas.List.{get_or-set_same, get_or-set_other, drop_all}
use Rattle.eb_base.specs.Document.{Doc}
use Rattle.eb_cursor.specs.Tops.{top, number_before}
use Rattle.eb_cursor.specs.Lists.{Gives}
use Rattle.eb_cursor.specs.Posted.{is_posting, last_term, first_below}
use Rattle.eb_cursor.specs.Ready.{IsLeaf, AllBehind}
use Rattle.eb_cursor.specs.Runs.{IsRun, HasRun, back, is_of_run, run_end, StandsAt, IsRunAt, AreKept, Knows}
use Rattle.eb_cursor.specs.declared.cursor.Cursor.{Cursor}
use Rattle.eb_cursor.specs.declared.run.Run.{Run}
use Rattle.eb_cursor.specs.declared.window.Span.{Span}
use Rattle.eb_cursor.proofs.Tellings.{Later, later_same}
use Rattle.eb_cursor.proofs.Leaves.{leaf_lower, leaf_later}
use Rattle.eb_cursor.proofs.Readies.{behind_lower}
use Rattle.eb_cursor.proofs.Spans.{before_up, before_is, first_up}
use Rattle.eb_cursor.proofs.Tops.{top_le, top_up, top_twice, top_between}
use Rattle.eb_cursor.proofs.Windows.{behind_length}
use Rattle.eb_cursor.proofs.Backwards.{leaf_at, leaf_put, first_from, last_from}

-- ---- places before a place

back_on : (f : ℕ → Bool) (n place : ℕ) → back f n (top f (number_before place)) ≡ back f (suc n) place
back_on f zero place = refl
back_on f (suc n) place = ap (λ (k : ℕ). top f (number_before k)) (back_on f n place)

back_up : (f : ℕ → Bool) (n a b : ℕ) → a ≤ b → back f n a ≤ back f n b
back_up f zero a b h = h
back_up f (suc n) a b h = top_up f (number_before (back f n a)) (number_before (back f n b)) (before_up (back f n a) (back f n b) (back_up f n a b h))

-- ---- where the terms of a run are

-- the last n of them are n places before the term after the run
run_first : (docs : List Doc) (ts : List (List ℕ)) (run : Run) → IsRun ts run → (n end : ℕ) → n ≤ run.to - run.from
    → first_below docs (drop (run.to - n) ts) end ≡ back (is_of_run docs ts run) n (first_below docs (drop run.to ts) end)
run_first docs ts run r zero end h = let at : run.to - 0 ≡ run.to = omega arith in ap (λ (k : ℕ). first_below docs (drop k ts) end) at
run_first docs ts run r (suc n) end h =
    let next : suc (run.to - suc n) ≡ run.to - n = omega (arith, h) in
    let low : run.to - suc n < length ts = omega (arith, h, r.within) in
    let one : get_or ts (run.to - suc n) [] ≡ get_or ts run.from [] = r.one (run.to - suc n) (omega (arith, h)) (omega (arith, h)) in
    sym (first_from docs ts (run.to - suc n) end low)
    ∙ ap (λ (k : ℕ). top (is_posting docs (get_or ts (run.to - suc n) [])) (number_before (first_below docs (drop k ts) end))) next
    ∙ ap (λ (t : List ℕ). top (is_posting docs t) (number_before (first_below docs (drop (run.to - n) ts) end))) one
    ∙ ap (λ (k : ℕ). top (is_of_run docs ts run) (number_before k)) (run_first docs ts run r n end (omega (arith, h)))

-- so is the last
pub last_of : (docs : List Doc) (ts : List (List ℕ)) (run : Run) → IsRun ts run → (end : ℕ) → first_below docs (drop (run.to - 1) ts) end ≡ top (is_of_run docs ts run) (run_end docs ts run end)
last_of docs ts run r end = run_first docs ts run r 1 end (omega (arith, r.several))

-- so is the first, by the place of the last
pub first_of : (docs : List Doc) (ts : List (List ℕ)) (run : Run) → IsRun ts run → (end : ℕ)
    → first_below docs (drop run.from ts) end ≡ back (is_of_run docs ts run) (run.to - run.from - 1) (top (is_of_run docs ts run) (run_end docs ts run end))
first_of docs ts run r end =
    let f : ℕ → Bool = is_of_run docs ts run in
    let at : run.to - (run.to - run.from) ≡ run.from = omega (arith, r.several) in
    let all : suc (run.to - run.from - 1) ≡ run.to - run.from = omega (arith, r.several) in
    sym (ap (λ (k : ℕ). first_below docs (drop k ts) end) at) ∙ run_first docs ts run r (run.to - run.from) end (omega arith)
    ∙ sym (ap (λ (n : ℕ). back f n (first_below docs (drop run.to ts) end)) all) ∙ sym (back_on f (run.to - run.from - 1) (first_below docs (drop run.to ts) end))

-- and the second
second_of : (docs : List Doc) (ts : List (List ℕ)) (run : Run) → IsRun ts run → (end : ℕ)
    → first_below docs (drop (suc run.from) ts) end ≡ back (is_of_run docs ts run) (run.to - run.from - 1) (first_below docs (drop run.to ts) end)
second_of docs ts run r end =
    let at : run.to - (run.to - run.from - 1) ≡ suc run.from = omega (arith, r.several) in
    sym (ap (λ (k : ℕ). first_below docs (drop k ts) end) at) ∙ run_first docs ts run r (run.to - run.from - 1) end (omega arith)

-- terms before others that don't occur in their order don't either
pub zero_down : (docs : List Doc) (ts : List (List ℕ)) (i j end : ℕ) → i ≤ j → j ≤ length ts → first_below docs (drop j ts) end ≡ 0 → first_below docs (drop i ts) end ≡ 0
zero_down docs ts i j end h l e = go (j - i) i (omega (arith, h))
  where
    go : (n k : ℕ) → k + n ≡ j → first_below docs (drop k ts) end ≡ 0
    go zero k is = let at : j ≡ k = omega (arith, is) in subst (λ (x : ℕ). first_below docs (drop x ts) end ≡ 0) at e
    go (suc n) k is = sym (first_from docs ts k end (omega (arith, is, l)))
        ∙ ap (λ (x : ℕ). top (is_posting docs (get_or ts k [])) (number_before x)) (go n (suc k) (omega (arith, is)))

-- ---- the cursors of a run

last_term_is : (docs : List Doc) (ts : List (List ℕ)) (run : Run) → IsRun ts run → is_posting docs (get_or ts (run.to - 1) []) ≡ is_of_run docs ts run
last_term_is docs ts run r = ap (is_posting docs) (r.one (run.to - 1) (omega (arith, r.several)) (omega (arith, r.several)))

-- a run at its places stands there
pub run_told : (g : Gives) (docs : List Doc) (ts : List (List ℕ)) (cursors : List Cursor) (run : Run) (end : ℕ) (span : Span) → IsRun ts run
    → span.first ≡ first_below docs (drop run.from ts) end → span.last ≡ first_below docs (drop (run.to - 1) ts) end → AllBehind g docs ts cursors end → IsRunAt g docs ts cursors run end span
run_told g docs ts cursors run end span r e i all =
    let f : ℕ → Bool = is_of_run docs ts run in
    let b : ℕ = run_end docs ts run end in
    let few = behind_length g docs ts cursors end all in
    let at : span.last ≡ top f b = i ∙ last_of docs ts run r end in
    let next : suc (run.to - 1) ≡ run.to = omega (arith, r.several) in (
      e,
      i,
      all,
      record {
        apart = e ∙ first_of docs ts run r end ∙ sym (ap (back f (run.to - run.from - 1)) at);
        there = ap (top f) at ∙ top_twice f b ∙ sym at;
        far = omega (arith, at);
        first = λ d.
            let leaf = leaf_at g docs ts cursors d run.from end (omega (arith, few, r.several, r.within)) all in
            let is : top f (number_before (first_below docs (drop (suc run.from) ts) end)) ≡ span.first = first_from docs ts run.from end (omega (arith, r.several, r.within)) ∙ sym e in
            leaf_lower g f (get_or cursors run.from d) span.first (number_before (first_below docs (drop (suc run.from) ts) end))
            (omega (arith, is, top_le f (number_before (first_below docs (drop (suc run.from) ts) end)))) leaf;
        last = λ d.
            let leaf = leaf_at g docs ts cursors d (run.to - 1) end (omega (arith, few, r.several, r.within)) all in
            let own : IsLeaf g f (get_or cursors (run.to - 1) d) b =
            subst (λ (h : ℕ → Bool). IsLeaf g h (get_or cursors (run.to - 1) d) b) (last_term_is docs ts run r)
            (subst (λ (k : ℕ). IsLeaf g (is_posting docs (get_or ts (run.to - 1) [])) (get_or cursors (run.to - 1) d) (number_before (first_below docs (drop k ts) end))) next leaf) in
            leaf_lower g f (get_or cursors (run.to - 1) d) span.last b (omega (arith, at, top_le f b)) own;
      },
    )

-- it stands there at a later moment, below a lower end, where its cursors are as they were
pub stands_kept : (g g' : Gives) → Later g g' → (docs : List Doc) (ts : List (List ℕ)) (old new : List Cursor) (run : Run) (end last low high : ℕ) (span : Span) → IsRun ts run
    → AreKept old new low high → run.to ≤ low → end ≤ last → StandsAt g docs ts old run last span → StandsAt g' docs ts new run end span
stands_kept g g' w docs ts old new run end last low high span r kept l h s =
    let f : ℕ → Bool = is_of_run docs ts run in
    record {
      apart = s.apart;
      there = s.there;
      far = omega (
        arith,
        s.far,
        top_up f (run_end docs ts run end) (run_end docs ts run last)
            (before_up (first_below docs (drop run.to ts) end) (first_below docs (drop run.to ts) last) (first_up docs (drop run.to ts) end last h)),
      );
      first = λ d. subst (λ (c : Cursor). IsLeaf g' f c span.first) (sym (kept run.from d (inl (omega (arith, r.several, l))))) (leaf_later g g' w f (get_or old run.from d) span.first (s.first d));
      last = λ d. subst (λ (c : Cursor). IsLeaf g' f c span.last) (sym (kept (run.to - 1) d (inl (omega (arith, r.several, l)))))
          (leaf_later g g' w f (get_or old (run.to - 1) d) span.last (s.last d));
    }

-- ---- both cursors fall by one place

-- that of the first may be asked after that of the last
pub first_asked : (g g' : Gives) → Later g g' → (docs : List Doc) (ts : List (List ℕ)) (cursors : List Cursor) (c d : Cursor) (run : Run) (end asked : ℕ) (span : Span) → IsRun ts run
    → asked ≤ span.first → StandsAt g docs ts cursors run end span → IsLeaf g' (is_of_run docs ts run) (get_or (set cursors (run.to - 1) c) run.from d) asked
first_asked g g' w docs ts cursors c d run end asked span r h s =
    let f : ℕ → Bool = is_of_run docs ts run in
    let apart : run.from ≢ run.to - 1 = λ e. omega (arith, e, r.several) in
    subst (λ (x : Cursor). IsLeaf g' f x asked) (sym (get_or-set_other cursors (run.to - 1) run.from c d apart))
    (leaf_lower g' f (get_or cursors run.from d) asked span.first h (leaf_later g g' w f (get_or cursors run.from d) span.first (s.first d)))

-- both were
pub both_told : (g1 g2 g3 : Gives) → Later g1 g2 → Later g2 g3 → (docs : List Doc) (ts : List (List ℕ)) (cursors : List Cursor) (c1 c2 : Cursor) (run : Run) (end : ℕ) (span next : Span) → IsRun ts run
    → run.to ≤ length cursors → first_below docs (drop run.to ts) end ≤ span.last → 0 < span.last → AllBehind g1 docs ts cursors end → StandsAt g1 docs ts cursors run end span
    → (next.last ≡ top (is_of_run docs ts run) (span.last - 1)) × IsLeaf g2 (is_of_run docs ts run) c1 (span.last - 1)
    → (next.first ≡ top (is_of_run docs ts run) (span.first - 1)) × IsLeaf g3 (is_of_run docs ts run) c2 (span.first - 1)
    → AllBehind g3 docs ts (set (set cursors (run.to - 1) c1) run.from c2) end × StandsAt g3 docs ts (set (set cursors (run.to - 1) c1) run.from c2) run end next
both_told g1 g2 g3 w v docs ts cursors c1 c2 run end span next r within high some all s x y =
    let f : ℕ → Bool = is_of_run docs ts run in
    let n : ℕ = run.to - run.from - 1 in
    let b : ℕ = first_below docs (drop run.to ts) end in
    let mid : List Cursor = set cursors (run.to - 1) c1 in
    let apart : run.to - 1 ≢ run.from = λ e. omega (arith, e, r.several) in
    let at : suc (run.to - 1) ≡ run.to = omega (arith, r.several) in
    let leaf1 : IsLeaf g2 (is_posting docs (get_or ts (run.to - 1) [])) c1 (number_before (first_below docs (drop (suc (run.to - 1)) ts) end)) =
    subst (λ (k : ℕ). IsLeaf g2 (is_posting docs (get_or ts (run.to - 1) [])) c1 (number_before (first_below docs (drop k ts) end))) (sym at)
    (subst (λ (h : ℕ → Bool). IsLeaf g2 h c1 (number_before b)) (sym (last_term_is docs ts run r)) (leaf_lower g2 f c1 (number_before b) (span.last - 1) (omega (arith, before_is b, high)) x.1)) in
    let all1 = leaf_put g1 g2 w docs ts cursors c1 (run.to - 1) end (omega (arith, r.several, within)) all leaf1 in
    let up : back f n b ≤ span.first = omega (arith, s.apart, back_up f n b span.last high) in
    let second = second_of docs ts run r end in
    let leaf2 : IsLeaf g3 (is_posting docs (get_or ts run.from [])) c2 (number_before (first_below docs (drop (suc run.from) ts) end)) =
    subst (λ (k : ℕ). IsLeaf g3 f c2 (number_before k)) (sym second) (leaf_lower g3 f c2 (number_before (back f n b)) (span.first - 1) (omega (arith, before_is (back f n b), up)) y.1) in
    let long : run.from < length mid = omega (arith, length-set cursors (run.to - 1) c1, r.several, within) in
    let all2 = leaf_put g2 g3 v docs ts mid c2 run.from end long all1 leaf2 in
    let one : next.first ≡ back f (suc n) span.last = y.0 ∙ ap (top f) (sym (before_is span.first)) ∙ ap (λ (k : ℕ). top f (number_before k)) s.apart in
    let last_at : next.last ≡ top f (number_before span.last) = x.0 ∙ ap (top f) (sym (before_is span.last)) in (
      all2,
      record {
        apart = one ∙ sym (back_on f n span.last) ∙ sym (ap (back f n) last_at);
        there = ap (top f) x.0 ∙ top_twice f (span.last - 1) ∙ sym x.0;
        far = omega (arith, x.0, top_up f (number_before b) (span.last - 1) (omega (arith, before_is b, high)));
        first = λ d. subst (λ (c : Cursor). IsLeaf g3 f c next.first) (sym (get_or-set_same mid run.from c2 d long))
            (leaf_lower g3 f c2 next.first (span.first - 1) (omega (arith, y.0, top_le f (span.first - 1))) y.1);
        last = λ d. subst (λ (c : Cursor). IsLeaf g3 f c next.last)
            (sym (get_or-set_other mid run.from (run.to - 1) c2 d apart ∙ get_or-set_same cursors (run.to - 1) c1 d (omega (arith, r.several, within))))
            (leaf_lower g3 f c1 next.last (span.last - 1) (omega (arith, x.0, top_le f (span.last - 1))) (leaf_later g2 g3 v f c1 (span.last - 1) x.1));
      },
    )

-- where the last is below the end, the run is at its places
pub run_ends : (g : Gives) (docs : List Doc) (ts : List (List ℕ)) (cursors : List Cursor) (run : Run) (end : ℕ) (span : Span) → IsRun ts run
    → span.last < first_below docs (drop run.to ts) end → AllBehind g docs ts cursors end → StandsAt g docs ts cursors run end span → IsRunAt g docs ts cursors run end span
run_ends g docs ts cursors run end span r low all s =
    let f : ℕ → Bool = is_of_run docs ts run in
    let b : ℕ = run_end docs ts run end in
    let under : span.last ≤ b = omega (arith, low, before_is (first_below docs (drop run.to ts) end)) in
    let at : span.last ≡ top f b = sym s.there ∙ top_between f span.last b s.far under in
    (s.apart ∙ ap (back f (run.to - run.from - 1)) at ∙ sym (first_of docs ts run r end), at ∙ sym (last_of docs ts run r end), all, s)

-- ---- terms asked down to one

-- where the look didn't stop before it, or the terms don't occur in their order
pub down_told : (docs : List Doc) (ts : List (List ℕ)) (low left first end : ℕ) → left ≤ length ts → low ≤ left → first ≡ first_below docs (drop left ts) end
    → (low < left → 0 < first → first - left < 0) → first ≡ first_below docs (drop low ts) end
down_told docs ts low left first end within h e far = elim (cases_lt low left) [
  | inl less ↦ go first e (far less)
  | inr same ↦ let at : left ≡ low = omega (arith, h, same) in e ∙ ap (λ (k : ℕ). first_below docs (drop k ts) end) at
]
  where
    go : (n : ℕ) → n ≡ first_below docs (drop left ts) end → (0 < n → n - left < 0) → n ≡ first_below docs (drop low ts) end
    go zero i over = sym (zero_down docs ts low left end h within (sym i))
    go (suc n) i over = absurd (omega (arith, over (omega arith)))

-- ---- a look

-- what is known of the run stays so where its cursors do
pub knows_kept : (g g' : Gives) → Later g g' → (docs : List Doc) (ts : List (List ℕ)) (old new : List Cursor) (run : Run) (end last low high : ℕ) (known : Option Span) → IsRun ts run
    → AreKept old new low high → run.to ≤ low → end ≤ last → Knows g docs ts old (Some run) last known → Knows g' docs ts new (Some run) end known
knows_kept g g' w docs ts old new run end last low high None r kept l h k = tt
knows_kept g g' w docs ts old new run end last low high (Some span) r kept l h k = stands_kept g g' w docs ts old new run end last low high span r kept l h k

-- no term was asked
none_asked : (docs : List Doc) (ts : List (List ℕ)) (n end : ℕ) → n ≡ length ts → end + 1 ≡ first_below docs (drop n ts) end
none_asked docs ts n end e = let one : end + 1 ≡ suc end = omega arith in one ∙ sym (ap (λ (us : List (List ℕ)). first_below docs us end) (drop_all n ts (omega (arith, e))))

-- a look begins
pub look_begins : (g : Gives) (docs : List Doc) (ts : List (List ℕ)) (cursors : List Cursor) (run : Run) (end last : ℕ) (known : Option Span) → IsRun ts run → end ≤ last
    → AllBehind g docs ts cursors last → Knows g docs ts cursors (Some run) last known
    → (AllBehind g docs ts cursors end × (end + 1 ≡ first_below docs (drop (length cursors) ts) end)) × Knows g docs ts cursors (Some run) end known
look_begins g docs ts cursors run end last known r h all k = (
  (behind_lower g docs ts cursors end last h all, none_asked docs ts (length cursors) end (behind_length g docs ts cursors last all)),
  knows_kept g g (later_same g) docs ts cursors cursors run end last run.to run.to known r (λ i d o. refl) (omega arith) h k,
)

-- the last of all terms was asked
pub one_asked : (docs : List Doc) (ts : List (List ℕ)) (n left first end : ℕ) → n ≡ length ts → 0 < n → left ≤ n → first ≡ first_below docs (drop left ts) end
    → (n - 1 < left → 0 < first → first - left < 0) → left < n
one_asked docs ts n left first end e some h i far = elim (cases_lt left n) [
  | inl less ↦ less
  | inr all ↦
      let at : left ≡ n = omega (arith, h, all) in
      let is : first ≡ end + 1 = i ∙ ap (λ (k : ℕ). first_below docs (drop k ts) end) at ∙ sym (none_asked docs ts n end e) in
      absurd (omega (arith, far (omega (arith, at, some)) (omega (arith, is))))
]

-- and is at its place
pub last_asked : (docs : List Doc) (ts : List (List ℕ)) (n left first end : ℕ) → n ≡ length ts → 0 < n → left ≤ n → n - 1 ≤ left → first ≡ first_below docs (drop left ts) end
    → (n - 1 < left → 0 < first → first - left < 0) → first ≡ top (is_posting docs (last_term ts)) end
last_asked docs ts n left first end e some h low i far =
    down_told docs ts (n - 1) left first end (omega (arith, h, e)) low i far ∙ sym (last_from docs ts (n - 1) end (omega (arith, e, some)))

-- the run's last term is the last of all
pub run_is_last : (docs : List Doc) (ts : List (List ℕ)) (run : Run) (last end : ℕ) → IsRun ts run → run.to ≡ length ts → last ≡ first_below docs (drop (run.to - 1) ts) end
    → last ≡ top (is_posting docs (last_term ts)) end
run_is_last docs ts run last end r e i = i ∙ sym (last_from docs ts (run.to - 1) end (omega (arith, e, r.several)))

-- ---- a window with a run, or without one

-- nothing is known of it yet
pub nothing_known : (g : Gives) (docs : List Doc) (ts : List (List ℕ)) (cursors : List Cursor) (run : Option Run) (end : ℕ) → Knows g docs ts cursors run end None
nothing_known g docs ts cursors None end = tt
nothing_known g docs ts cursors (Some run) end = tt

-- what is known of it is so below a lower end
pub known_lower : (g : Gives) (docs : List Doc) (ts : List (List ℕ)) (cursors : List Cursor) (run : Option Run) (end last : ℕ) (known : Option Span) → HasRun run ts → end ≤ last
    → Knows g docs ts cursors run last known → Knows g docs ts cursors run end known
known_lower g docs ts cursors None end last known r h k = tt
known_lower g docs ts cursors (Some run) end last known r h k = knows_kept g g (later_same g) docs ts cursors cursors run end last run.to run.to known r (λ i d o. refl) (omega arith) h k

-- there is nothing to know where there is no run
pub no_run_known : (g : Gives) (docs : List Doc) (ts : List (List ℕ)) (cursors : List Cursor) (run : Option Run) (end : ℕ) (known : Option Span) → run ≡ None → Knows g docs ts cursors run end known
no_run_known g docs ts cursors None end known e = tt
no_run_known g docs ts cursors (Some run) end known e = cc
