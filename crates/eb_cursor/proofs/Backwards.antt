-- The leaves of a window, asked one by one from the last on.
use Rattle.std.proofs.Common.{◌≡◌, ℕ, zero, suc, ◌+◌, ◌-◌, ◌<◌, ◌≤◌, List, [], ◌∷◌, length, drop, get_or, set, refl, sym, ap, ◌∙◌, subst, arith}
use Rattle.eb_base.specs.Document.{Doc}
use Rattle.eb_cursor.specs.Tops.{top, number_before}
use Rattle.eb_cursor.specs.Lists.{Gives}
use Rattle.eb_cursor.specs.Posted.{is_posting, last_term, first_below}
use Rattle.eb_cursor.specs.Ready.{IsLeaf, AllBehind}
use Rattle.eb_cursor.specs.declared.cursor.Cursor.{Cursor}
use Rattle.eb_cursor.proofs.Tellings.{Later}
use Rattle.eb_cursor.proofs.Leaves.{leaf_later}
use Rattle.eb_cursor.proofs.Readies.{behind_later}
use Rattle.eb_cursor.proofs.Spans.{before_is}
use Rattle.eb_cursor.proofs.Tops.{top_le}
use Rattle.eb_cursor.proofs.Windows.{behind_length}

-- one leaf, and where the terms after it begin
pub leaf_at : (g : Gives) (docs : List Doc) (ts : List (List ℕ)) (cursors : List Cursor) (d : Cursor) (i end : ℕ) → i < length cursors → AllBehind g docs ts cursors end
    → IsLeaf g (is_posting docs (get_or ts i [])) (get_or cursors i d) (number_before (first_below docs (drop (suc i) ts) end))
leaf_at g docs [] cursors d i end h r = absurd (omega (arith, h, ap length r))
leaf_at g docs (t ∷ ts) [] d i end h r = absurd r
leaf_at g docs (t ∷ ts) (s ∷ ss) d zero end h r = r.0
leaf_at g docs (t ∷ ts) (s ∷ ss) d (suc i) end h r = leaf_at g docs ts ss d i end (omega (arith, h)) r.1

-- it alone was asked
pub leaf_put : (g g' : Gives) → Later g g' → (docs : List Doc) (ts : List (List ℕ)) (cursors : List Cursor) (c : Cursor) (i end : ℕ) → i < length cursors → AllBehind g docs ts cursors end
    → IsLeaf g' (is_posting docs (get_or ts i [])) c (number_before (first_below docs (drop (suc i) ts) end)) → AllBehind g' docs ts (set cursors i c) end
leaf_put g g' w docs [] cursors c i end h r leaf = absurd (omega (arith, h, ap length r))
leaf_put g g' w docs (t ∷ ts) [] c i end h r leaf = absurd r
leaf_put g g' w docs (t ∷ ts) (s ∷ ss) c zero end h r leaf = (leaf, behind_later g g' w docs ts ss end r.1)
leaf_put g g' w docs (t ∷ ts) (s ∷ ss) c (suc i) end h r leaf =
    (leaf_later g g' w (is_posting docs t) s (number_before (first_below docs ts end)) r.0, leaf_put g g' w docs ts ss c i end (omega (arith, h)) r.1 leaf)

-- where its term is
pub first_from : (docs : List Doc) (ts : List (List ℕ)) (i end : ℕ) → i < length ts
    → top (is_posting docs (get_or ts i [])) (number_before (first_below docs (drop (suc i) ts) end)) ≡ first_below docs (drop i ts) end
first_from docs [] i end h = absurd (omega (arith, h))
first_from docs (t ∷ ts) zero end h = refl
first_from docs (t ∷ ts) (suc i) end h = first_from docs ts i end (omega (arith, h))

-- the last term begins where it is
pub last_from : (docs : List Doc) (ts : List (List ℕ)) (i end : ℕ) → suc i ≡ length ts → top (is_posting docs (last_term ts)) end ≡ first_below docs (drop i ts) end
last_from docs [] i end e = absurd (omega (arith, e))
last_from docs (t ∷ []) zero end e = refl
last_from docs (t ∷ []) (suc i) end e = absurd (omega (arith, e))
last_from docs (t ∷ u ∷ ts) zero end e = absurd (omega (arith, e))
last_from docs (t ∷ u ∷ ts) (suc i) end e = last_from docs (u ∷ ts) i end (omega (arith, e))

-- each term before takes a place of its own
pub room_before : (docs : List Doc) (ts : List (List ℕ)) (i end : ℕ) → i < length ts → first_below docs ts end ≤ first_below docs (drop i ts) end - i
room_before docs [] i end h = absurd (omega (arith, h))
room_before docs (t ∷ ts) zero end h = omega arith
room_before docs (t ∷ ts) (suc i) end h =
    omega (arith, top_le (is_posting docs t) (number_before (first_below docs ts end)), before_is (first_below docs ts end), room_before docs ts i end (omega (arith, h)))

-- where no term is left to be asked, or the others can't be from a floor on that is the limit below the last
pub stops : (docs : List Doc) (ts : List (List ℕ)) (i end first last limit floor : ℕ) → i < length ts → first ≡ first_below docs (drop i ts) end
    → floor ≡ last - limit → (0 < i → 0 < first → first - i < floor)
    → (first_below docs ts end ≤ first - i) × (last ≤ first - i + limit → first - i ≡ first_below docs ts end)
stops docs ts zero end first last limit floor h e f far = (omega (arith, e), λ near. omega (arith, e))
stops docs ts (suc i) end zero last limit floor h e f far =
    let low = room_before docs ts (suc i) end h in
    (omega (arith, low, e), λ near. omega (arith, low, e))
stops docs ts (suc i) end (suc first) last limit floor h e f far =
    let low = room_before docs ts (suc i) end h in
    let under = far (omega arith) (omega arith) in
    (omega (arith, low, e), λ near. absurd (omega (arith, near, f, under)))

-- the last leaf was asked
pub begins : (g : Gives) (docs : List Doc) (ts : List (List ℕ)) (cursors : List Cursor) (end last : ℕ) → 0 < length cursors → AllBehind g docs ts cursors end
    → last ≡ top (is_posting docs (last_term ts)) end → last ≡ first_below docs (drop (length cursors - 1) ts) end
begins g docs ts cursors end last some r e = e ∙ last_from docs ts (length cursors - 1) end (omega (arith, some, behind_length g docs ts cursors end r))

-- the next leaf may be asked
pub asks_at : (g : Gives) (docs : List Doc) (ts : List (List ℕ)) (cursors : List Cursor) (d : Cursor) (at first end : ℕ) → 0 < at → at ≤ length cursors
    → AllBehind g docs ts cursors end × (first ≡ first_below docs (drop at ts) end) → IsLeaf g (is_posting docs (get_or ts (at - 1) [])) (get_or cursors (at - 1) d) (first - 1)
asks_at g docs ts cursors d at first end some low r =
    let own = leaf_at g docs ts cursors d (at - 1) end (omega (arith, low)) r.0 in
    let is : suc (at - 1) ≡ at = omega (arith, some) in
    subst (λ (k : ℕ). IsLeaf g (is_posting docs (get_or ts (at - 1) [])) (get_or cursors (at - 1) d) k)
    (ap (λ (k : ℕ). number_before (first_below docs (drop k ts) end)) is ∙ sym (ap number_before r.1) ∙ before_is first) own

-- and then was
pub told_at : (g g' : Gives) → Later g g' → (docs : List Doc) (ts : List (List ℕ)) (cursors : List Cursor) (c : Cursor) (at first end found : ℕ) → 0 < at → at ≤ length cursors
    → AllBehind g docs ts cursors end × (first ≡ first_below docs (drop at ts) end)
    → (found ≡ top (is_posting docs (get_or ts (at - 1) [])) (first - 1)) × IsLeaf g' (is_posting docs (get_or ts (at - 1) [])) c (first - 1)
    → AllBehind g' docs ts (set cursors (at - 1) c) end × (found ≡ first_below docs (drop (at - 1) ts) end)
told_at g g' w docs ts cursors c at first end found some low r x =
    let is : suc (at - 1) ≡ at = omega (arith, some) in
    let place : first - 1 ≡ number_before (first_below docs (drop (suc (at - 1)) ts) end) =
    sym (ap (λ (k : ℕ). number_before (first_below docs (drop k ts) end)) is ∙ sym (ap number_before r.1) ∙ before_is first) in
    let leaf = subst (λ (k : ℕ). IsLeaf g' (is_posting docs (get_or ts (at - 1) [])) c k) place x.1 in
    let within : at - 1 < length ts = omega (arith, low, behind_length g docs ts cursors end r.0) in
    (leaf_put g g' w docs ts cursors c (at - 1) end (omega (arith, low)) r.0 leaf, x.0 ∙ ap (top (is_posting docs (get_or ts (at - 1) []))) place ∙ first_from docs ts (at - 1) end within)
