-- The last term of a window, and one cursor that falls alone.
use Rattle.std.proofs.Common.{◌≡◌, ℕ, zero, suc, ◌+◌, ◌*◌, ◌<◌, ◌≤◌, List, [], ◌∷◌, length, get_or, set, refl, arith}
use Rattle.eb_base.specs.Document.{Doc}
use Rattle.eb_cursor.specs.Tops.{number_before}
use Rattle.eb_cursor.specs.Lists.{Gives}
use Rattle.eb_cursor.specs.Loads.{ahead, loads_left}
use Rattle.eb_cursor.specs.Posted.{is_posting, last_term, first_below}
use Rattle.eb_cursor.specs.Ready.{IsLeaf, AllBehind}
use Rattle.eb_cursor.specs.declared.cursor.Cursor.{Cursor}
use Rattle.eb_cursor.proofs.Tellings.{Later}
use Rattle.eb_cursor.proofs.Leaves.{leaf_lower, leaf_later}
use Rattle.eb_cursor.proofs.Spans.{before_up, first_up}

pub last_asks : (g : Gives) (docs : List Doc) (ts : List (List ℕ)) (cursors : List Cursor) (d : Cursor) (i end last : ℕ) → suc i ≡ length cursors → end ≤ last
    → AllBehind g docs ts cursors last → IsLeaf g (is_posting docs (last_term ts)) (get_or cursors i d) end
last_asks g docs [] [] d i end last e h r = absurd (omega arith)
last_asks g docs [] (s ∷ ss) d i end last e h r = let k : s ∷ ss ≡ [] = r in cc
last_asks g docs (t ∷ ts) [] d i end last e h r = absurd r
last_asks g docs (t ∷ []) (s ∷ []) d zero end last e h r = leaf_lower g (is_posting docs t) s end last h r.0
last_asks g docs (t ∷ []) (s ∷ []) d (suc i) end last e h r = absurd (omega arith)
last_asks g docs (t ∷ u ∷ us) (s ∷ []) d i end last e h r = absurd r.1
last_asks g docs (t ∷ []) (s ∷ x ∷ xs) d i end last e h r = let k : x ∷ xs ≡ [] = r.1 in cc
last_asks g docs (t ∷ u ∷ us) (s ∷ x ∷ xs) d zero end last e h r = absurd (omega arith)
last_asks g docs (t ∷ u ∷ us) (s ∷ x ∷ xs) d (suc i) end last e h r = last_asks g docs (u ∷ us) (x ∷ xs) d i end last (omega arith) h r.1

pub last_told : (g g' : Gives) → Later g g' → (docs : List Doc) (ts : List (List ℕ)) (cursors : List Cursor) (c : Cursor) (i end last : ℕ) → suc i ≡ length cursors → end ≤ last
    → AllBehind g docs ts cursors last → IsLeaf g' (is_posting docs (last_term ts)) c end → AllBehind g' docs ts (set cursors i c) end
last_told g g' w docs [] [] c i end last e h r leaf = absurd (omega arith)
last_told g g' w docs [] (s ∷ ss) c i end last e h r leaf = let k : s ∷ ss ≡ [] = r in cc
last_told g g' w docs (t ∷ ts) [] c i end last e h r leaf = absurd r
last_told g g' w docs (t ∷ []) (s ∷ []) c zero end last e h r leaf = (leaf, refl)
last_told g g' w docs (t ∷ []) (s ∷ []) c (suc i) end last e h r leaf = absurd (omega arith)
last_told g g' w docs (t ∷ u ∷ us) (s ∷ []) c i end last e h r leaf = absurd r.1
last_told g g' w docs (t ∷ []) (s ∷ x ∷ xs) c i end last e h r leaf = let k : x ∷ xs ≡ [] = r.1 in cc
last_told g g' w docs (t ∷ u ∷ us) (s ∷ x ∷ xs) c zero end last e h r leaf = absurd (omega arith)
last_told g g' w docs (t ∷ u ∷ us) (s ∷ x ∷ xs) c (suc i) end last e h r leaf =
    let up = before_up (first_below docs (u ∷ us) end) (first_below docs (u ∷ us) last) (first_up docs (u ∷ us) end last h) in
    let own = leaf_lower g (is_posting docs t) s (number_before (first_below docs (u ∷ us) end)) (number_before (first_below docs (u ∷ us) last)) up r.0 in
    (leaf_later g g' w (is_posting docs t) s (number_before (first_below docs (u ∷ us) end)) own, last_told g g' w docs (u ∷ us) (x ∷ xs) c i end last (omega arith) h r.1 leaf)

-- one cursor alone falls, by no fewer than its loads
pub loads_at : (cursors : List Cursor) (d c : Cursor) (i before after : ℕ) → i < length cursors → after + 4 * ahead c.current ≤ before + 4 * ahead (get_or cursors i d).current
    → after + loads_left (set cursors i c) ≤ before + loads_left cursors
loads_at [] d c i before after h paid = absurd (omega arith)
loads_at (x ∷ xs) d c zero before after h paid = omega (arith, paid)
loads_at (x ∷ xs) d c (suc i) before after h paid = omega (arith, loads_at xs d c i before after (omega arith) paid)
