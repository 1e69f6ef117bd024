-- The loads that cursors can still make.
use Rattle.std.proofs.Common.{◌≡◌, ℕ, ◌+◌, ◌<◌, ◌≤◌, List, [], ◌∷◌, ◌++◌, length, get_or, set, ap, arith}
use Rattle.eb_cursor.specs.Loads.{ahead, loads_left}
use Rattle.eb_cursor.specs.declared.cursor.Cursor.{Cursor}

-- those of two lists of cursors add up
pub loads_left-append : (xs ys : List Cursor) → loads_left (xs ++ ys) ≡ loads_left xs + loads_left ys
loads_left-append [] ys = omega arith
loads_left-append (x ∷ xs) ys = omega (arith, loads_left-append xs ys)

-- the first cursors and the others, one after the other
pub loads_split : (all xs ys xs' ys' : List Cursor) (before between after : ℕ) → all ≡ xs ++ ys → between + loads_left xs' ≤ before + loads_left xs
    → after + loads_left ys' ≤ between + loads_left ys → after + loads_left (xs' ++ ys') ≤ before + loads_left all
loads_split all xs ys xs' ys' before between after e h k = omega (arith, ap loads_left e, loads_left-append xs ys, loads_left-append xs' ys', h, k)

-- the others first, then the first cursors
pub loads_split_back : (all xs ys xs' ys' : List Cursor) (before between after : ℕ) → all ≡ xs ++ ys → between + loads_left ys' ≤ before + loads_left ys
    → after + loads_left xs' ≤ between + loads_left xs → after + loads_left (xs' ++ ys') ≤ before + loads_left all
loads_split_back all xs ys xs' ys' before between after e h k = omega (arith, ap loads_left e, loads_left-append xs ys, loads_left-append xs' ys', h, k)

-- the first cursor alone falls, by no fewer than its loads
pub loads_set : (cursors : List Cursor) (d c : Cursor) (before after : ℕ) → 0 < length cursors → ahead c.current ≤ ahead (get_or cursors 0 d).current
    → after + ahead c.current ≤ before + ahead (get_or cursors 0 d).current → after + loads_left (set cursors 0 c) ≤ before + loads_left cursors
loads_set [] d c before after some falls paid = absurd (omega arith)
loads_set (x ∷ xs) d c before after some falls paid = omega (arith, falls, paid)
