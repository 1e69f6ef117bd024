-- A leaf: the current posting and what its list still gives.
use Rattle.std.proofs.Common.{◌≡◌, ℕ, suc, ◌<◌, ◌≤◌, Bool, List, [], ◌∷◌, Option, None, Some, MatchOption, sym, ap, ◌∙◌, subst, arith}
use Rattle.eb_cursor.specs.Tops.{top, below}
use Rattle.eb_cursor.specs.Lists.{Gives, from_below, IsDescending, IsUnder}
use Rattle.eb_cursor.specs.Loads.{ahead}
use Rattle.eb_cursor.specs.Ready.{AreStillGiven, IsLeaf}
use Rattle.eb_cursor.specs.declared.posting_list.PostingList.{PostingList}
use Rattle.eb_cursor.specs.declared.cursor.Cursor.{Cursor}
use Rattle.eb_cursor.proofs.Tellings.{Later}
use Rattle.eb_cursor.proofs.Tops.{from_below_in, from_below_past, from_below_twice, from_below-below, top_none, top_first}

-- what is left, where the current posting is known
left_some : (g : Gives) (o : Option ℕ) (list : PostingList) (zs : List ℕ) (p : ℕ) → o ≡ Some p → AreStillGiven g o list zs → (ys : List ℕ) × (zs ≡ p ∷ ys) × g.lists list ys
left_some g o list zs p e h = rw e at h

left_none : (g : Gives) (o : Option ℕ) (list : PostingList) (zs : List ℕ) → o ≡ None → AreStillGiven g o list zs → zs ≡ []
left_none g o list zs e h = rw e at h

pub leaf_found : (g : Gives) (f : ℕ → Bool) (s : Cursor) (p e : ℕ) → s.current ≡ Some p → p < e → IsLeaf g f s e → suc p ≡ top f e
leaf_found g f s p e is h leaf = let t = left_some g s.current s.list leaf.left p is leaf.told in
    let k : from_below e (p ∷ t.0) ≡ below f e = ap (from_below e) (sym t.1) ∙ leaf.rest in
    sym (top_first f e p t.0 (sym k ∙ from_below_in e p t.0 h))

pub leaf_none : (g : Gives) (f : ℕ → Bool) (s : Cursor) (e : ℕ) → s.current ≡ None → IsLeaf g f s e → 0 ≡ top f e
leaf_none g f s e is leaf = let t = left_none g s.current s.list leaf.left is leaf.told in
    sym (top_none f e (sym leaf.rest ∙ ap (from_below e) t))

pub leaf_lower : (g : Gives) (f : ℕ → Bool) (s : Cursor) (e last : ℕ) → e ≤ last → IsLeaf g f s last → IsLeaf g f s e
leaf_lower g f s e last h leaf = record {
  left = leaf.left;
  told = leaf.told;
  falls = leaf.falls;
  rest = sym (from_below_twice e last leaf.left h) ∙ ap (from_below e) leaf.rest ∙ from_below-below f e last h;
}

left_later : (g g' : Gives) → Later g g' → (o : Option ℕ) (list : PostingList) (zs : List ℕ) → AreStillGiven g o list zs → AreStillGiven g' o list zs
left_later g g' w None list zs h = h
left_later g g' w (Some p) list zs h = (h.0, h.1, w.lists list h.0 h.2)

pub leaf_later : (g g' : Gives) → Later g g' → (f : ℕ → Bool) (s : Cursor) (last : ℕ) → IsLeaf g f s last → IsLeaf g' f s last
leaf_later g g' w f s last leaf = record {
  left = leaf.left;
  told = left_later g g' w s.current s.list leaf.left leaf.told;
  falls = leaf.falls;
  rest = leaf.rest;
}

-- what a list's next call gives
-- what was given of what is left, where it's known
abbrev pub Given : Gives → PostingList → List ℕ → Option ℕ → Type 0
Given g list xs r = MatchOption r (xs ≡ []) (λ p. (ys : List ℕ) × (xs ≡ p ∷ ys) × g.lists list ys)

pub gave_left : (g : Gives) (list : PostingList) (xs : List ℕ) (r : Option ℕ) → Given g list xs r → AreStillGiven g r list xs
gave_left g list xs None h = h
gave_left g list xs (Some p) h = h

-- what is left after the current posting
pub leaf_left : (g : Gives) (f : ℕ → Bool) (s : Cursor) (p e : ℕ) → s.current ≡ Some p → (leaf : IsLeaf g f s e) → (ys : List ℕ) × (leaf.left ≡ p ∷ ys) × g.lists s.list ys
leaf_left g f s p e is leaf = left_some g s.current s.list leaf.left p is leaf.told

pub leaf_next : (g g' : Gives) (f : ℕ → Bool) (s s' : Cursor) (p e : ℕ) (ys : List ℕ) → e ≤ p → (leaf : IsLeaf g f s e) → leaf.left ≡ p ∷ ys → Given g' s'.list ys s'.current → IsLeaf g' f s' e
leaf_next g g' f s s' p e ys h leaf is gave =
    let falls : IsDescending (p ∷ ys) = subst IsDescending is leaf.falls in
    record {
      left = ys;
      told = gave_left g' s'.list ys s'.current gave;
      falls = falls.1;
      rest = sym (from_below_past e p ys h) ∙ ap (from_below e) (sym is) ∙ leaf.rest;
    }

ahead_under : (g : Gives) (list : PostingList) (xs : List ℕ) (p : ℕ) (r : Option ℕ) → IsUnder p xs → Given g list xs r → ahead r < suc p
ahead_under g list xs p None u h = omega arith
ahead_under g list xs p (Some q) u h = let k : q < p = subst (IsUnder p) h.1 u in omega arith

pub leaf_ahead : (g g' : Gives) (f : ℕ → Bool) (s s' : Cursor) (p e : ℕ) (ys : List ℕ) → s.current ≡ Some p
    → (leaf : IsLeaf g f s e) → leaf.left ≡ p ∷ ys → Given g' s'.list ys s'.current → ahead s'.current < ahead s.current
leaf_ahead g g' f s s' p e ys is leaf same gave =
    let falls : IsDescending (p ∷ ys) = subst IsDescending same leaf.falls in
    let k : ahead s'.current < suc p = ahead_under g' s'.list ys p s'.current falls.0 gave in
    rw is k
