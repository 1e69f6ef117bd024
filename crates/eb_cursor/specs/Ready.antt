-- What the cursors of a query hold between two calls.
use Rattle.std.specs.Prelude.{◌≡◌, ℕ, suc, ◌*◌, ◌<◌, ◌≤◌, Bool, not, List, [], ◌∷◌, length, take, drop, Option, None, Some}
use Rattle.eb_base.specs.Document.{Doc}
use Rattle.eb_base.specs.Query.{Tree, Trees, size, word, phrase, window, since, negation, conjunction, disjunction, no_trees, trees}
use Rattle.eb_place.specs.Postings.{places}
use Rattle.eb_cursor.specs.Tops.{top, below, number_before}
use Rattle.eb_cursor.specs.Posted.{is_posting, is_start, first_below, is_window_end, match_at, each_at, Narrow}
use Rattle.eb_cursor.specs.Loads.{ahead}
use Rattle.eb_cursor.specs.Lists.{Gives, IsDescending, from_below}
use Rattle.eb_cursor.specs.declared.posting_list.PostingList.{PostingList}
use Rattle.eb_cursor.specs.declared.cursor.Cursor.{Cursor}

-- the current posting and those that the list still gives
abbrev pub AreStillGiven : Gives → Option ℕ → PostingList → List ℕ → Type 0
AreStillGiven g None list zs = zs ≡ []
AreStillGiven g (Some p) list zs = (ys : List ℕ) × (zs ≡ p ∷ ys) × g.lists list ys

-- a leaf that has passed none of the numbers below an end that pass the test
pub record IsLeaf (g : Gives) (f : ℕ → Bool) (cursor : Cursor) (last : ℕ) : Type 0 where
  pub left : List ℕ
  pub told : AreStillGiven g cursor.current cursor.list left
  pub falls : IsDescending left
  pub rest : from_below last left ≡ below f last

-- the one cursor of a word is ready
abbrev pub IsOnly : Gives → List Doc → List ℕ → List Cursor → ℕ → Type 0
IsOnly g docs t [] last = ⊥
IsOnly g docs t (s ∷ ss) last = (ss ≡ []) × Narrow docs × IsLeaf g (is_posting docs t) s (places * last)

-- the end that the first cursor has come to
abbrev pub upto : List Cursor → ℕ
upto [] = 0
upto (s ∷ ss) = s.upto

-- the cursors after the first
abbrev pub rest_of : List Cursor → List Cursor
rest_of [] = []
rest_of (s ∷ ss) = ss

-- no number from `low` on below `last` passes
pub record IsPassed (f : ℕ → Bool) (low last : ℕ) : Type 0 where
  pub same : low ≤ last → top f last ≡ top f low

-- each leaf of a phrase has passed nothing below its own end
abbrev pub AllLeaves : Gives → List Doc → List (List ℕ) → List Cursor → ℕ → Type 0
AllLeaves g docs [] cursors end = cursors ≡ []
AllLeaves g docs (t ∷ ts) [] end = ⊥
AllLeaves g docs (t ∷ ts) (s ∷ ss) end = IsLeaf g (is_posting docs t) s end × AllLeaves g docs ts ss (suc end)

-- each leaf of a window has passed nothing below the place of the leaf after it, the last nothing
-- below the end
abbrev pub AllBehind : Gives → List Doc → List (List ℕ) → List Cursor → ℕ → Type 0
AllBehind g docs [] cursors end = cursors ≡ []
AllBehind g docs (t ∷ ts) [] end = ⊥
AllBehind g docs (t ∷ ts) (s ∷ ss) end = IsLeaf g (is_posting docs t) s (number_before (first_below docs ts end)) × AllBehind g docs ts ss end

-- the cursor of a bound on the id has passed no document below `last` whose id is greater. Of the
-- documents below the end that it has come to, at most the id of the last is loaded, and then that
-- one is greater
pub record IsBound (g : Gives) (docs : List Doc) (x : ℕ) (cursor : Cursor) (last : ℕ) : Type 0 where
  pub passed : IsPassed (match_at docs (since x)) cursor.upto last
  pub firsts : 0 < cursor.upto → g.firsts cursor.segment docs
  pub within : cursor.upto ≤ length docs
  pub near : cursor.upto ≤ suc (ahead cursor.current)
  pub low : ahead cursor.current ≤ cursor.upto
  pub known : ahead cursor.current < cursor.upto → top (match_at docs (since x)) cursor.upto ≡ cursor.upto

-- the one cursor of a bound on the id is ready
abbrev pub IsOnlyBound : Gives → List Doc → ℕ → List Cursor → ℕ → Type 0
IsOnlyBound g docs x [] last = ⊥
IsOnlyBound g docs x (s ∷ ss) last = (ss ≡ []) × IsBound g docs x s last

-- the cursors of a query are ready below `last`: they have passed none of the documents below it
-- that match
abbrev mutual
  pub Ready : Gives → List Doc → Tree → List Cursor → ℕ → Type 0
  Ready g docs (word t) cursors last = IsOnly g docs t cursors last
  Ready g docs (phrase ts) cursors last =
      (0 < length cursors) × Narrow docs × IsPassed (is_start docs ts) (upto cursors) (places * last) × (length cursors ≡ length ts) × (0 < upto cursors → AllLeaves g docs ts cursors (upto cursors))
  Ready g docs (window ts w) cursors last = (0 < length cursors) × Narrow docs × IsPassed (is_window_end docs ts w) (upto cursors) (places * last)
      × (length cursors ≡ length ts) × (0 < upto cursors → AllBehind g docs ts cursors (upto cursors))
  Ready g docs (since x) cursors last = IsOnlyBound g docs x cursors last
  Ready g docs (negation q) cursors last = (0 < length cursors) × IsPassed (λ n. not (match_at docs q n)) (upto cursors) last × Ready g docs q (rest_of cursors) (upto cursors)
  Ready g docs (conjunction qs) cursors last = (0 < length cursors) × IsPassed (each_at docs qs) (upto cursors) last × AllReady g docs qs (rest_of cursors) (upto cursors)
  Ready g docs (disjunction qs) cursors last = (0 < length cursors) × AllReady g docs qs (rest_of cursors) last

  pub AllReady : Gives → List Doc → Trees → List Cursor → ℕ → Type 0
  AllReady g docs no_trees cursors last = cursors ≡ []
  AllReady g docs (trees q qs) cursors last = Ready g docs q (take (size q) cursors) last × AllReady g docs qs (drop (size q) cursors) last
