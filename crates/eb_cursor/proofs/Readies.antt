-- What the cursors hold, lower, later, and put together.
use Rattle.std.proofs.Common.{◌≡◌, ℕ, suc, ◌+◌, ◌*◌, ◌<◌, ◌≤◌, Bool, not, List, [], ◌∷◌, ◌++◌, length, take, drop, sym, ap, ◌∙◌, subst, arith, length-append}
use Rattle.std.proofs.lemmas.List.{take-append-drop}
use Rattle.std.proofs.Math.Seq.{take-append_seam, drop-append_seam}
use Rattle.eb_base.specs.Document.{Doc}
use Rattle.eb_base.specs.Query.{Tree, Trees, size, sizes, word, phrase, window, since, negation, conjunction, disjunction, no_trees, trees}
use Rattle.eb_place.specs.Postings.{places}
use Rattle.eb_cursor.specs.Tops.{top, number_before}
use Rattle.eb_cursor.specs.Lists.{Gives}
use Rattle.eb_cursor.specs.Posted.{is_posting, is_start, is_window_end, first_below, match_at, each_at}
use Rattle.eb_cursor.specs.Ready.{IsOnly, IsOnlyBound, IsBound, AllLeaves, AllBehind, IsPassed, upto, rest_of, Ready, AllReady}
use Rattle.eb_cursor.specs.declared.cursor.Cursor.{Cursor}
use Rattle.eb_cursor.proofs.Tellings.{Later}
use Rattle.eb_cursor.proofs.Tops.{top_le, top_between}
use Rattle.eb_cursor.proofs.Spans.{before_up, first_up}
use Rattle.eb_cursor.proofs.Leaves.{leaf_lower, leaf_later}

pub passed_lower : (f : ℕ → Bool) (low e last : ℕ) → e ≤ last → IsPassed f low last → IsPassed f low e
passed_lower f low e last h p = record {
  same = λ k. let same : top f last ≡ top f low = p.same (omega arith) in
      let le : top f last ≤ e = omega (arith, top_le f low) in top_between f e last le h ∙ same;
}

pub only_lower : (g : Gives) (docs : List Doc) (t : List ℕ) (cursors : List Cursor) (e last : ℕ) → e ≤ last → IsOnly g docs t cursors last → IsOnly g docs t cursors e
only_lower g docs t [] e last h r = r
only_lower g docs t (s ∷ ss) e last h r = (r.0, r.1, leaf_lower g (is_posting docs t) s (places * e) (places * last) (omega arith) r.2)

pub behind_lower : (g : Gives) (docs : List Doc) (ts : List (List ℕ)) (cursors : List Cursor) (e end : ℕ) → e ≤ end → AllBehind g docs ts cursors end → AllBehind g docs ts cursors e
behind_lower g docs [] cursors e end h r = r
behind_lower g docs (t ∷ ts) [] e end h r = r
behind_lower g docs (t ∷ ts) (s ∷ ss) e end h r = (
  leaf_lower g (is_posting docs t) s (number_before (first_below docs ts e)) (number_before (first_below docs ts end))
      (before_up (first_below docs ts e) (first_below docs ts end) (first_up docs ts e end h)) r.0,
  behind_lower g docs ts ss e end h r.1,
)

pub bound_lower : (g : Gives) (docs : List Doc) (x : ℕ) (s : Cursor) (e last : ℕ) → e ≤ last → IsBound g docs x s last → IsBound g docs x s e
bound_lower g docs x s e last h r = record {
  passed = passed_lower (match_at docs (since x)) s.upto e last h r.passed;
  firsts = r.firsts;
  within = r.within;
  near = r.near;
  low = r.low;
  known = r.known;
}

only_bound_lower : (g : Gives) (docs : List Doc) (x : ℕ) (cursors : List Cursor) (e last : ℕ) → e ≤ last → IsOnlyBound g docs x cursors last → IsOnlyBound g docs x cursors e
only_bound_lower g docs x [] e last h r = r
only_bound_lower g docs x (s ∷ ss) e last h r = (r.0, bound_lower g docs x s e last h r.1)

mutual
  pub ready_lower : (g : Gives) (docs : List Doc) (q : Tree) (cursors : List Cursor) (e last : ℕ) → e ≤ last → Ready g docs q cursors last → Ready g docs q cursors e
  ready_lower g docs (word t) cursors e last h r = only_lower g docs t cursors e last h r
  ready_lower g docs (phrase ts) cursors e last h r = (r.0, r.1, passed_lower (is_start docs ts) (upto cursors) (places * e) (places * last) (omega arith) r.2, r.3, r.4)
  ready_lower g docs (window ts w) cursors e last h r = (r.0, r.1, passed_lower (is_window_end docs ts w) (upto cursors) (places * e) (places * last) (omega arith) r.2, r.3, r.4)
  ready_lower g docs (since x) cursors e last h r = only_bound_lower g docs x cursors e last h r
  ready_lower g docs (negation q) cursors e last h r = (r.0, passed_lower (λ n. not (match_at docs q n)) (upto cursors) e last h r.1, r.2)
  ready_lower g docs (conjunction qs) cursors e last h r = (r.0, passed_lower (each_at docs qs) (upto cursors) e last h r.1, r.2)
  ready_lower g docs (disjunction qs) cursors e last h r = (r.0, all_lower g docs qs (rest_of cursors) e last h r.1)

  pub all_lower : (g : Gives) (docs : List Doc) (qs : Trees) (cursors : List Cursor) (e last : ℕ) → e ≤ last → AllReady g docs qs cursors last → AllReady g docs qs cursors e
  all_lower g docs no_trees cursors e last h r = r
  all_lower g docs (trees q qs) cursors e last h r = (ready_lower g docs q (take (size q) cursors) e last h r.0, all_lower g docs qs (drop (size q) cursors) e last h r.1)

pub leaves_lower : (g : Gives) (docs : List Doc) (ts : List (List ℕ)) (cursors : List Cursor) (e end : ℕ) → e ≤ end → AllLeaves g docs ts cursors end → AllLeaves g docs ts cursors e
leaves_lower g docs [] cursors e end h r = r
leaves_lower g docs (t ∷ ts) [] e end h r = r
leaves_lower g docs (t ∷ ts) (s ∷ ss) e end h r = (leaf_lower g (is_posting docs t) s e end h r.0, leaves_lower g docs ts ss (suc e) (suc end) (omega arith) r.1)

pub leaves_later : (g g' : Gives) → Later g g' → (docs : List Doc) (ts : List (List ℕ)) (cursors : List Cursor) (end : ℕ) → AllLeaves g docs ts cursors end → AllLeaves g' docs ts cursors end
leaves_later g g' w docs [] cursors end r = r
leaves_later g g' w docs (t ∷ ts) [] end r = r
leaves_later g g' w docs (t ∷ ts) (s ∷ ss) end r = (leaf_later g g' w (is_posting docs t) s end r.0, leaves_later g g' w docs ts ss (suc end) r.1)

pub leaves_length : (g : Gives) (docs : List Doc) (ts : List (List ℕ)) (cursors : List Cursor) (end : ℕ) → AllLeaves g docs ts cursors end → length cursors ≡ length ts
leaves_length g docs [] cursors end r = ap length r
leaves_length g docs (t ∷ ts) [] end r = absurd r
leaves_length g docs (t ∷ ts) (s ∷ ss) end r = omega (arith, leaves_length g docs ts ss (suc end) r.1)

pub behind_later : (g g' : Gives) → Later g g' → (docs : List Doc) (ts : List (List ℕ)) (cursors : List Cursor) (end : ℕ) → AllBehind g docs ts cursors end → AllBehind g' docs ts cursors end
behind_later g g' w docs [] cursors end r = r
behind_later g g' w docs (t ∷ ts) [] end r = r
behind_later g g' w docs (t ∷ ts) (s ∷ ss) end r = (leaf_later g g' w (is_posting docs t) s (number_before (first_below docs ts end)) r.0, behind_later g g' w docs ts ss end r.1)

pub bound_later : (g g' : Gives) → Later g g' → (docs : List Doc) (x : ℕ) (s : Cursor) (last : ℕ) → IsBound g docs x s last → IsBound g' docs x s last
bound_later g g' w docs x s last r = record {
  passed = r.passed;
  firsts = λ some. w.firsts s.segment docs (r.firsts some);
  within = r.within;
  near = r.near;
  low = r.low;
  known = r.known;
}

only_bound_later : (g g' : Gives) → Later g g' → (docs : List Doc) (x : ℕ) (cursors : List Cursor) (last : ℕ) → IsOnlyBound g docs x cursors last → IsOnlyBound g' docs x cursors last
only_bound_later g g' w docs x [] last r = r
only_bound_later g g' w docs x (s ∷ ss) last r = (r.0, bound_later g g' w docs x s last r.1)

only_later : (g g' : Gives) → Later g g' → (docs : List Doc) (t : List ℕ) (cursors : List Cursor) (last : ℕ) → IsOnly g docs t cursors last → IsOnly g' docs t cursors last
only_later g g' w docs t [] last r = r
only_later g g' w docs t (s ∷ ss) last r = (r.0, r.1, leaf_later g g' w (is_posting docs t) s (places * last) r.2)

mutual
  pub ready_later : (g g' : Gives) → Later g g' → (docs : List Doc) (q : Tree) (cursors : List Cursor) (last : ℕ) → Ready g docs q cursors last → Ready g' docs q cursors last
  ready_later g g' w docs (word t) cursors last r = only_later g g' w docs t cursors last r
  ready_later g g' w docs (phrase ts) cursors last r = (r.0, r.1, r.2, r.3, λ some. leaves_later g g' w docs ts cursors (upto cursors) (r.4 some))
  ready_later g g' w docs (window ts v) cursors last r = (r.0, r.1, r.2, r.3, λ some. behind_later g g' w docs ts cursors (upto cursors) (r.4 some))
  ready_later g g' w docs (since x) cursors last r = only_bound_later g g' w docs x cursors last r
  ready_later g g' w docs (negation q) cursors last r = (r.0, r.1, ready_later g g' w docs q (rest_of cursors) (upto cursors) r.2)
  ready_later g g' w docs (conjunction qs) cursors last r = (r.0, r.1, all_later g g' w docs qs (rest_of cursors) (upto cursors) r.2)
  ready_later g g' w docs (disjunction qs) cursors last r = (r.0, all_later g g' w docs qs (rest_of cursors) last r.1)

  pub all_later : (g g' : Gives) → Later g g' → (docs : List Doc) (qs : Trees) (cursors : List Cursor) (last : ℕ) → AllReady g docs qs cursors last → AllReady g' docs qs cursors last
  all_later g g' w docs no_trees cursors last r = r
  all_later g g' w docs (trees q qs) cursors last r = (ready_later g g' w docs q (take (size q) cursors) last r.0, all_later g g' w docs qs (drop (size q) cursors) last r.1)

-- ---- each query has as many cursors as its size

only_length : (g : Gives) (docs : List Doc) (t : List ℕ) (cursors : List Cursor) (last : ℕ) → IsOnly g docs t cursors last → length cursors ≡ 1
only_length g docs t [] last r = absurd r
only_length g docs t (s ∷ ss) last r = let e : length ss ≡ 0 = ap length r.0 in omega arith

only_bound_length : (g : Gives) (docs : List Doc) (x : ℕ) (cursors : List Cursor) (last : ℕ) → IsOnlyBound g docs x cursors last → length cursors ≡ 1
only_bound_length g docs x [] last r = absurd r
only_bound_length g docs x (s ∷ ss) last r = let e : length ss ≡ 0 = ap length r.0 in omega arith

take_append_drop : (n : ℕ) (xs : List Cursor) → take n xs ++ drop n xs ≡ xs
take_append_drop n xs = take-append-drop n xs

length_rest : (cursors : List Cursor) → 0 < length cursors → length cursors ≡ 1 + length (rest_of cursors)
length_rest [] h = absurd (omega arith)
length_rest (s ∷ ss) h = omega arith

mutual
  pub ready_length : (g : Gives) (docs : List Doc) (q : Tree) (cursors : List Cursor) (last : ℕ) → Ready g docs q cursors last → length cursors ≡ size q
  ready_length g docs (word t) cursors last r = only_length g docs t cursors last r
  ready_length g docs (phrase ts) cursors last r = r.3
  ready_length g docs (window ts w) cursors last r = r.3
  ready_length g docs (since x) cursors last r = only_bound_length g docs x cursors last r
  ready_length g docs (negation q) cursors last r = omega (arith, length_rest cursors r.0, ready_length g docs q (rest_of cursors) (upto cursors) r.2)
  ready_length g docs (conjunction qs) cursors last r = omega (arith, length_rest cursors r.0, all_length g docs qs (rest_of cursors) (upto cursors) r.2)
  ready_length g docs (disjunction qs) cursors last r = omega (arith, length_rest cursors r.0, all_length g docs qs (rest_of cursors) last r.1)

  pub all_length : (g : Gives) (docs : List Doc) (qs : Trees) (cursors : List Cursor) (last : ℕ) → AllReady g docs qs cursors last → length cursors ≡ sizes qs
  all_length g docs no_trees cursors last r = ap length r
  all_length g docs (trees q qs) cursors last r =
      let a : length (take (size q) cursors) ≡ size q = ready_length g docs q (take (size q) cursors) last r.0 in
      let b : length (drop (size q) cursors) ≡ sizes qs = all_length g docs qs (drop (size q) cursors) last r.1 in
      omega (arith, ap length (take_append_drop (size q) cursors), length-append (take (size q) cursors) (drop (size q) cursors))

-- ---- the parts, from the first on

pub all_front : (g : Gives) (docs : List Doc) (qs : Trees) (q : Tree) (qs' : Trees) (cursors : List Cursor) (last : ℕ) → qs ≡ trees q qs'
    → AllReady g docs qs cursors last → Ready g docs q (take (size q) cursors) last × AllReady g docs qs' (drop (size q) cursors) last
all_front g docs qs q qs' cursors last e r = subst (λ x. AllReady g docs x cursors last) e r

pub all_size : (g : Gives) (docs : List Doc) (qs : Trees) (q : Tree) (qs' : Trees) (cursors : List Cursor) (last : ℕ) → qs ≡ trees q qs' → AllReady g docs qs cursors last → size q ≤ length cursors
all_size g docs qs q qs' cursors last e r = let s : sizes qs ≡ size q + sizes qs' = ap sizes e in omega (arith, all_length g docs qs cursors last r)

pub all_join : (g : Gives) (docs : List Doc) (qs : Trees) (q : Tree) (qs' : Trees) (a b : List Cursor) (last : ℕ)
    → qs ≡ trees q qs' → Ready g docs q a last → AllReady g docs qs' b last → AllReady g docs qs (a ++ b) last
all_join g docs qs q qs' a b last e r rs =
    let n : length a ≡ size q = ready_length g docs q a last r in
    let front : take (size q) (a ++ b) ≡ a = subst (λ k. take k (a ++ b) ≡ a) n (take-append_seam a b) in
    let back : drop (size q) (a ++ b) ≡ b = subst (λ k. drop k (a ++ b) ≡ b) n (drop-append_seam a b) in
    subst (λ x. AllReady g docs x (a ++ b) last) (sym e) (subst (λ x. Ready g docs q x last) (sym front) r, subst (λ x. AllReady g docs qs' x last) (sym back) rs)
