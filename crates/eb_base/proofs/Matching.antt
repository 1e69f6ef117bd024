-- The test of a match decides the match.
use Rattle.std.proofs.Common.{◌≡◌, ℕ, zero, suc, ◌+◌, ◌<◌, ◌≤◌, ◌&&◌, slice_get, Some, arith, subst, inl, inr, true, false, List, [], ◌∷◌, length, take, drop, bytes_eq, refl, sym, ap, ◌∙◌}
use Rattle.std.specs.Bool.{Decides}
use Rattle.std.specs.List.{starts_with}
use Rattle.std.proofs.lemmas.Bool.{cases_Bool, ltb-true, lt-ltb, or_cases, or_left, or_right, and_parts, and_from, not-true, not_from_false, false_from_ne_true}
use Rattle.std.proofs.lemmas.Cmp.{nat_list_eq_equiv}
use Rattle.std.proofs.lemmas.Map.Views.{list_any-from_Contains, Contains-from_any}
use Rattle.std.proofs.lemmas.Slice.Eq.{slice_eq-Decides, bytes_eq-Decides}
use Rattle.eb_base.specs.Document.{Doc}
use Rattle.eb_base.specs.Query.{Tree, Trees, word, phrase, window, since, negation, conjunction, disjunction, no_trees, trees}
use Rattle.eb_base.specs.Match.{Stand, Matches, EachMatches, SomeMatches, has_phrase, has_in_order, has_window, is_match, each_matches, some_matches}

-- the phrase begins the list
begins : (ts p : List (List ℕ)) → Decides (starts_with bytes_eq ts p) (p ≡ take (length p) ts)
begins ts p = slice_eq-Decides bytes_eq-Decides p (take (length p) ts) _ refl

drop_nil : (i : ℕ) → drop {A = List ℕ} i [] ≡ []
drop_nil zero = refl
drop_nil (suc i) = refl

stands_at : (p ts : List (List ℕ)) → has_phrase p ts ≡ true → (i : ℕ) × (take (length p) (drop i ts) ≡ p)
stands_at p [] h = (0, sym ((begins [] p).0 h))
stands_at p (t ∷ ts) h = elim (or_cases (starts_with bytes_eq (t ∷ ts) p) (has_phrase p ts) h) [
  | inl here ↦ (0, sym ((begins (t ∷ ts) p).0 here))
  | inr there ↦ let rest = stands_at p ts there in (suc rest.0, rest.1)
]

found_at : (p ts : List (List ℕ)) (i : ℕ) → take (length p) (drop i ts) ≡ p → has_phrase p ts ≡ true
found_at p [] i e = (begins [] p).1 (sym e ∙ ap (take (length p)) (drop_nil i))
found_at p (t ∷ ts) zero e = or_left _ _ ((begins (t ∷ ts) p).1 (sym e))
found_at p (t ∷ ts) (suc i) e = or_right _ _ (found_at p ts i e)

-- ---- windows

-- with one more term before them, the places are one further on
raise : (t : List ℕ) (us ts : List (List ℕ)) (p l : ℕ) → Stand us ts p l → Stand (t ∷ us) ts (suc p) (suc l)
raise t us [] p l h = h
raise t us (v ∷ []) p l h = (h.0, ap suc h.1)
raise t us (v ∷ x ∷ ts) p l h = (h.0, (suc h.1.0, omega (arith, h.1.1), raise t us (x ∷ ts) h.1.0 l h.1.2))

-- and without it one before
lower : (t : List ℕ) (us ts : List (List ℕ)) (p l : ℕ) → Stand (t ∷ us) ts (suc p) l → (k : ℕ) × (l ≡ suc k) × Stand us ts p k
lower t us [] p l h = absurd h
lower t us (v ∷ []) p l h = (p, h.1, (h.0, refl))
lower t us (v ∷ x ∷ ts) p l h = go h.1.0 h.1.1 h.1.2 (λ q s. lower t us (x ∷ ts) q l s)
  where
    go : (n : ℕ) → suc p < n → Stand (t ∷ us) (x ∷ ts) n l → ((q : ℕ) → Stand (t ∷ us) (x ∷ ts) (suc q) l → (k : ℕ) × (l ≡ suc k) × Stand us (x ∷ ts) q k)
        → (k : ℕ) × (l ≡ suc k) × Stand us (v ∷ x ∷ ts) p k
    go zero less s below = absurd (omega (arith, less))
    go (suc q) less s below = let k = below q s in (k.0, k.1, (h.0, (q, omega (arith, less), k.2)))

-- an element of a prefix is an element of the list
get_front : (n : ℕ) (us : List (List ℕ)) (p : ℕ) (t : List ℕ) → slice_get (take n us) p ≡ Some t → slice_get us p ≡ Some t
get_front zero us p t h = let no : ⊥ = cc in absurd no
get_front (suc n) [] p t h = h
get_front (suc n) (u ∷ us) zero t h = h
get_front (suc n) (u ∷ us) (suc p) t h = get_front n us p t h

front : (n : ℕ) (us ts : List (List ℕ)) (p l : ℕ) → Stand (take n us) ts p l → Stand us ts p l
front n us [] p l h = h
front n us (v ∷ []) p l h = (get_front n us p v h.0, h.1)
front n us (v ∷ x ∷ ts) p l h = (get_front n us p v h.0, (h.1.0, h.1.1, front n us (x ∷ ts) h.1.0 l h.1.2))

-- terms that occur in their order after a first one have places
order_stands : (t : List ℕ) (ts us : List (List ℕ)) → has_in_order ts us ≡ true → (l : ℕ) × Stand (t ∷ us) (t ∷ ts) 0 l × (l ≤ length us)
order_stands t [] us h = (0, (refl, refl), omega arith)
order_stands t (v ∷ ts) [] h = let no : ⊥ = cc in absurd no
order_stands t (v ∷ ts) (u ∷ us) h = elim (cases_Bool (bytes_eq v u)) [
  | inl e ↦ let same : v ≡ u = (bytes_eq-Decides v u).0 e in let rest : has_in_order ts us ≡ true = sym (rw e refl) ∙ h in
      let r = order_stands u ts us rest in
      (suc r.0, (refl, (1, omega arith, subst (λ (x : List ℕ). Stand (t ∷ u ∷ us) (x ∷ ts) 1 (suc r.0)) (sym same) (raise t (u ∷ us) (u ∷ ts) 0 r.0 r.1))), omega (arith, r.2))
  | inr e ↦ let rest : has_in_order (v ∷ ts) us ≡ true = sym (rw e refl) ∙ h in
      let r = order_stands t (v ∷ ts) us rest in further r.0 r.1 r.2
]
  where
    skip : (l : ℕ) → (n : ℕ) → 0 < n → Stand (t ∷ us) (v ∷ ts) n l → l ≤ length us → (k : ℕ) × Stand (t ∷ u ∷ us) (t ∷ v ∷ ts) 0 k × (k ≤ suc (length us))
    skip l zero less s few = absurd (omega (arith, less))
    skip l (suc q) less s few =
        let k = lower t us (v ∷ ts) q l s in
        (suc (suc k.0), (refl, (suc (suc q), omega arith, raise t (u ∷ us) (v ∷ ts) (suc q) (suc k.0) (raise u us (v ∷ ts) q k.0 k.2))), omega (arith, k.1, few))

    further : (l : ℕ) → Stand (t ∷ us) (t ∷ v ∷ ts) 0 l → l ≤ length us → (k : ℕ) × Stand (t ∷ u ∷ us) (t ∷ v ∷ ts) 0 k × (k ≤ suc (length us))
    further l s few = skip l s.1.0 s.1.1 s.1.2 few

window_stands : (ts : List (List ℕ)) (w : ℕ) (us : List (List ℕ)) → has_window ts w us ≡ true → (first : ℕ) × (last : ℕ) × Stand us ts first last × (last ≤ first + w)
window_stands [] w us h = let no : ⊥ = cc in absurd no
window_stands (t ∷ ts) w [] h = let no : ⊥ = cc in absurd no
window_stands (t ∷ ts) w (u ∷ us) h = elim (or_cases (bytes_eq t u && has_in_order ts (take w us)) (has_window (t ∷ ts) w us) h) [
  | inl here ↦ let both = and_parts _ _ here in let same : t ≡ u = (bytes_eq-Decides t u).0 both.0 in
      let r = order_stands t ts (take w us) both.1 in
      (0, r.0, subst (λ (x : List ℕ). Stand (x ∷ us) (t ∷ ts) 0 r.0) same (front (suc w) (t ∷ us) (t ∷ ts) 0 r.0 r.1), omega (arith, r.2, length_front w us))
  | inr there ↦ let r = window_stands (t ∷ ts) w us there in
      (suc r.0, suc r.1, raise u us (t ∷ ts) r.0 r.1 r.2, omega (arith, r.3))
]
  where
    length_front : (n : ℕ) (xs : List (List ℕ)) → length (take n xs) ≤ n
    length_front zero xs = omega arith
    length_front (suc n) [] = omega arith
    length_front (suc n) (x ∷ xs) = omega (arith, length_front n xs)

-- a term at the first place is that of the list
first_is : (u : List ℕ) (us : List (List ℕ)) (t : List ℕ) (ts : List (List ℕ)) (l : ℕ) → Stand (u ∷ us) (t ∷ ts) 0 l → bytes_eq t u ≡ true
first_is u us t [] l h = let e : u ≡ t = cc (h.0) in (bytes_eq-Decides t u).1 (sym e)
first_is u us t (v ∷ ts) l h = let e : u ≡ t = cc (h.0) in (bytes_eq-Decides t u).1 (sym e)

-- terms that occur before an end are found in their order before it
order_found : (ts us : List (List ℕ)) (n p l : ℕ) → Stand us ts p l → l < n → has_in_order ts (take n us) ≡ true
order_found [] us n p l h less = refl
order_found (t ∷ ts) [] n p l h less = absurd (none_at ts h)
  where
    none_at : (ts : List (List ℕ)) → Stand [] (t ∷ ts) p l → ⊥
    none_at [] h = cc (h.0)
    none_at (v ∷ ts) h = cc (h.0)
order_found (t ∷ ts) (u ∷ us) zero p l h less = absurd (omega (arith, less))
order_found (t ∷ ts) (u ∷ us) (suc n) p l h less = elim (cases_Bool (bytes_eq t u)) [
  | inl e ↦ rw e (here ts p h (λ vs q k s i. order_found vs us n q k s i))
  | inr e ↦ rw e (there p h e (λ q k s i. order_found (t ∷ ts) us n q k s i))
]
  where
    here : (ts : List (List ℕ)) (p : ℕ) → Stand (u ∷ us) (t ∷ ts) p l
        → ((vs : List (List ℕ)) (q k : ℕ) → Stand us vs q k → k < n → has_in_order vs (take n us) ≡ true) → has_in_order ts (take n us) ≡ true
    here [] p h below = refl
    here (v ∷ ts) p h below = go h.1.0 h.1.1 h.1.2
      where
        go : (q : ℕ) → p < q → Stand (u ∷ us) (v ∷ ts) q l → has_in_order (v ∷ ts) (take n us) ≡ true
        go zero more s = absurd (omega (arith, more))
        go (suc q) more s = let k = lower u us (v ∷ ts) q l s in below (v ∷ ts) q k.0 k.2 (omega (arith, k.1, less))

    there : (p : ℕ) → Stand (u ∷ us) (t ∷ ts) p l → bytes_eq t u ≡ false
        → ((q k : ℕ) → Stand us (t ∷ ts) q k → k < n → has_in_order (t ∷ ts) (take n us) ≡ true) → has_in_order (t ∷ ts) (take n us) ≡ true
    there zero s e below = let no : ⊥ = cc (first_is u us t ts l s, e) in absurd no
    there (suc q) s e below = let k = lower u us (t ∷ ts) q l s in below q k.0 k.2 (omega (arith, k.1, less))

window_found : (ts : List (List ℕ)) (w : ℕ) (us : List (List ℕ)) (first last : ℕ) → Stand us ts first last → last ≤ first + w → has_window ts w us ≡ true
window_found [] w us first last h near = absurd h
window_found (t ∷ ts) w [] first last h near = absurd (none_at ts h)
  where
    none_at : (ts : List (List ℕ)) → Stand [] (t ∷ ts) first last → ⊥
    none_at [] h = cc (h.0)
    none_at (v ∷ ts) h = cc (h.0)
window_found (t ∷ ts) w (u ∷ us) zero last h near = or_left _ _ (and_from _ _ (first_is u us t ts last h) (rest ts h))
  where
    rest : (ts : List (List ℕ)) → Stand (u ∷ us) (t ∷ ts) 0 last → has_in_order ts (take w us) ≡ true
    rest [] h = refl
    rest (v ∷ ts) h = go h.1.0 h.1.1 h.1.2
      where
        go : (q : ℕ) → 0 < q → Stand (u ∷ us) (v ∷ ts) q last → has_in_order (v ∷ ts) (take w us) ≡ true
        go zero more s = absurd (omega (arith, more))
        go (suc q) more s = let k = lower u us (v ∷ ts) q last s in order_found (v ∷ ts) us w q k.0 k.2 (omega (arith, k.1, near))
window_found (t ∷ ts) w (u ∷ us) (suc first) last h near =
    let k = lower u us (t ∷ ts) first last h in or_right _ _ (window_found (t ∷ ts) w us first k.0 k.2 (omega (arith, k.1, near)))

mutual
  pub match_decides : (q : Tree) (d : Doc) → Decides (is_match q d) (Matches q d)
  match_decides (word t) d = (λ h. Contains-from_any (λ x y. (bytes_eq-Decides x y).0) t d.terms h, λ h. list_any-from_Contains nat_list_eq_equiv t d.terms h)
  match_decides (phrase p) d = (λ h. stands_at p d.terms h, λ h. found_at p d.terms h.0 h.1)
  match_decides (window ts w) d = (λ h. window_stands ts w d.terms h, λ h. window_found ts w d.terms h.0 h.1 h.2 h.3)
  match_decides (since x) d = (λ h. ltb-true x d.id h, λ h. lt-ltb x d.id h)
  match_decides (negation q) d =
      let own = match_decides q d in
      (λ h m. let no : ⊥ = cc (own.1 m, not-true _ h) in no, λ h. not_from_false _ (false_from_ne_true _ (λ e. h (own.0 e))))
  match_decides (conjunction qs) d = each_decides qs d
  match_decides (disjunction qs) d = some_decides qs d

  each_decides : (qs : Trees) (d : Doc) → Decides (each_matches qs d) (EachMatches qs d)
  each_decides no_trees d = (λ h. tt, λ h. refl)
  each_decides (trees q qs) d =
      let own = match_decides q d in let rest = each_decides qs d in
      (λ h. let both = and_parts _ _ h in (own.0 both.0, rest.0 both.1), λ h. and_from _ _ (own.1 h.0) (rest.1 h.1))

  some_decides : (qs : Trees) (d : Doc) → Decides (some_matches qs d) (SomeMatches qs d)
  some_decides no_trees d = (λ h. let no : ⊥ = cc in no, λ h. absurd h)
  some_decides (trees q qs) d =
      let own = match_decides q d in let rest = some_decides qs d in (
        λ h. elim (or_cases _ _ h) [ inl here ↦ inl (own.0 here) | inr there ↦ inr (rest.0 there) ],
        λ h. elim h [ inl here ↦ or_left _ _ (own.1 here) | inr there ↦ or_right _ _ (rest.1 there) ],
      )
