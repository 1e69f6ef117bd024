-- The watches that a document may match, and those that it does.
use Rattle.std.proofs.Common.{◌≡◌, ℕ, ◌+◌, ◌<◌, ◌≤◌, ◌==◌, subst, nat_eq, Bool, true, false, cond, ◌&&◌, ◌||◌, List, [], ◌∷◌, ◌++◌, length, filter, take, get_or, refl, sym, ap, ◌∙◌, inl, inr}
use Rattle.std.specs.List.{list_any}
use Rattle.std.specs.List.Sorted.{IsStrictlyIncreasing}
use Rattle.std.specs.HashMap.{HashMap}
use Rattle.std.specs.BTreeSet.{BTreeSet, contains}
use Rattle.std.specs.Map.{keys_of}
use Rattle.std.specs.Ordering.{nat_cmp}
use Rattle.std.specs.declared.vec.Vec.{Vec}
use Rattle.std.proofs.lemmas.Bool.{cases_Bool, eqb-true, or_cases, or_left, or_right, and_parts, and_from}
use Rattle.std.proofs.lemmas.List.{length-map, append-nil, take_all}
use Rattle.std.proofs.lemmas.List.Elements.{filter_more}
use Rattle.std.proofs.lemmas.List.Kept.{IsStrictlyIncreasing-filter}
use Rattle.std.proofs.lemmas.Map.Views.{any-filter_same}
use Rattle.eb_base.specs.Document.{Doc}
use Rattle.eb_base.specs.Match.{is_match}
use Rattle.eb_base.specs.Query.{Tree}
use Rattle.eb_watch.specs.Key.{watch_key, is_keyless, key_has, is_candidate}
use Rattle.eb_watch.specs.Watches.{Watched, numbers_of, matching, candidates}
use Rattle.eb_watch.specs.Index.{leads, finds}
use Rattle.eb_watch.specs.declared.watch.Watch.{Watch}
use Rattle.eb_watch.specs.Held.{watched, TermsLead, AreKeyless}
use Rattle.eb_watch.proofs.Keys.{match_is_candidate}
use Rattle.eb_watch.proofs.Lists.{rises_from, rises_filter, increases, same_rising, member_numbers, numbers_watched}

any_same : {X : Type 0} (p q : X → Bool) → ((x : X) → p x ≡ q x) → (xs : List X) → list_any p xs ≡ list_any q xs
any_same p q h [] = refl
any_same p q h (x ∷ xs) = (λ i. h x i || any_same p q h xs i)

deal : (b c d e f : Bool) → ((b && (c || d)) || (e || f)) ≡ (((b && c) || e) || ((b && d) || f))
deal true true d e f = refl
deal true false true true f = refl
deal true false true false f = refl
deal true false false true f = refl
deal true false false false f = refl
deal false c d e f = refl

finds_or : (p r : Tree → Bool) (ws : List Watched) (n : ℕ) → finds (λ q. p q || r q) ws n ≡ (finds p ws n || finds r ws n)
finds_or p r [] n = refl
finds_or p r (w ∷ ws) n = ap (λ (b : Bool). ((n == w.0) && (p w.1 || r w.1)) || b) (finds_or p r ws n) ∙ deal (n == w.0) (p w.1) (r w.1) (finds p ws n) (finds r ws n)

finds_no : (ws : List Watched) (n : ℕ) → finds (λ q. false) ws n ≡ false
finds_no [] n = refl
finds_no (w ∷ ws) n = elim (cases_Bool (n == w.0)) [ inl y ↦ rw y (finds_no ws n) | inr ne ↦ rw ne (finds_no ws n) ]

finds_any : (h : Tree → List ℕ → Bool) (ts : List (List ℕ)) (ws : List Watched) (n : ℕ) → finds (λ q. list_any (h q) ts) ws n ≡ list_any (λ t. finds (λ q. h q t) ws n) ts
finds_any h [] ws n = finds_no ws n
finds_any h (t ∷ ts) ws n = finds_or (λ q. h q t) (λ q. list_any (h q) ts) ws n ∙ ap (λ (b : Bool). finds (λ q. h q t) ws n || b) (finds_any h ts ws n)

finds_weaker : (p r : Tree → Bool) → ((q : Tree) → p q ≡ true → r q ≡ true) → (ws : List Watched) (n : ℕ) → finds p ws n ≡ true → finds r ws n ≡ true
finds_weaker p r h [] n f = f
finds_weaker p r h (w ∷ ws) n f = elim (or_cases _ _ f) [
  | inl here ↦ let both = and_parts (n == w.0) (p w.1) here in or_left _ _ (and_from _ _ both.0 (h w.1 both.1))
  | inr there ↦ or_right ((n == w.0) && r w.1) _ (finds_weaker p r h ws n there)
]

-- the numbers that the document leads to are those of the candidates
pub found : {S Z : Type 0} (by_term : HashMap (Vec ℕ Z) (BTreeSet ℕ) S) (keyless : BTreeSet ℕ) (ws : List Watched) (d : Doc) → TermsLead by_term ws → AreKeyless keyless ws
    → (n : ℕ) → (contains nat_cmp keyless n || list_any (λ t. leads by_term t n) d.terms) ≡ finds (λ q. is_candidate q d) ws n
found by_term keyless ws d l k n =
    (λ i. k n i || any_same (λ t. leads by_term t n) (λ t. finds (λ q. key_has (watch_key q) t) ws n) (λ t. l t n) d.terms i)
    ∙ ap (λ (b : Bool). finds is_keyless ws n || b) (sym (finds_any (λ q. key_has (watch_key q)) d.terms ws n))
    ∙ sym (finds_or is_keyless (λ q. list_any (key_has (watch_key q)) d.terms) ws n)

-- numbers that rise, and are those that a property finds, are those of the watches with the
-- property
these : (p : Tree → Bool) (ws : List Watched) (ns : List ℕ) → IsStrictlyIncreasing (numbers_of ws) → IsStrictlyIncreasing ns → ((n : ℕ) → list_any (nat_eq n) ns ≡ finds p ws n)
    → ns ≡ numbers_of (filter (λ w. p w.1) ws)
these p ws ns up rising has =
    same_rising ns (numbers_of (filter (λ w. p w.1) ws)) rising (increases _ (rises_filter p ws (rises_from _ up))) (λ n. has n ∙ sym (member_numbers p ws n))

both_same : (b c : Bool) → (b ≡ true → c ≡ true) → (b && c) ≡ b
both_same true c h = h refl
both_same false c h = refl

-- of the candidates' numbers those that find a match are those of the watches that match
pub told_are : (ws : List Watched) (d : Doc) (ns : List ℕ) → IsStrictlyIncreasing (numbers_of ws) → IsStrictlyIncreasing ns → ((n : ℕ) → list_any (nat_eq n) ns ≡ finds (λ q. is_candidate q d) ws n)
    → filter (finds (λ q. is_match q d) ws) ns ≡ numbers_of (matching ws d)
told_are ws d ns up rising has =
    let F : ℕ → Bool = finds (λ q. is_match q d) ws in
    these (λ q. is_match q d) ws (filter F ns) up (IsStrictlyIncreasing-filter F ns rising)
    (λ n. any-filter_same (nat_eq n) F (F n) (λ k e. ap F (sym (eqb-true n k e))) ns ∙ ap (λ (b : Bool). F n && b) (has n)
    ∙ both_same (F n) _ (finds_weaker (λ q. is_match q d) (λ q. is_candidate q d) (λ q h. match_is_candidate q d h) ws n))

-- and they are as many as the candidates
pub as_many : (ws : List Watched) (d : Doc) (ns : List ℕ) → IsStrictlyIncreasing (numbers_of ws) → IsStrictlyIncreasing ns → ((n : ℕ) → list_any (nat_eq n) ns ≡ finds (λ q. is_candidate q d) ws n)
    → length ns ≡ length (candidates ws d)
as_many ws d ns up rising has = ap length (these (λ q. is_candidate q d) ws ns up rising has) ∙ length-map (candidates ws d) (λ w. w.0)

-- ---- one candidate after another

module _ (p : Tree → Bool) (es : List (ℕ × Watch)) (ns : List ℕ) (i x : ℕ) (within : i < length ns) (at : x ≡ get_or ns i x)
    (old new : List ℕ) (before : old ≡ filter (finds p (watched es)) (take i ns)) where
  one_more : (b : Bool) → finds p (watched es) x ≡ b → filter (finds p (watched es)) (take (i + 1) ns) ≡ old ++ cond b (x ∷ []) []
  one_more b e =
      filter_more (finds p (watched es)) ns i x within
      ∙ (λ j. sym before j ++ cond ((ap (finds p (watched es)) (sym at) ∙ e) j) (sym at j ∷ []) [])

  -- it matches
  pub told_more : finds p (watched es) x ≡ true → new ≡ old ++ x ∷ [] → new ≡ filter (finds p (watched es)) (take (i + 1) ns)
  told_more e grew = grew ∙ sym (one_more true e)

  -- it doesn't
  pub told_no_more : finds p (watched es) x ≡ false → new ≡ old → new ≡ filter (finds p (watched es)) (take (i + 1) ns)
  told_no_more e stayed = stayed ∙ sym (append-nil old) ∙ sym (one_more false e)

-- ---- all candidates

module _ {S Z : Type 0} (by_term : HashMap (Vec ℕ Z) (BTreeSet ℕ) S) (keyless : BTreeSet ℕ) (es : List (ℕ × Watch)) (d : Doc) (ns : List ℕ)
    (up : IsStrictlyIncreasing (keys_of es)) (l : TermsLead by_term (watched es)) (k : AreKeyless keyless (watched es)) (rising : IsStrictlyIncreasing ns)
    (has : (n : ℕ) → list_any (nat_eq n) ns ≡ (contains nat_cmp keyless n || list_any (λ t. leads by_term t n) d.terms)) where
  numbers_up : IsStrictlyIncreasing (numbers_of (watched es))
  numbers_up = subst IsStrictlyIncreasing (sym (numbers_watched es)) up

  pub told_all : (numbers : List ℕ) (i : ℕ) → length ns ≤ i → numbers ≡ filter (finds (λ q. is_match q d) (watched es)) (take i ns) → numbers ≡ numbers_of (matching (watched es) d)
  told_all numbers i past e =
      e ∙ ap (filter (finds (λ q. is_match q d) (watched es))) (take_all i ns past) ∙ told_are (watched es) d ns numbers_up rising (λ n. has n ∙ found by_term keyless (watched es) d l k n)

  pub tried_all : length ns ≡ length (candidates (watched es) d)
  tried_all = as_many (watched es) d ns numbers_up rising (λ n. has n ∙ found by_term keyless (watched es) d l k n)

-- the numbers of the watches that match rise
pub matching_rises : (es : List (ℕ × Watch)) (d : Doc) (numbers : List ℕ) → IsStrictlyIncreasing (keys_of es) → numbers ≡ numbers_of (matching (watched es) d) → IsStrictlyIncreasing numbers
matching_rises es d numbers up e =
    subst IsStrictlyIncreasing (sym e)
    (increases _ (rises_filter (λ q. is_match q d) (watched es) (rises_from _ (subst IsStrictlyIncreasing (sym (numbers_watched es)) up))))
