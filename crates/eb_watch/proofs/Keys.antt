-- A document that matches a query with a key has one of its terms.
use Rattle.std.proofs.Common.{◌≡◌, ℕ, zero, suc, ◌||◌, Bool, Option, None, Some, IfSome, List, [], ◌∷◌}
use Rattle.std.proofs.Common.{length, take, drop, slice_get, true, refl, ap, ◌∙◌, arith, inl, inr}
use Rattle.std.specs.List.{Contains, list_any}
use Rattle.std.specs.Option.{option_or, is_none}
use Rattle.std.proofs.lemmas.Bool.{or_left, or_right}
use Rattle.std.proofs.lemmas.Option.{slice_get_within, get_or_from_slice_get}
use Rattle.std.proofs.lemmas.List.Elements.{Contains-append_left, Contains-append_right}
use Rattle.std.proofs.lemmas.Cmp.{nat_list_eq_equiv}
use Rattle.std.proofs.lemmas.Map.Views.{list_any-from_Contains}
use Rattle.eb_base.proofs.Matching.{match_decides}
use Rattle.eb_base.specs.Document.{Doc}
use Rattle.eb_base.specs.Query.{Tree, Trees, word, phrase, window, since, negation, conjunction, disjunction, no_trees, trees}
use Rattle.eb_base.specs.Match.{Stand, Matches, EachMatches, SomeMatches, is_match}
use Rattle.eb_watch.specs.Key.{watch_key, first_key, all_keys, first_term, joined_keys, key_has, is_candidate}
use Rattle.eb_watch.specs.KeyLaw.{HasOneOf, KeyLaw}

alone : (t : List ℕ) → Contains (t ∷ []) t
alone t = (0, omega arith, refl)

got : (ts : List (List ℕ)) (i : ℕ) (t : List ℕ) → slice_get ts i ≡ Some t → Contains ts t
got ts i t e = (i, slice_get_within ts i t e, get_or_from_slice_get ts i t t e)

behind : (i : ℕ) (us : List (List ℕ)) (t : List ℕ) (ts : List (List ℕ)) → take (length (t ∷ ts)) (drop i us) ≡ t ∷ ts → slice_get us i ≡ Some t
behind zero [] t ts e = let no : ⊥ = cc in absurd no
behind zero (u ∷ us) t ts e = let h : u ≡ t = cc in ap Some h
behind (suc i) [] t ts e = let no : ⊥ = cc in absurd no
behind (suc i) (u ∷ us) t ts e = behind i us t ts e

of_phrase : (ts : List (List ℕ)) (d : Doc) → (i : ℕ) × (take (length ts) (drop i d.terms) ≡ ts) → IfSome (first_term ts) (λ key. HasOneOf key d)
of_phrase [] d m = tt
of_phrase (t ∷ ts) d m = (t, alone t, got d.terms m.0 t (behind m.0 d.terms t ts m.1))

of_window : (ts : List (List ℕ)) (d : Doc) (first last : ℕ) → Stand d.terms ts first last → IfSome (first_term ts) (λ key. HasOneOf key d)
of_window [] d first last s = tt
of_window (t ∷ []) d first last s = (t, alone t, got d.terms first t s.0)
of_window (t ∷ u ∷ ts) d first last s = (t, alone t, got d.terms first t s.0)

either : (d : Doc) (a b : Option (List (List ℕ))) → IfSome a (λ key. HasOneOf key d) → IfSome b (λ key. HasOneOf key d) → IfSome (option_or a b) (λ key. HasOneOf key d)
either d None b h k = k
either d (Some x) b h k = h

in_first : (d : Doc) (a b : Option (List (List ℕ))) → IfSome a (λ key. HasOneOf key d) → IfSome (joined_keys a b) (λ key. HasOneOf key d)
in_first d None b h = tt
in_first d (Some x) None h = tt
in_first d (Some x) (Some y) h = (h.0, Contains-append_left x y h.0 h.1, h.2)

in_rest : (d : Doc) (a b : Option (List (List ℕ))) → IfSome b (λ key. HasOneOf key d) → IfSome (joined_keys a b) (λ key. HasOneOf key d)
in_rest d None b h = tt
in_rest d (Some x) None h = tt
in_rest d (Some x) (Some y) h = (h.0, Contains-append_right x y h.0 h.1, h.2)

mutual
  has_one : (q : Tree) (d : Doc) → Matches q d → IfSome (watch_key q) (λ key. HasOneOf key d)
  has_one (word t) d m = (t, alone t, m)
  has_one (phrase ts) d m = of_phrase ts d m
  has_one (window ts w) d m = of_window ts d m.0 m.1 m.2
  has_one (since x) d m = tt
  has_one (negation q) d m = tt
  has_one (conjunction qs) d m = each_has_one qs d m
  has_one (disjunction qs) d m = some_has_one qs d m

  each_has_one : (qs : Trees) (d : Doc) → EachMatches qs d → IfSome (first_key qs) (λ key. HasOneOf key d)
  each_has_one no_trees d m = tt
  each_has_one (trees q qs) d m = either d (watch_key q) (first_key qs) (has_one q d m.0) (each_has_one qs d m.1)

  some_has_one : (qs : Trees) (d : Doc) → SomeMatches qs d → IfSome (all_keys qs) (λ key. HasOneOf key d)
  some_has_one no_trees d m = absurd m
  some_has_one (trees q qs) d m = elim m [
    | inl here ↦ in_first d (watch_key q) (all_keys qs) (has_one q d here)
    | inr there ↦ in_rest d (watch_key q) (all_keys qs) (some_has_one qs d there)
  ]

pub key_law : KeyLaw
key_law = has_one

-- ---- as a test

any_has : {X : Type 0} (p : X → Bool) (xs : List X) (x : X) → Contains xs x → p x ≡ true → list_any p xs ≡ true
any_has p [] x c h = absurd (omega (arith, c.1))
any_has p (y ∷ ys) x (zero, l, e) h = or_left _ _ (ap p e ∙ h)
any_has p (y ∷ ys) x (suc k, l, e) h = or_right (p y) _ (any_has p ys x (k, omega arith, e) h)

try_key : (key : Option (List (List ℕ))) (d : Doc) → IfSome key (λ ts. HasOneOf ts d) → (is_none key || list_any (key_has key) d.terms) ≡ true
try_key None d h = refl
try_key (Some ts) d h = any_has (key_has (Some ts)) d.terms h.0 h.2 (list_any-from_Contains nat_list_eq_equiv h.0 ts h.1)

-- a query that matches is a candidate
pub match_is_candidate : (q : Tree) (d : Doc) → is_match q d ≡ true → is_candidate q d ≡ true
match_is_candidate q d h = try_key (watch_key q) d (has_one q d ((match_decides q d).0 h))
