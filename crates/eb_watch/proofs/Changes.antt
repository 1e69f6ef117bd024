-- What a number finds after a watch is set or removed.
use Rattle.std.proofs.Common.{◌≡◌, ℕ, ◌==◌, Bool, true, false, not, ◌&&◌, ◌||◌, Some, None, List, refl, sym, ap, ◌∙◌, inl, inr}
use Rattle.std.specs.Map.{lookup, keys_of, remove_entry}
use Rattle.std.specs.Ordering.{nat_cmp}
use Rattle.std.specs.BTreeMap.{is_at, insert_entry}
use Rattle.std.proofs.lemmas.Bool.{cases_Bool, eqb-true}
use Rattle.eb_base.specs.Query.{Tree, tree}
use Rattle.eb_watch.specs.declared.watch.Watch.{Watch}
use Rattle.eb_watch.specs.Watches.{Watched, is_set}
use Rattle.eb_watch.specs.Index.{finds}
use Rattle.eb_watch.specs.Held.{watched}
use Rattle.eb_watch.proofs.Numbers.{and_true, and_none}
use Rattle.eb_watch.proofs.Lists.{Rises, finds_with, finds_without, finds_one, finds_none, watched_insert, watched_remove}

taken : (x b : Bool) → x ≡ b → (x && not b) ≡ false
taken true b e = ap not (sym e)
taken false b e = refl

-- a watch is removed
pub removed : (p : Tree → Bool) (es new : List (ℕ × Watch)) (number : ℕ) (v : Watch) → Rises (keys_of es) → lookup (is_at (nat_cmp number)) es ≡ Some v → new ≡ remove_entry (is_at (nat_cmp number)) es
    → (n : ℕ) → (finds p (watched es) n && not ((n == number) && p (tree v.query))) ≡ finds p (watched new) n
removed p es new number v r found e n =
    let now : finds p (watched new) n ≡ (finds p (watched es) n && not (n == number)) =
    ap (λ (l : List (ℕ × Watch)). finds p (watched l) n) e ∙ ap (λ (ws : List Watched). finds p ws n) (watched_remove es number r) ∙ finds_without p (watched es) number n in
    elim (cases_Bool (n == number)) [
      | inl y ↦
          let one : finds p (watched es) n ≡ p (tree v.query) = ap (finds p (watched es)) (eqb-true n number y) ∙ finds_one p es number v r found in
          let here : (finds p (watched es) n && not ((n == number) && p (tree v.query))) ≡ false = rw y (taken (finds p (watched es) n) (p (tree v.query)) one) in
          let there : (finds p (watched es) n && not (n == number)) ≡ false = rw y (and_none (finds p (watched es) n)) in
          here ∙ sym (now ∙ there)
      | inr o ↦
          let same : (finds p (watched es) n && not ((n == number) && p (tree v.query))) ≡ (finds p (watched es) n && not (n == number)) = rw o refl in
          same ∙ sym now
    ]

-- a watch is set
pub inserted : (p : Tree → Bool) (es new : List (ℕ × Watch)) (number : ℕ) (v : Watch) → lookup (is_at (nat_cmp number)) es ≡ None → new ≡ insert_entry nat_cmp es number v
    → (n : ℕ) → (((n == number) && p (tree v.query)) || finds p (watched es) n) ≡ finds p (watched new) n
inserted p es new number v none e n =
    sym (ap (λ (l : List (ℕ × Watch)). finds p (watched l) n) e ∙ ap (λ (ws : List Watched). finds p ws n) (watched_insert es number v none) ∙ finds_with p (watched es) number (tree v.query) n)

-- a number that was put in and taken out again, and was not there before
pub restored : (p : Tree → Bool) (ws : List Watched) (number : ℕ) → is_set ws number ≡ false → (n : ℕ) (has : Bool)
    → ((((n == number) && has) || finds p ws n) && not ((n == number) && has)) ≡ finds p ws n
restored p ws number free n has = elim (cases_Bool (n == number)) [
  | inl y ↦ let none : finds p ws n ≡ false = ap (finds p ws) (eqb-true n number y) ∙ finds_none p ws number free in rw (y, none) (out has)
  | inr o ↦ rw o (and_true (finds p ws n))
]
  where
    out : (h : Bool) → ((h || false) && not h) ≡ false
    out true = refl
    out false = refl
