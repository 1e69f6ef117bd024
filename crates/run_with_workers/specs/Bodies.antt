-- Which numbers lines see, and which lines ask, with others after them.
use Rattle.std.proofs.Common.{◌≡◌, ℕ, zero, suc, ◌-◌, ◌<◌, ◌≤◌, ◌⊎◌, inl, inr, true, false, List, [], ◌∷◌, ◌++◌, length}
use Rattle.std.proofs.Common.{slice_get, refl, sym, ap, ◌∙◌, arith, nat_lt}
use Rattle.std.proofs.lemmas.Bool.{cases_Bool}
use Rattle.std.proofs.lemmas.Bool.Decides.{nat_tests}
use Rattle.eb_base.specs.Document.{Doc}
use Rattle.eb_lines.specs.Reading.{Reading}
use Rattle.run_store.specs.Rows.{joined_numbers}
use Rattle.run_store.specs.Rules.{Rules}
use Rattle.run_store.specs.Sees.{is_asked, IsAsked}
use Rattle.run_store.specs.Text.{body_from}
use Rattle.run_store.proofs.Seeing.{get_front}
use Rattle.run_store.proofs.Texts.{body_same}

-- ---- the numbers of the first k lines, and then others

module _ (k : ℕ) (n m : ℕ → ℕ) where
  pub joined_front : (j : ℕ) → j < k → joined_numbers k n m j ≡ n j
  joined_front j low = let is : nat_lt j k ≡ true = grind (arith, nat_tests) in rw is refl

  pub joined_back : (j : ℕ) → k ≤ j → joined_numbers k n m j ≡ m (j - k)
  joined_back j high = let is : nat_lt j k ≡ false = grind (arith, nat_tests) in rw is refl

  pub joined_body : (rules : Rules (Unit {0})) (docs : List Doc) (rs : List Reading) → length rs ≡ k → body_from rules (joined_numbers k n m) docs 0 tt rs ≡ body_from rules n docs 0 tt rs
  joined_body rules docs rs e = body_same rules (joined_numbers k n m) n docs docs 0 tt rs (λ i low high. let same = joined_front i (omega (arith, high, e)) in (same, refl))

pub side : (j k : ℕ) → (j < k) ⊎ (k ≤ j)
side j k = elim (cases_Bool (nat_lt j k)) [
  | inl yes_is ↦ inl (grind (arith, nat_tests))
  | inr no_is ↦ inr (grind (arith, nat_tests))
]

-- ---- which lines ask

pub get_here : (rs : List Reading) (r : Reading) (ss : List Reading) → slice_get (rs ++ r ∷ ss) (length rs) ≡ slice_get (r ∷ ss) 0
get_here [] r ss = refl
get_here (x ∷ rs) r ss = get_here rs r ss

pub get_behind : (rs : List Reading) (j : ℕ) → length rs ≤ j → is_asked (slice_get rs j) ≡ false
get_behind [] j high = refl
get_behind (r ∷ rs) zero high = absurd (omega (arith, high))
get_behind (r ∷ rs) (suc j) high = get_behind rs j (omega (arith, high))

pub asked_front : (rs ss : List Reading) (j : ℕ) → j < length rs → IsAsked (rs ++ ss) j → IsAsked rs j
asked_front rs ss j low e = ap is_asked (sym (get_front rs ss j low)) ∙ e
