-- The numbers of a command line, and the settings that are allowed.
use Rattle.std.proofs.Common.{◌≡◌, inl, inr, ℕ, suc, zero, ◌+◌, ◌≤◌, ◌<◌, ◌&&◌, ◌||◌, ◌==◌, ◌≢◌, ◌^◌, Bool, true, false, true≢false, List, [], ◌∷◌, length, Some, None}
use Rattle.std.proofs.Common.{Result, Ok, Err, refl, sym, ap, ◌∙◌, arith, eqb-true, leb-true, le-leb, ltb-true, lt-ltb}
use Rattle.std.specs.Prelude.{nat_le, nat_lt}
use Rattle.std.specs.Int.{IsInRange}
use Rattle.std.specs.List.{list_all, list_any, range_with_len}
use Rattle.std.specs.Result.{OkIff, result_ok}
use Rattle.std.specs.Str.Parse.{ParsesUnsigned, digits_value}
use Rattle.std.proofs.lemmas.Bool.Decides.{Decides-eqb, leb_tells}
use Rattle.std.proofs.lemmas.Str.Parse.{IsDigitsTest, IsNumeralModel, digits_value_short, numerals_by_value, parse_digits}
use Rattle.eb_base.specs.Setting.{Setting, IsSetting, AreSegments, AreDocs, AreTerms, AreWords, words_of}
use Rattle.eb_base.specs.declared.config.ConfigFault.{ConfigFault}
use Rattle.eb_base.specs.declared.config.ConfigFault.TheVariants.{Segments, Docs, Terms, Words}
use Rattle.eb_options.specs.Numbers.{are_digits, is_digit, number}
use Rattle.eb_options.specs.Settings.{are_terms, is_setting}

pub both_true : (a b : Bool) → (a && b) ≡ true → (a ≡ true) × (b ≡ true)
both_true true b h = (refl, h)
both_true false b h = absurd (true≢false (sym h))

-- ---- digits

abbrev AreDigits : List ℕ → Type 0
AreDigits ds = list_all is_digit ds ≡ true

in_range : (c : ℕ) → is_digit c ≡ true → IsInRange 48 57 c
in_range c h = let p = both_true _ _ h in let low = leb-true _ _ p.0 in let high = leb-true _ _ p.1 in (low, high)

digit : (c : ℕ) → IsInRange 48 57 c → is_digit c ≡ true
digit c r = let low = r.0 in let high = r.1 in rw (le-leb 48 c low, le-leb c 57 high) refl

digits_test : IsDigitsTest AreDigits
digits_test = record { empty = refl; parts = λ c cs h. (in_range c (both_true _ _ h).0, (both_true _ _ h).1); more = λ c cs r h. rw (digit c r, h) refl }

own : IsNumeralModel AreDigits (digits_value 10)
own = numerals_by_value AreDigits digits_test

-- what `parse` gives
pub parsed : {E : Type 0} (most : ℕ) (word : List ℕ) (r : Result ℕ E) → are_digits most word ≡ true → ParsesUnsigned 64 10 word r → result_ok r ≡ number most word
parsed {E = E} most word r h parses =
    let p = both_true _ _ h in
    let q = both_true _ _ p.1 in
    let some : 0 < length word = leb-true _ _ p.0 in
    go r (parse_digits own 64 word r parses q.1) some (nat_lt (digits_value 10 word) (2 ^ 64)) refl
  where
    go : (r : Result ℕ E) → OkIff r ((0 < length word) × (digits_value 10 word < 2 ^ 64)) (digits_value 10 word) → 0 < length word → (b : Bool) → nat_lt (digits_value 10 word) (2 ^ 64) ≡ b
        → result_ok r ≡ number most word
    go (Ok x) k some true e = rw (h, e) (ap (λ (n : ℕ). Some n) k.1)
    go (Ok x) k some false e = absurd (true≢false (sym (lt-ltb (digits_value 10 word) (2 ^ 64) k.0.1) ∙ e))
    go (Err x) k some true e = absurd (k (some, ltb-true (digits_value 10 word) (2 ^ 64) e))
    go (Err x) k some false e = rw (h, e) refl

-- a number of nine digits
pub nine : (word : List ℕ) (n : ℕ) → number 9 word ≡ Some n → n < 2 ^ 32
nine word n h = go (are_digits 9 word) (nat_lt (digits_value 10 word) (2 ^ 64)) refl refl
  where
    go : (a b : Bool) → are_digits 9 word ≡ a → nat_lt (digits_value 10 word) (2 ^ 64) ≡ b → n < 2 ^ 32
    go false b x y = absurd (let none : None ≡ Some n = (let is : number 9 word ≡ None = rw x refl in sym is ∙ h) in cc)
    go true false x y = absurd (let none : None ≡ Some n = (let is : number 9 word ≡ None = rw (x, y) refl in sym is ∙ h) in cc)
    go true true x y =
        let q = both_true _ _ (both_true _ _ x).1 in
        let few : length word ≤ 9 = leb-true _ _ q.0 in
        let small : digits_value 10 word < 10 ^ 9 = digits_value_short own word 9 q.1 few in
        let value : digits_value 10 word ≡ n = (let same : Some (digits_value 10 word) ≡ Some n = (let is : number 9 word ≡ Some (digits_value 10 word) = rw (x, y) refl in sym is ∙ h) in cc) in
        omega arith

-- ---- terms

eqb_same : (n m : ℕ) → n ≡ m → (n == m) ≡ true
eqb_same n m h = (Decides-eqb n m).1 h

near : (k low n : ℕ) → low ≤ k → k < low + n → list_any (λ j. k == j) (range_with_len low n) ≡ true
near k low zero h g = absurd (omega arith)
near k low (suc n) h g = go (λ e f. near k (low + 1) n e f) (k == low) refl
  where
    go : (low + 1 ≤ k → k < low + 1 + n → list_any (λ j. k == j) (range_with_len (low + 1) n) ≡ true) → (b : Bool) → (k == low) ≡ b → list_any (λ j. k == j) (range_with_len low (suc n)) ≡ true
    go more true e = rw e refl
    go more false e = let other : k ≢ low = (λ same. true≢false (sym (eqb_same k low same) ∙ e)) in rw e (more (omega arith) (omega arith))

any_by : (p : ℕ → Bool) (k : ℕ) (ks : List ℕ) → p k ≡ true → list_any (λ j. k == j) ks ≡ true → list_any p ks ≡ true
any_by p k [] h g = g
any_by p k (j ∷ ks) h g = go (λ e. any_by p k ks h e) (k == j) refl
  where
    or_true : (b : Bool) → (b || true) ≡ true
    or_true true = refl
    or_true false = refl

    go : (list_any (λ j. k == j) ks ≡ true → list_any p ks ≡ true) → (b : Bool) → (k == j) ≡ b → list_any p (j ∷ ks) ≡ true
    go more true e = let same : k ≡ j = eqb-true _ _ e in rw (← same, h) refl
    go more false e = (let rest : list_any (λ j. k == j) ks ≡ true = (let is : list_any (λ j. k == j) (j ∷ ks) ≡ list_any (λ j. k == j) ks = rw e refl in sym is ∙ g) in rw (more rest) (or_true (p j)))

found : (n low m : ℕ) → list_any (λ k. n == 2 ^ k) (range_with_len low m) ≡ true → (k : ℕ) × (low ≤ k) × (k < low + m) × (n ≡ 2 ^ k)
found n low zero h = absurd (true≢false (sym h))
found n low (suc m) h = go (λ e. found n (low + 1) m e) (n == 2 ^ low) refl
  where
    go : (list_any (λ k. n == 2 ^ k) (range_with_len (low + 1) m) ≡ true → (k : ℕ) × (low + 1 ≤ k) × (k < low + 1 + m) × (n ≡ 2 ^ k)) → (b : Bool) → (n == 2 ^ low) ≡ b
        → (k : ℕ) × (low ≤ k) × (k < low + suc m) × (n ≡ 2 ^ k)
    go more true e = (low, omega arith, omega arith, eqb-true _ _ e)
    go more false e =
        let f = more (let is : list_any (λ k. n == 2 ^ k) (range_with_len low (suc m)) ≡ list_any (λ k. n == 2 ^ k) (range_with_len (low + 1) m) = rw e refl in sym is ∙ h) in
        let a = f.1 in let b = f.2 in (f.0, omega arith, omega arith, f.3)

terms_true : (n : ℕ) → AreTerms n → are_terms n ≡ true
terms_true n t = let low = t.1 in let high = t.2 in any_by (λ k. n == 2 ^ k) t.0 (range_with_len 10 11) (eqb_same n (2 ^ t.0) t.3) (near t.0 10 11 low (omega arith))

terms_are : (n : ℕ) → are_terms n ≡ true → AreTerms n
terms_are n h = let f = found n 10 11 h in let a = f.1 in let b = f.2 in (f.0, omega arith, omega arith, f.3)

-- ---- settings

pub setting_true : (σ : Setting) → IsSetting σ → is_setting σ ≡ true
setting_true σ s =
    rw (le-leb _ _ s.segments.0, le-leb _ _ s.segments.1, le-leb _ _ s.docs.0, le-leb _ _ s.docs.1, terms_true σ.terms s.terms, le-leb _ _ s.words) refl

pub setting_is : (σ : Setting) → is_setting σ ≡ true → IsSetting σ
setting_is σ h =
    let a = both_true _ _ h in
    let b = both_true _ _ a.1 in
    let c = both_true _ _ b.1 in
    let d = both_true _ _ c.1 in
    let e = both_true _ _ d.1 in
    record {
      segments = (leb-true _ _ a.0, leb-true _ _ b.0);
      docs = (leb-true _ _ c.0, leb-true _ _ d.0);
      terms = terms_are σ.terms e.0;
      words = leb-true _ _ e.1;
    }

yes : {P : Type 0} (b : Bool) → (b ≡ true → P) → (P → b ≡ true) → ((P → ⊥) → ⊥) → P
yes true from to h = from refl
yes false from to h = absurd (h (λ p. true≢false (sym (to p))))

segments_yes : (n : ℕ) → ((AreSegments n → ⊥) → ⊥) → AreSegments n
segments_yes n = yes (nat_le 1 n && nat_le n 64) (λ h. (leb-true _ _ (both_true _ _ h).0, leb-true _ _ (both_true _ _ h).1)) (λ p. rw (le-leb _ _ p.0, le-leb _ _ p.1) refl)

docs_yes : (n : ℕ) → ((AreDocs n → ⊥) → ⊥) → AreDocs n
docs_yes n = yes (nat_le 1 n && nat_le n (2 ^ 24)) (λ h. (leb-true _ _ (both_true _ _ h).0, leb-true _ _ (both_true _ _ h).1)) (λ p. rw (le-leb _ _ p.0, le-leb _ _ p.1) refl)

terms_yes : (n : ℕ) → ((AreTerms n → ⊥) → ⊥) → AreTerms n
terms_yes n = yes (are_terms n) (terms_are n) (terms_true n)

words_yes : (n : ℕ) → (2 ^ 27 < n → ⊥) → AreWords n
words_yes n h = yes (nat_le n (2 ^ 27)) (leb-true n (2 ^ 27)) (le-leb n (2 ^ 27)) (λ no_words. h (over n no_words))
  where
    over : (n : ℕ) → (n ≤ 2 ^ 27 → ⊥) → 2 ^ 27 < n
    over n f = elim (leb_tells n (2 ^ 27)) [
      | inl t ↦ absurd (f t.1)
      | inr t ↦ t.1
    ]

-- a setting of which nothing is refused
pub nothing_refused : (σ : Setting) → ((AreSegments σ.segments → ⊥) → ⊥) → (AreSegments σ.segments × (AreDocs σ.docs → ⊥) → ⊥) → (AreSegments σ.segments × AreDocs σ.docs × (AreTerms σ.terms → ⊥) → ⊥)
    → (AreSegments σ.segments × AreDocs σ.docs × AreTerms σ.terms × (2 ^ 27 < words_of σ) → ⊥) → is_setting σ ≡ true
nothing_refused σ a b c d =
    let segments = segments_yes σ.segments a in
    let docs = docs_yes σ.docs (λ h. b (segments, h)) in
    let terms = terms_yes σ.terms (λ h. c (segments, docs, h)) in
    setting_true σ (record { segments = segments; docs = docs; terms = terms; words = words_yes (words_of σ) (λ h. d (segments, docs, terms, h)) })

-- a setting of which something is refused
pub something_refused : (σ : Setting) (f : ConfigFault) → (f ≡ Segments → AreSegments σ.segments → ⊥) → (f ≡ Docs → AreSegments σ.segments × (AreDocs σ.docs → ⊥))
    → (f ≡ Terms → AreSegments σ.segments × AreDocs σ.docs × (AreTerms σ.terms → ⊥)) → (f ≡ Words
    → AreSegments σ.segments × AreDocs σ.docs × AreTerms σ.terms × (2 ^ 27 < words_of σ)) → is_setting σ ≡ false
something_refused σ f a b c d = go (is_setting σ) refl
  where
    never : (f : ConfigFault) → (f ≡ Segments → AreSegments σ.segments → ⊥) → (f ≡ Docs → AreSegments σ.segments × (AreDocs σ.docs → ⊥))
        → (f ≡ Terms → AreSegments σ.segments × AreDocs σ.docs × (AreTerms σ.terms → ⊥)) → (f ≡ Words
        → AreSegments σ.segments × AreDocs σ.docs × AreTerms σ.terms × (2 ^ 27 < words_of σ)) → IsSetting σ → ⊥
    never Segments a b c d s = a refl s.segments
    never Docs a b c d s = (b refl).1 s.docs
    never Terms a b c d s = (c refl).2 s.terms
    never Words a b c d s = let more = (d refl).3 in let most = s.words in omega arith

    go : (x : Bool) → is_setting σ ≡ x → is_setting σ ≡ false
    go false e = e
    go true e = absurd (never f a b c d (setting_is σ e))
