-- Lists of names.
use Rattle.std.proofs.Common.{◌≡◌, ℕ, suc, ◌<◌, nat_lt, eqb, ◌&&◌, not, Bool, true, false, IsTrue, List, [], ◌∷◌, ◌++◌, length, get_or}
use Rattle.std.proofs.Common.{Option, Some, None, option_map, is_some, Bor, cond, refl, sym, ap, ap₂, subst, ◌∙◌, arith}
use Rattle.std.proofs.Math.Bool.{and_assoc, and-true}
use Rattle.std.specs.List.{position_or_len, before_first, after_first, starts_with}
use Rattle.std.proofs.lemmas.Bool.Decides.{nat_tests}
use Rattle.std.proofs.lemmas.List.Splits.{slice_split_first, slice_split_none, length-slice_split}
use Rattle.std.proofs.lemmas.List.Sums.{fails_before_first}
use Rattle.std.proofs.lemmas.Bool.{and_parts, ltb-true, eqb-true}
use Rattle.eb_fields.specs.Fields.{is_comma, names_in, names_of, begun_name}

names_some : (words : List ℕ) → names_in words ≡ [] → ⊥
names_some words e = let n = length-slice_split is_comma words in let z = ap length e in omega arith

-- there are names exactly where there are words
pub are_none : (words : Option (Bor (List ℕ))) (b : Bool) → is_some words ≡ not b
    → (IsTrue b → names_of (option_map (λ w. w.now) words) ≡ []) × (names_of (option_map (λ w. w.now) words) ≡ [] → IsTrue b)
are_none None true e = (λ _. refl, λ _. refl)
are_none None false e = cc
are_none (Some w) true e = cc
are_none (Some w) false e = (λ h. cc, λ h. absurd (names_some w.now h))

pub names_first : (words name rest : List ℕ) → position_or_len is_comma words < length words → name ≡ before_first is_comma words → rest ≡ after_first is_comma words
    → names_in words ≡ name ∷ names_in rest
names_first words name rest h n r = slice_split_first is_comma words 0 h ∙ sym (ap₂ (λ a b. a ∷ names_in b) n r)

pub names_last : (words : List ℕ) → position_or_len is_comma words ≡ length words → names_in words ≡ words ∷ []
names_last words e = slice_split_none is_comma words (λ k d h. fails_before_first is_comma words k d (omega arith))

turned : (a b : ℕ) → eqb a b ≡ eqb b a
turned a b = grind (arith, nat_tests)

some : (n : ℕ) → nat_lt 0 (suc n) ≡ true
some n = grind (arith, nat_tests)

below : (m n : ℕ) → nat_lt (suc m) (suc n) ≡ nat_lt m n
below m n = grind (arith, nat_tests)

-- the text begins with the name and one more byte
starts_with_push : (text name : List ℕ) (c : ℕ)
    → starts_with eqb text (name ++ c ∷ []) ≡ (starts_with eqb text name && (nat_lt (length name) (length text) && eqb (get_or text (length name) 0) c))
starts_with_push [] [] c = refl
starts_with_push (b ∷ bs) [] c = and-true (eqb c b) ∙ turned c b ∙ ap (λ z. z && eqb b c) (sym (some (length bs)))
starts_with_push [] (x ∷ xs) c = refl
starts_with_push (b ∷ bs) (x ∷ xs) c =
    ap (λ z. eqb x b && z) (starts_with_push bs xs c)
    ∙ sym (and_assoc (eqb x b) (starts_with eqb bs xs) _)
    ∙ ap (λ z. (eqb x b && starts_with eqb bs xs) && (z && eqb (get_or bs (length xs) 0) c)) (sym (below (length xs) (length bs)))

pub colon_after : (r : Bool) (text name : List ℕ) → r ≡ starts_with eqb text name
    → (r && (nat_lt (length name) (length text) && eqb (get_or text (length name) 0) 58)) ≡ starts_with eqb text (name ++ 58 ∷ [])
colon_after r text name e = ap (λ z. z && (nat_lt (length name) (length text) && eqb (get_or text (length name) 0) 58)) e ∙ sym (starts_with_push text name 58)

-- after the name that a text begins with, there is a colon
pub begun_colon : (names : List (List ℕ)) (text name : List ℕ) → begun_name names text ≡ Some name → (length name < length text) × (get_or text (length name) 0 ≡ 58)
begun_colon [] text name e = cc
begun_colon (n ∷ ns) text name e = go (starts_with eqb text (n ++ 58 ∷ [])) refl e (begun_colon ns text name)
  where
    here : starts_with eqb text (n ++ 58 ∷ []) ≡ true → (length n < length text) × (get_or text (length n) 0 ≡ 58)
    here h =
        let p = and_parts (starts_with eqb text n) _ (sym (starts_with_push text n 58) ∙ h) in
        let q = and_parts (nat_lt (length n) (length text)) (eqb (get_or text (length n) 0) 58) p.1 in (ltb-true _ _ q.0, eqb-true _ _ q.1)

    go : (b : Bool) → starts_with eqb text (n ++ 58 ∷ []) ≡ b → cond b (Some n) (begun_name ns text) ≡ Some name
        → (begun_name ns text ≡ Some name → (length name < length text) × (get_or text (length name) 0 ≡ 58)) → (length name < length text) × (get_or text (length name) 0 ≡ 58)
    go true h k more = let s : n ≡ name = cc in subst (λ (m : List ℕ). (length m < length text) × (get_or text (length m) 0 ≡ 58)) s (here h)
    go false h k more = more k
