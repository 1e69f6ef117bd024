-- Terms of fields differ from tokens and from one another.
use Rattle.std.proofs.Common.{◌≡◌, ℕ, zero, suc, List, [], ◌∷◌, ◌++◌, ap₂, suc-le-suc, zero-le}
use Rattle.eb_text.specs.Tokens.{folded}
use Rattle.eb_fields.specs.Laws.{HasNoColon, NamesApart}

first_no_colon : (x : ℕ) (xs : List ℕ) → HasNoColon (x ∷ xs) → x ≡ 58 → ⊥
first_no_colon x xs all e = all zero 0 (suc-le-suc zero-le) e

rest_no_colon : (x : ℕ) (xs : List ℕ) → HasNoColon (x ∷ xs) → HasNoColon xs
rest_no_colon x xs all = λ k d lt. all (suc k) d (suc-le-suc lt)

same_parts : (n m a b : List ℕ) → HasNoColon n → HasNoColon m → n ++ 58 ∷ a ≡ m ++ 58 ∷ b → (n ≡ m) × (a ≡ b)
same_parts [] [] a b h k e = (cc, cc)
same_parts [] (y ∷ ys) a b h k e = let f : y ≡ 58 = cc in absurd (first_no_colon y ys k f)
same_parts (x ∷ xs) [] a b h k e = let f : x ≡ 58 = cc in absurd (first_no_colon x xs h f)
same_parts (x ∷ xs) (y ∷ ys) a b h k e =
    let f : x ≡ y = cc in let t : xs ++ 58 ∷ a ≡ ys ++ 58 ∷ b = cc in
    let p = same_parts xs ys a b (rest_no_colon x xs h) (rest_no_colon y ys k) t in (ap₂ ◌∷◌ f p.0, p.1)

pub names_are_apart : NamesApart
names_are_apart name other value more h k e =
    let t : name ++ 58 ∷ folded value ≡ other ++ 58 ∷ folded more = cc in
    same_parts name other (folded value) (folded more) h k t
