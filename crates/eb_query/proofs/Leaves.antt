-- Where window texts end, and what window texts and bounds write.
use Rattle.eb_fields.specs.Dialect.{Dialect}
use Rattle.std.proofs.Common.{◌≡◌, ℕ, zero, suc, ◌+◌, ◌-◌, ◌<◌, ◌≤◌, nat_lt, Bool, true, false, true≢false, List, length, take, drop}
use Rattle.std.proofs.Common.{get_or, Option, option_and_then, refl, sym, ap, ◌∙◌, arith, subst, ltb-false, length-drop}
use Rattle.std.proofs.lemmas.Bool.{ltb-true, eqb-true}
use Rattle.std.proofs.lemmas.List.{get_or-drop, drop_all, drop-drop}
use Rattle.std.proofs.lemmas.List.Sums.{fails_before_first}
use Rattle.std.proofs.lemmas.Str.{IsCharBoundary-after_ascii}
use Rattle.std.specs.List.{position_or_len}
use Rattle.std.specs.Str.{IsUtf8, IsCharBoundary}
use Rattle.eb_base.specs.Query.{window_of}
use Rattle.eb_text.specs.Pieces.{tokens_by}
use Rattle.eb_fields.specs.Digits.{is_no_digit}
use Rattle.eb_query.specs.Grammar.{Lexeme}
use Rattle.eb_query.specs.Lexemes.{is_quote, of_leaf, reach_by, reach_of, window_lexeme, has_tilde, quoted_lexeme, tilde_len, quoted}
use Rattle.eb_query.proofs.Cuts.{rest_is, placed_at, quoted_some, quoted_part, quoted_window, tilde_digits}
use Rattle.eb_fields.proofs.Found.{found_within}
use Rattle.eb_fields.proofs.Decimals.{in_range}

-- what a range of the line's bytes reads, up to their end
pub bytes_rest : (bytes line : List ℕ) (from : ℕ) → bytes ≡ line → take (length bytes - from) (drop from bytes) ≡ drop from line
bytes_rest bytes line from e = ap (λ (xs : List ℕ). take (length xs - from) (drop from xs)) e ∙ rest_is line from

-- the window text whose digits begin at a place
pub window_is : (how : Dialect) (text bytes line : List ℕ) (from n : ℕ) (r : Option ℕ) → bytes ≡ line → n ≡ position_or_len is_no_digit (take (length bytes - from) (drop from bytes))
    → r ≡ reach_by n (take (length bytes - from) (drop from bytes)) → of_leaf (option_and_then (window_of (tokens_by how.cut text)) r) ≡ window_lexeme how text (drop from line)
unfolding window_lexeme reach_of
window_is how text bytes line from n r e digits reach =
    let whole = bytes_rest bytes line from e in
    let count : n ≡ position_or_len is_no_digit (drop from line) = digits ∙ ap (position_or_len is_no_digit) whole in
    ap (λ (o : Option ℕ). of_leaf (option_and_then (window_of (tokens_by how.cut text)) o)) (reach ∙ ap (reach_by n) whole ∙ ap (λ (k : ℕ). reach_by k (drop from line)) count)

-- after digits
pub digits_boundary : (line : List ℕ) (from n : ℕ) → IsUtf8 line → IsCharBoundary line from → from ≤ length line → n ≡ position_or_len is_no_digit (drop from line) → IsCharBoundary line (from + n)
digits_boundary line from zero u b w e = let same : from ≡ from + 0 = omega arith in subst (λ (k : ℕ). IsCharBoundary line k) same b
digits_boundary line from (suc m) u b w e =
    let inside : suc m ≤ length (drop from line) = found_within is_no_digit (drop from line) (suc m) e in
    let own_digit : is_no_digit (get_or (drop from line) m 0) ≡ false = fails_before_first is_no_digit (drop from line) m 0 (omega (arith, e)) in
    let small : get_or (drop from line) m 0 < 128 = (let high : get_or (drop from line) m 0 ≤ 57 = (in_range (get_or (drop from line) m 0) own_digit).1 in omega arith) in
    let s : get_or line (from + m) 0 < 128 = rw get_or-drop at small in
    let same : from + m + 1 ≡ from + suc m = omega arith in
    subst (λ (k : ℕ). IsCharBoundary line k) same (IsCharBoundary-after_ascii line (from + m) u (omega (arith, length-drop from line)) s)

-- where there is a tilde
pub tilde_at : (line : List ℕ) (k : ℕ) → k ≤ length line → has_tilde (drop k line) ≡ true → (k < length line) × (get_or line k 0 < 128)
tilde_at line k w h = go (nat_lt k (length line)) refl
  where
    go : (b : Bool) → nat_lt k (length line) ≡ b → (k < length line) × (get_or line k 0 < 128)
    go true e =
        let less = ltb-true _ _ e in
        let is : get_or line k 0 ≡ 126 = eqb-true _ _ (sym (ap has_tilde (placed_at line k less)) ∙ h) in
        (less, omega arith)
    go false e = let more = ltb-false _ _ e in absurd (true≢false (sym h ∙ ap has_tilde (drop_all k line more)))

pub tilde_boundary : (line : List ℕ) (k : ℕ) → IsUtf8 line → k ≤ length line → has_tilde (drop k line) ≡ true → IsCharBoundary line (k + 1)
tilde_boundary line k u w h = let t = tilde_at line k w h in IsCharBoundary-after_ascii line k u t.0 t.1

pub closed_window : (how : Dialect) (text line : List ℕ) (k : ℕ) → has_tilde (drop k line) ≡ true → quoted_lexeme how text (drop k line) ≡ window_lexeme how text (drop (k + 1) line)
closed_window how text line k h = quoted_window how text (drop k line) h ∙ ap (window_lexeme how text) (drop-drop 1 k line)

pub closed_end : (line : List ℕ) (k : ℕ) → has_tilde (drop k line) ≡ true → k + tilde_len (drop k line) ≡ k + 1 + position_or_len is_no_digit (drop (k + 1) line)
closed_end line k h =
    let e : tilde_len (drop k line) ≡ 1 + position_or_len is_no_digit (drop (k + 1) line) =
    tilde_digits (drop k line) h ∙ ap (λ (xs : List ℕ). 1 + position_or_len is_no_digit xs) (drop-drop 1 k line) in
    omega (arith, e)

-- the quoted text after a first quotation mark at a place
pub quoted_is : (how : Dialect) (line part : List ℕ) (at n : ℕ) → n ≡ position_or_len is_quote (drop (at + 1) line) → n < length (drop (at + 1) line)
    → part ≡ take (at + 1 + n - (at + 1)) (drop (at + 1) line)
    → quoted how (drop (at + 1) line) ≡ (quoted_lexeme how part (drop (at + 1 + n + 1) line), n + 1 + tilde_len (drop (at + 1 + n + 1) line))
quoted_is how line part at n e less is =
    let bs = drop (at + 1) line in
    let k : at + 1 + (n + 1) ≡ at + 1 + n + 1 = omega arith in
    quoted_some how bs n e less ∙ ap (λ (xs : List ℕ). (quoted_lexeme how xs (drop (n + 1) bs), n + 1 + tilde_len (drop (n + 1) bs))) (sym (quoted_part line part at n is))
    ∙ ap (λ (xs : List ℕ). (quoted_lexeme how part xs, n + 1 + tilde_len xs)) (drop-drop (n + 1) (at + 1) line ∙ ap (λ (j : ℕ). drop j line) k)

pub quoted_end : (how : Dialect) (line : List ℕ) (at n : ℕ) (l : Lexeme) → quoted how (drop (at + 1) line) ≡ (l, n + 1 + tilde_len (drop (at + 1 + n + 1) line))
    → at + 1 + (quoted how (drop (at + 1) line)).1 ≡ at + 1 + n + 1 + tilde_len (drop (at + 1 + n + 1) line)
quoted_end how line at n l e = let k = ap (λ (p : Lexeme × ℕ). p.1) e in omega (arith, k)
