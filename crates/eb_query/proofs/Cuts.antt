-- Where lexemes begin and end in a line.
use Rattle.eb_fields.specs.Dialect.{Dialect, plain}
use Rattle.std.proofs.Common.{◌≡◌, ℕ, zero, suc, ◌+◌, ◌-◌, ◌<◌, ◌≤◌, nat_lt, eqb, ◌||◌, Bool, true, false, not, List, [], ◌∷◌, length, take}
use Rattle.std.proofs.Common.{drop, get_or, Option, Some, refl, sym, ap, ◌∙◌, arith, subst, inl, inr, ◌⊎◌, ne_eqb, lt-ltb, le-ltb, ltb-false, drop-cons, length-drop}
use Rattle.std.proofs.lemmas.Bool.{ltb-true, eqb-true, or_cases}
use Rattle.std.proofs.lemmas.List.{get_or-drop, drop_all, drop-drop, take_all}
use Rattle.std.proofs.lemmas.List.Sums.{passes_at_first, prefix_len-le-length}
use Rattle.std.proofs.lemmas.Str.{IsCharBoundary-before_ascii, IsCharBoundary-after_ascii}
use Rattle.std.specs.List.{position_or_len}
use Rattle.std.specs.Str.{IsUtf8, IsCharBoundary}
use Rattle.eb_fields.specs.Digits.{is_no_digit}
use Rattle.eb_query.specs.Grammar.{Lexeme, opening, closing, minus, leaf, broken}
use Rattle.eb_query.specs.Lexemes.{Placed, is_blank, ends_run, is_quote, run_lexeme, is_run_end, has_tilde, quoted_lexeme, tilde_len, text_lexeme, window_lexeme, quoted, bare}
use Rattle.eb_query.specs.Lexemes.{first, first_with, lexemes}
use Rattle.eb_base.specs.Query.{Tree}
use Rattle.eb_query.specs.declared.ask.Ask.{Ask}
use Rattle.eb_query.specs.Machine.{State, state, level, start, step, is_deep, finish, ending, sized, outcome}

pub first_opening : (how : Dialect) (b : ℕ) (bs : List ℕ) → b ≡ 40 → first how b bs ≡ (opening, 0)
unfolding first
first_opening how b bs e = rw e refl

pub first_closing : (how : Dialect) (b : ℕ) (bs : List ℕ) → b ≡ 41 → first how b bs ≡ (closing, 0)
unfolding first
first_closing how b bs e = rw e refl

pub first_minus : (how : Dialect) (b : ℕ) (bs : List ℕ) → b ≡ 45 → first how b bs ≡ (minus, 0)
unfolding first
first_minus how b bs e = rw e refl

pub first_quoted : (how : Dialect) (b : ℕ) (bs : List ℕ) → b ≡ 34 → first how b bs ≡ quoted how bs
unfolding first
first_quoted how b bs e = rw e refl

pub first_bare : (how : Dialect) (b : ℕ) (bs : List ℕ) → (b ≡ 40 → ⊥) → (b ≡ 41 → ⊥) → (b ≡ 45 → ⊥) → (b ≡ 34 → ⊥) → first how b bs ≡ bare how b bs
unfolding first
first_bare how b bs h i j k = rw (ne_eqb b 40 h, ne_eqb b 41 i, ne_eqb b 45 j, ne_eqb b 34 k) refl

pub first_none : (b : ℕ) (bs : List ℕ) → first_with plain b bs ≡ first plain b bs
unfolding first_with
first_none b bs = refl

pub quoted_none : (how : Dialect) (bs : List ℕ) (n : ℕ) → n ≡ position_or_len is_quote bs → n ≡ length bs → quoted how bs ≡ (broken, length bs)
unfolding quoted
quoted_none how bs n e h = rw (le-ltb (position_or_len is_quote bs) (length bs) (omega arith)) refl

pub quoted_some : (how : Dialect) (bs : List ℕ) (n : ℕ) → n ≡ position_or_len is_quote bs → n < length bs
    → quoted how bs ≡ (quoted_lexeme how (take n bs) (drop (n + 1) bs), n + 1 + tilde_len (drop (n + 1) bs))
unfolding quoted
quoted_some how bs n e h = rw (← e) (rw (lt-ltb n (length bs) h) refl)

pub bare_is : (how : Dialect) (b : ℕ) (bs : List ℕ) (n : ℕ) → n ≡ position_or_len ends_run bs → bare how b bs ≡ (run_lexeme how (b ∷ take n bs), n)
unfolding bare
bare_is how b bs n e = rw (← e) refl

pub blank_small : (b : ℕ) → is_blank b ≡ true → b < 128
blank_small b k = elim (or_cases _ _ k) [ inl e ↦ (let i = eqb-true b 32 e in omega arith) | inr e ↦ (let i = eqb-true b 9 e in omega arith) ]

pub is_quote_small : (b : ℕ) → is_quote b ≡ true → b < 128
is_quote_small b h = let e = eqb-true b 34 h in omega arith

-- what ends a run is one of five bytes
pub ends_run_by : (P : ℕ → Type 0) (b : ℕ) → ends_run b ≡ true → P 32 → P 9 → P 40 → P 41 → P 34 → P b
ends_run_by P b h space tab left right mark = four (or_cases _ _ h)
  where
    one : (is_blank b ≡ true) → P b
    one k = elim (or_cases _ _ k) [ inl e ↦ subst P (sym (eqb-true b 32 e)) space | inr e ↦ subst P (sym (eqb-true b 9 e)) tab ]

    two : ((is_blank b || eqb b 40) ≡ true) → P b
    two k = elim (or_cases _ _ k) [ inl e ↦ one e | inr e ↦ subst P (sym (eqb-true b 40 e)) left ]

    three : ((is_blank b || eqb b 40 || eqb b 41) ≡ true) → P b
    three k = elim (or_cases _ _ k) [ inl e ↦ two e | inr e ↦ subst P (sym (eqb-true b 41 e)) right ]

    four : ((is_blank b || eqb b 40 || eqb b 41) ≡ true) ⊎ (eqb b 34 ≡ true) → P b
    four (inl e) = three e
    four (inr e) = subst P (sym (eqb-true b 34 e)) mark

pub ends_run_small : (b : ℕ) → ends_run b ≡ true → b < 128
ends_run_small b h = ends_run_by (λ n. n < 128) b h (omega arith) (omega arith) (omega arith) (omega arith) (omega arith)

-- where a run ends, there is no tilde
pub end_no_tilde : (bs : List ℕ) → is_run_end bs ≡ true → has_tilde bs ≡ false
end_no_tilde [] h = refl
end_no_tilde (b ∷ bs) h = ends_run_by (λ n. eqb n 126 ≡ false) b h refl refl refl refl refl

pub quoted_text : (how : Dialect) (text bs : List ℕ) → has_tilde bs ≡ false → quoted_lexeme how text bs ≡ text_lexeme how text
unfolding quoted_lexeme
quoted_text how text bs h = rw h refl

pub quoted_window : (how : Dialect) (text bs : List ℕ) → has_tilde bs ≡ true → quoted_lexeme how text bs ≡ window_lexeme how text (drop 1 bs)
unfolding quoted_lexeme
quoted_window how text bs h = rw h refl

pub no_tilde_len : (bs : List ℕ) → has_tilde bs ≡ false → tilde_len bs ≡ 0
unfolding tilde_len
no_tilde_len bs h = rw h refl

pub tilde_digits : (bs : List ℕ) → has_tilde bs ≡ true → tilde_len bs ≡ 1 + position_or_len is_no_digit (drop 1 bs)
unfolding tilde_len
tilde_digits bs h = rw h refl

-- the place that a test found after at + 1
pub cut_within : (p : ℕ → Bool) (line : List ℕ) (at n : ℕ) → at < length line → n ≡ position_or_len p (drop (at + 1) line) → at + 1 + n ≤ length line
cut_within p line at n h e =
    let l : position_or_len p (drop (at + 1) line) ≤ length (drop (at + 1) line) = prefix_len-le-length (λ b. not (p b)) (drop (at + 1) line) in
    omega (arith, length-drop (at + 1) line)

pub cut_before : (p : ℕ → Bool) (line : List ℕ) (at n : ℕ) → ((b : ℕ) → p b ≡ true → b < 128) → at < length line → n ≡ position_or_len p (drop (at + 1) line) → IsCharBoundary line (at + 1 + n)
cut_before p line at n small h e = go (nat_lt (at + 1 + n) (length line)) refl
  where
    within : at + 1 + n ≤ length line
    within = cut_within p line at n h e

    ascii : (at + 1 + n < length line) → get_or line (at + 1 + n) 0 < 128
    ascii l =
        let k : position_or_len p (drop (at + 1) line) < length (drop (at + 1) line) = omega (arith, length-drop (at + 1) line) in
        let t = passes_at_first p (drop (at + 1) line) 0 k in
        let s : get_or (drop (at + 1) line) n 0 < 128 = rw e (small _ t) in
        rw get_or-drop at s

    go : (b : Bool) → nat_lt (at + 1 + n) (length line) ≡ b → IsCharBoundary line (at + 1 + n)
    go true t = IsCharBoundary-before_ascii line (at + 1 + n) (ltb-true _ _ t) (ascii (ltb-true _ _ t))
    go false f = let k = ltb-false _ _ f in (within, λ l. absurd (omega arith))

-- after the closing quotation mark
pub quote_boundary : (line : List ℕ) (at n : ℕ) → IsUtf8 line → at < length line
    → n ≡ position_or_len is_quote (drop (at + 1) line) → n < length (drop (at + 1) line) → IsCharBoundary line (at + 1 + n + 1)
quote_boundary line at n u h e k =
    let t : is_quote (get_or (drop (at + 1) line) n 0) ≡ true = rw e (passes_at_first is_quote (drop (at + 1) line) 0 (omega arith)) in
    let s : get_or (drop (at + 1) line) n 0 < 128 = is_quote_small _ t in
    let s2 : get_or line (at + 1 + n) 0 < 128 = rw get_or-drop at s in
    IsCharBoundary-after_ascii line (at + 1 + n) u (omega (arith, length-drop (at + 1) line)) s2

pub skip : (how : Dialect) (k c : ℕ) (bs : List ℕ) → lexemes how k c bs ≡ lexemes how 0 (c + k) (drop k bs)
unfolding lexemes
skip how zero c bs = let e : c ≡ c + 0 = omega arith in ap (λ (d : ℕ). lexemes how 0 d bs) e
skip how (suc k) c [] = refl
skip how (suc k) c (b ∷ bs) = let e : suc c + k ≡ c + suc k = omega arith in skip how k (suc c) bs ∙ ap (λ (d : ℕ). lexemes how 0 d (drop k bs)) e

pub at_blank : (how : Dialect) (c b : ℕ) (bs : List ℕ) → is_blank b ≡ true → lexemes how 0 c (b ∷ bs) ≡ lexemes how 0 (suc c) bs
unfolding lexemes
at_blank how c b bs e = rw e refl

pub at_lexeme : (how : Dialect) (c b : ℕ) (bs : List ℕ) → is_blank b ≡ false
    → lexemes how 0 c (b ∷ bs) ≡ record { column = c; lexeme = (first_with how b bs).0 } ∷ lexemes how (first_with how b bs).1 (suc c) bs
unfolding lexemes
at_lexeme how c b bs e = rw e refl

pub placed_at : (line : List ℕ) (at : ℕ) → at < length line → drop at line ≡ get_or line at 0 ∷ drop (at + 1) line
placed_at line at h = let e : suc at ≡ at + 1 = omega arith in drop-cons line at 0 h ∙ ap (λ (k : ℕ). get_or line at 0 ∷ drop k line) e

pub lexemes_blank : (how : Dialect) (line : List ℕ) (at : ℕ) → at < length line → is_blank (get_or line at 0) ≡ true
    → lexemes how 0 (at + 1) (drop at line) ≡ lexemes how 0 (at + 1 + 1) (drop (at + 1) line)
lexemes_blank how line at h b =
    let e : suc (at + 1) ≡ at + 1 + 1 = omega arith in
    ap (lexemes how 0 (at + 1)) (placed_at line at h) ∙ at_blank how (at + 1) (get_or line at 0) (drop (at + 1) line) b
    ∙ ap (λ (c : ℕ). lexemes how 0 c (drop (at + 1) line)) e

pub lexemes_next : (how : Dialect) (line : List ℕ) (at end : ℕ) → at < length line → is_blank (get_or line at 0) ≡ false
    → end ≡ at + 1 + (first_with how (get_or line at 0) (drop (at + 1) line)).1
    → lexemes how 0 (at + 1) (drop at line) ≡ record { column = at + 1; lexeme = (first_with how (get_or line at 0) (drop (at + 1) line)).0 } ∷ lexemes how 0 (end + 1) (drop end line)
lexemes_next how line at end h b e =
    let b0 = get_or line at 0 in
    let bs = drop (at + 1) line in
    let k = (first_with how b0 bs).1 in
    let f : suc (at + 1) + k ≡ end + 1 = omega (arith, e) in
    ap (lexemes how 0 (at + 1)) (placed_at line at h) ∙ at_lexeme how (at + 1) b0 bs b
    ∙ ap (λ (ps : List Placed). record { column = at + 1; lexeme = (first_with how b0 bs).0 } ∷ ps)
    (skip how k (suc (at + 1)) bs ∙ ap (lexemes how 0 (suc (at + 1) + k)) (drop-drop k (at + 1) line ∙ ap (λ (d : ℕ). drop d line) (sym e))
    ∙ ap (λ (c : ℕ). lexemes how 0 c (drop end line)) f)

pub lexemes_end : (how : Dialect) (line : List ℕ) (at : ℕ) → length line ≤ at → lexemes how 0 (at + 1) (drop at line) ≡ []
unfolding lexemes
lexemes_end how line at h = ap (lexemes how 0 (at + 1)) (drop_all at line h)

-- the lexeme that begins at a place, and those after it
pub lexemes_at : (how : Dialect) (line : List ℕ) (at end : ℕ) (l : Lexeme) → at < length line → is_blank (get_or line at 0) ≡ false
    → l ≡ (first_with how (get_or line at 0) (drop (at + 1) line)).0 → end ≡ at + 1 + (first_with how (get_or line at 0) (drop (at + 1) line)).1
    → lexemes how 0 (at + 1) (drop at line) ≡ record { column = at + 1; lexeme = l } ∷ lexemes how 0 (end + 1) (drop end line)
lexemes_at how line at end l h b i e = lexemes_next how line at end h b e
    ∙ ap (λ (x : Lexeme). record { column = at + 1; lexeme = x } ∷ lexemes how 0 (end + 1) (drop end line)) (sym i)

-- what a step of the reader says of the outcome
pub stood : (a : Ask) (line : List ℕ) (p : Placed) (ps : List Placed) (s t : State) → step p.lexeme s ≡ Some t → is_deep p.lexeme s ≡ false
    → outcome line a (p ∷ ps) s ≡ outcome line a ps t
stood a line p ps s t e f = rw (e, f) refl

-- what a range of the line reads
pub rest_is : (line : List ℕ) (k : ℕ) → take (length line - k) (drop k line) ≡ drop k line
rest_is line k = take_all (length line - k) (drop k line) (omega (arith, length-drop k line))

pub found_len : (p : ℕ → Bool) (bytes line : List ℕ) (at n : ℕ) → bytes ≡ line
    → n ≡ position_or_len p (take (length bytes - (at + 1)) (drop (at + 1) bytes)) → n ≡ position_or_len p (drop (at + 1) line)
found_len p bytes line at n e h = h ∙ ap (λ (xs : List ℕ). position_or_len p (take (length xs - (at + 1)) (drop (at + 1) xs))) e ∙ ap (position_or_len p) (rest_is line (at + 1))

pub quoted_part : (line part : List ℕ) (at n : ℕ) → part ≡ take (at + 1 + n - (at + 1)) (drop (at + 1) line) → part ≡ take n (drop (at + 1) line)
quoted_part line part at n h = let e : at + 1 + n - (at + 1) ≡ n = omega arith in h ∙ ap (λ (k : ℕ). take k (drop (at + 1) line)) e

pub bare_part : (line part : List ℕ) (at n : ℕ) → at < length line → part ≡ take (at + 1 + n - at) (drop at line) → part ≡ get_or line at 0 ∷ take n (drop (at + 1) line)
bare_part line part at n l h =
    let e : at + 1 + n - at ≡ suc n = omega arith in
    h ∙ ap (λ (k : ℕ). take k (drop at line)) e ∙ ap (take (suc n)) (placed_at line at l)

pub at_end : (a : Ask) (how : Dialect) (line : List ℕ) (at : ℕ) (s : State) (o : Option Tree) →
    length line ≤ at → finish s ≡ o → outcome line a (lexemes how 0 (at + 1) (drop at line)) s ≡ ending line a o
at_end a how line at s o h e = ap (λ (ps : List Placed). outcome line a ps s) (lexemes_end how line at h) ∙ ap (ending line a) e

-- the outcome of a leaf that ends where the line ends
pub leaf_alone : (a : Ask) (how : Dialect) (line : List ℕ) (at end : ℕ) (t : Tree) → at < length line → is_blank (get_or line at 0) ≡ false
    → leaf t ≡ (first_with how (get_or line at 0) (drop (at + 1) line)).0 → end ≡ at + 1 + (first_with how (get_or line at 0) (drop (at + 1) line)).1
    → length line ≤ end → outcome line a (lexemes how 0 (at + 1) (drop at line)) start ≡ sized a t
leaf_alone a how line at end t h b i e k = ap (λ (ps : List Placed). outcome line a ps start) (lexemes_at how line at end (leaf t) h b i e)
    ∙ at_end a how line end (state (level [] (t ∷ []) 0) []) (Some t) k refl

pub nothing_left : (how : Dialect) (d : ℕ) → lexemes how 0 d [] ≡ []
unfolding lexemes
nothing_left how d = refl
