-- The lines of a made input.
use Rattle.std.proofs.Common.{◌≡◌, ℕ, zero, suc, ◌+◌, ◌-◌, ◌*◌, ◌<◌, ◌≤◌, ◌^◌, ◌%◌, ◌⊎◌, ◌==◌, ◌&&◌, ◌||◌, Bool, true, false, List, [], ◌∷◌}
use Rattle.std.proofs.Common.{◌++◌, length, refl, sym, ap, ap₂, ◌∙◌, arith, append_assoc, append-nil, length-append, inl, inr}
use Rattle.std.specs.Prelude.{codes, nat_le, nat_lt, slice_index}
use Rattle.std.specs.List.{list_all}
use Rattle.std.specs.Fmt.{decimal}
use Rattle.std.specs.Str.Parse.{AllDigits}
use Rattle.std.specs.Io.BufRead.{ends_with_byte}
use Rattle.std.proofs.lemmas.Bool.{cases_Bool}
use Rattle.std.proofs.lemmas.List.Sums.{AllPass-from_list_all}
use Rattle.std.proofs.lemmas.List.Folds.{list_all-append}
use Rattle.std.proofs.lemmas.Fmt.{decimal_is_IsNumeral, length-decimal-le}
use Rattle.std.proofs.lemmas.Str.Parse.{digit_from_value}
use Rattle.eb_gen.specs.Made.{word_number, word_text, words_to, made_line, made_query, has_query, made_from, made}
use Rattle.eb_io.specs.Lines.{Line, line, line_from, lines_of, are_too_many, without_cr, IsUncut}
use Rattle.eb_io.proofs.Pieces.{lines_of-cut}
use Rattle.eb_run.specs.Bench.{query_lines, lines_until}

-- ---- texts of printed characters

abbrev is_printed : ℕ → Bool
is_printed b = nat_le 32 b

-- at most n printed characters
record Plain (xs : List ℕ) (most : ℕ) : Type 0 where
  pub printed : list_all is_printed xs ≡ true
  pub short : length xs ≤ most

plain_append : (xs ys : List ℕ) (m n : ℕ) → Plain xs m → Plain ys n → Plain (xs ++ ys) (m + n)
plain_append xs ys m n p q = record {
  printed = list_all-append is_printed xs ys ∙ ap₂ (λ a b. a && b) p.printed q.printed;
  short = omega (arith, length-append xs ys, p.short, q.short);
}

digits_printed : (ds : List ℕ) → AllDigits 10 ds → list_all is_printed ds ≡ true
digits_printed [] d = refl
digits_printed (c ∷ cs) d =
    let one : is_printed c ≡ true = grind (arith, digit_from_value c d.0) in
    ap₂ (λ a b. a && b) one (digits_printed cs d.1)

plain_decimal : (n : ℕ) → n < 2 ^ 64 → Plain (decimal n) 20
plain_decimal n h = record {
  printed = digits_printed (decimal n) (decimal_is_IsNumeral n h).0.1;
  short = length-decimal-le 20 n (omega arith) (omega (arith, h)) h;
}

word_small : (start document at : ℕ) → word_number start document at < 2 ^ 64
word_small start document at = omega arith

plain_word : (start document at : ℕ) → Plain (word_text start document at) 21
plain_word start document at = plain_append (codes "w") (decimal (word_number start document at)) 1 20 (record { printed = refl; short = omega arith }) (plain_decimal _ (word_small start document at))

plain_words : (start document at : ℕ) → Plain (words_to start document at) (22 * (at + 1))
plain_words start document zero = let p = plain_word start document 0 in record { printed = p.printed; short = omega (arith, p.short) }
plain_words start document (suc at) =
    let spaced = plain_append (words_to start document at) (codes " ") (22 * (at + 1)) 1 (plain_words start document at) (record { printed = refl; short = omega arith }) in
    let p = plain_append (words_to start document at ++ codes " ") (word_text start document (suc at)) (22 * (at + 1) + 1) 21 spaced (plain_word start document (suc at)) in
    record { printed = p.printed; short = omega (arith, p.short) }

plain_line : (start document : ℕ) → document < 2 ^ 64 → Plain (made_line start document) 300
plain_line start document h =
    let words = words_to start document 7 in
    let a = codes "{\"id\":" ++ decimal document in
    let b = a ++ codes ",\"text\":\"" in
    let p = plain_append (codes "{\"id\":") (decimal document) 6 20 (record { printed = refl; short = omega arith }) (plain_decimal document h) in
    let q = plain_append a (codes ",\"text\":\"") 26 9 p (record { printed = refl; short = omega arith }) in
    let r = plain_append b words 35 176 q (plain_words start document 7) in
    let all = plain_append (b ++ words) (codes "\"}") 211 2 r (record { printed = refl; short = omega arith }) in
    record { printed = all.printed; short = omega (arith, all.short) }

plain_query : (start document : ℕ) → Plain (made_query start document) 300
plain_query start document =
    let all = plain_append (codes "?10 ") (words_to start document 1) 4 44 (record { printed = refl; short = omega arith }) (plain_words start document 1) in
    record { printed = all.printed; short = omega (arith, all.short) }

-- ---- such a text is a line as it is

uncut : (xs : List ℕ) → list_all is_printed xs ≡ true → IsUncut xs
uncut xs h = λ k d low. let p = AllPass-from_list_all is_printed xs h k d low in grind (arith, p)

no_cr_at : (xs : List ℕ) (i : ℕ) → list_all is_printed xs ≡ true → i < length xs → (slice_index xs i == 13) ≡ false
no_cr_at xs i h low = let p = AllPass-from_list_all is_printed xs h i 0 low in grind (arith, p)

and_false : (b : Bool) → (b && false) ≡ false
and_false true = refl
and_false false = refl

no_cr : (xs : List ℕ) → list_all is_printed xs ≡ true → ends_with_byte 13 xs ≡ false
no_cr [] h = refl
no_cr (x ∷ xs) h =
    let last : length (x ∷ xs) - 1 ≡ length xs = omega arith in
    let other : (slice_index (x ∷ xs) (length (x ∷ xs) - 1) == 13) ≡ false = ap (λ i. slice_index (x ∷ xs) i == 13) last ∙ no_cr_at (x ∷ xs) (length xs) h (omega arith) in
    ap (λ b. nat_lt 0 (length (x ∷ xs)) && b) other ∙ and_false (nat_lt 0 (length (x ∷ xs)))

kept : (xs : List ℕ) → list_all is_printed xs ≡ true → without_cr xs ≡ xs
kept xs h = rw (no_cr xs h) refl

own_line : (xs : List ℕ) → Plain xs 300 → line_from xs ≡ line xs
own_line xs p =
    let few : are_too_many xs ≡ false = grind (arith, p.short) in
    rw few (ap line (kept xs p.printed))

line_cut : (xs rest : List ℕ) → Plain xs 300 → lines_of (xs ++ 10 ∷ rest) ≡ line xs ∷ lines_of rest
line_cut xs rest p = lines_of-cut xs rest (uncut xs p.printed) ∙ ap (λ l. l ∷ lines_of rest) (own_line xs p)

-- ---- the lines of all documents

abbrev lines_from : ℕ → ℕ → ℕ → ℕ → List Line
lines_from start count n zero = []
lines_from start count n (suc more) = line (made_line start n) ∷ query_lines start count n ++ lines_from start count (n + 1) more

query_cut : (start count n : ℕ) (rest : List ℕ) → lines_of (has_query n count (made_query start n ++ 10 ∷ []) ++ rest) ≡ query_lines start count n ++ lines_of rest
query_cut start count n rest = elim (cases_Bool (((n + 1) % 1000 == 0) || (n + 1 == count))) [
  | inl yes_is ↦ rw yes_is (ap lines_of (append_assoc (made_query start n) (10 ∷ []) rest) ∙ line_cut (made_query start n) rest (plain_query start n))
  | inr no_is ↦ rw no_is refl
]

cut_from : (start count n more : ℕ) → n + more < 2 ^ 64 → lines_of (made_from start count n more) ≡ lines_from start count n more
cut_from start count n zero h = refl
cut_from start count n (suc more) h =
    let rest = made_from start count (n + 1) more in
    ap lines_of (append_assoc (made_line start n) (10 ∷ has_query n count (made_query start n ++ 10 ∷ [])) rest)
    ∙ line_cut (made_line start n) (has_query n count (made_query start n ++ 10 ∷ []) ++ rest) (plain_line start n (omega (arith, h)))
    ∙ ap (λ ls. line (made_line start n) ∷ ls) (query_cut start count n rest ∙ ap (λ ls. query_lines start count n ++ ls) (cut_from start count (n + 1) more (omega (arith, h))))

next_until : (start count n : ℕ) → lines_until start count (n + 1) ≡ lines_until start count n ++ line (made_line start n) ∷ query_lines start count n
unfolding lines_until
next_until start count n = let e : n + 1 ≡ suc n = omega arith in ap (lines_until start count) e

until_from : (start count n more : ℕ) → lines_until start count n ++ lines_from start count n more ≡ lines_until start count (n + more)
until_from start count n zero = append-nil (lines_until start count n) ∙ ap (lines_until start count) (let e : n ≡ n + 0 = omega arith in e)
until_from start count n (suc more) =
    sym (append_assoc (lines_until start count n) (line (made_line start n) ∷ query_lines start count n) (lines_from start count (n + 1) more))
    ∙ ap (λ ls. ls ++ lines_from start count (n + 1) more) (sym (next_until start count n))
    ∙ until_from start count (n + 1) more ∙ ap (lines_until start count) (let e : n + 1 + more ≡ n + suc more = omega arith in e)

pub made_lines : (start count : ℕ) → count < 2 ^ 64 → lines_of (made start count) ≡ lines_until start count count
unfolding lines_until
made_lines start count h =
    cut_from start count 0 count (omega (arith, h)) ∙ until_from start count 0 count ∙ ap (lines_until start count) (let e : 0 + count ≡ count = omega arith in e)

-- ---- one more document

query_few : (start count n : ℕ) → length (query_lines start count n) ≤ 1
query_few start count n = elim (cases_Bool (((n + 1) % 1000 == 0) || (n + 1 == count))) [ inl yes_is ↦ rw yes_is (omega arith) | inr no_is ↦ rw no_is (omega arith) ]

pub lines_few : (start count n : ℕ) → length (lines_until start count n) ≤ 2 * n
unfolding lines_until
lines_few start count zero = omega arith
lines_few start count (suc n) =
    omega (arith, length-append (lines_until start count n) (line (made_line start n) ∷ query_lines start count n), query_few start count n, lines_few start count n)

pub until_next : (start count n : ℕ) → lines_until start count (n + 1) ≡ (lines_until start count n ++ line (made_line start n) ∷ []) ++ query_lines start count n
until_next start count n = next_until start count n ∙ sym (append_assoc (lines_until start count n) (line (made_line start n) ∷ []) (query_lines start count n))

pub until_none : (start count : ℕ) → lines_until start count 0 ≡ []
unfolding lines_until
until_none start count = refl

pub query_none : (start count n : ℕ) → ((n + 1) % 1000 ≡ 0 → ⊥) → (n + 1 ≡ count → ⊥) → query_lines start count n ≡ []
query_none start count n other before =
    let no_is : (((n + 1) % 1000 == 0) || (n + 1 == count)) ≡ false = grind (arith, other, before) in
    rw no_is refl

pub query_some : (start count n : ℕ) → ((n + 1) % 1000 ≡ 0) ⊎ (n + 1 ≡ count) → query_lines start count n ≡ line (made_query start n) ∷ []
query_some start count n there =
    let yes_is : (((n + 1) % 1000 == 0) || (n + 1 == count)) ≡ true = elim there [ inl e ↦ grind (arith, e) | inr e ↦ grind (arith, e) ] in
    rw yes_is refl
