-- What is written reads back: the lexemes of the text, and the grammar over them.
use Rattle.eb_fields.specs.Dialect.{plain}
use Rattle.std.proofs.Common.{◌≡◌, ℕ, suc, ◌+◌, ◌<◌, ◌≤◌, ◌≢◌, true, false, codes, decimal, Option, option_and_then, List, []}
use Rattle.std.proofs.Common.{◌∷◌, ◌++◌, length, map, take, drop, refl, sym, ap, ◌∙◌, arith, subst, append_assoc, append-nil, ne_eqb, length-append}
use Rattle.std.proofs.lemmas.List.{drop-drop}
use Rattle.std.specs.List.{AllByRecursion, position_or_len}
use Rattle.eb_base.specs.Query.{Tree, word, phrase, window, since, negation, conjunction, disjunction, Trees, no_trees, trees, IsFormed, AreFormed, leaf_of, window_of, most_reach}
use Rattle.eb_query.specs.Grammar.{Lexeme, opening, closing, minus, or_word, leaf}
use Rattle.eb_text.specs.Tokens.{tokens_of}
use Rattle.eb_fields.specs.Ids.{most_id}
use Rattle.eb_query.specs.Lexemes.{Placed, is_blank, is_run_end, text_lexeme, window_lexeme, quoted_lexeme, tilde_len, run_lexeme, of_leaf, bare, first, lexemes, is_quote}
use Rattle.eb_query.specs.Writing.{spaced_terms, in_quotes, window_text, since_text, in_parentheses, unary_text, part_text, and_text}
use Rattle.eb_query.specs.Writing.{and_more_text, or_text, or_more_text, query_text, IsNamed, AreNamed, AllNamed}
use Rattle.eb_query.proofs.WrittenLexemes.{unary_lexemes, part_lexemes, and_lexemes, or_lexemes, or_more_lexemes, query_lexemes}
use Rattle.eb_fields.proofs.Decimals.{IsDecimal, decimal_is, digits_first, front_taken, front_dropped}
use Rattle.eb_query.proofs.WrittenLeaves.{end_no_digit, reach_written, since_first}
use Rattle.eb_query.proofs.Cuts.{end_no_tilde, quoted_text, quoted_window, no_tilde_len, tilde_digits, nothing_left, first_none, first_opening}
use Rattle.eb_query.proofs.Cuts.{first_closing, first_minus, first_quoted, quoted_some, skip, at_blank, at_lexeme}

abbrev pub kinds : List Placed → List Lexeme
kinds ps = map (λ (p : Placed). p.lexeme) ps

-- the text begins with these lexemes, and rest follows
Cuts : List ℕ → List Lexeme → List ℕ → Type 0
Cuts bs ls rest = (c : ℕ) → (d : ℕ) × (kinds (lexemes plain 0 c bs) ≡ ls ++ kinds (lexemes plain 0 d rest))

nothing_cut : (bs : List ℕ) → Cuts bs [] bs
unfolding Cuts
nothing_cut bs c = (c, refl)

then_cut : (xs bs cs : List ℕ) (ls ms : List Lexeme) → Cuts xs ls bs → Cuts bs ms cs → Cuts xs (ls ++ ms) cs
unfolding Cuts
then_cut xs bs cs ls ms h k c = let p = h c in let q = k p.0 in (q.0, p.1 ∙ ap (λ (ks : List Lexeme). ls ++ ks) q.1 ∙ sym (append_assoc ls ms (kinds (lexemes plain 0 q.0 cs))))

blank_cut : (bs : List ℕ) → Cuts (32 ∷ bs) [] bs
unfolding Cuts
blank_cut bs c = (suc c, ap kinds (at_blank plain c 32 bs refl))

one_cut : (b : ℕ) (bs rest : List ℕ) (l : Lexeme) (k : ℕ) → is_blank b ≡ false → first plain b bs ≡ (l, k) → drop k bs ≡ rest → Cuts (b ∷ bs) (l ∷ []) rest
unfolding Cuts
one_cut b bs rest l k n f r c = (
  suc c + k,
  ap kinds (at_lexeme plain c b bs n ∙ ap (λ (p : Lexeme × ℕ). record { column = c; lexeme = p.0 } ∷ lexemes plain p.1 (suc c) bs) (first_none b bs ∙ f))
      ∙ ap (λ (ps : List Placed). l ∷ kinds ps) (skip plain k (suc c) bs ∙ ap (lexemes plain 0 (suc c + k)) r),
)

open_cut : (bs : List ℕ) → Cuts (40 ∷ bs) (opening ∷ []) bs
open_cut bs = one_cut 40 bs bs opening 0 refl (first_opening plain 40 bs refl) refl

close_cut : (bs : List ℕ) → Cuts (41 ∷ bs) (closing ∷ []) bs
close_cut bs = one_cut 41 bs bs closing 0 refl (first_closing plain 41 bs refl) refl

minus_cut : (bs : List ℕ) → Cuts (45 ∷ bs) (minus ∷ []) bs
minus_cut bs = one_cut 45 bs bs minus 0 refl (first_minus plain 45 bs refl) refl

or_first : (bs : List ℕ) → first plain 79 (82 ∷ 32 ∷ bs) ≡ (or_word, 1)
unfolding first bare run_lexeme
or_first bs = refl

or_cut : (bs : List ℕ) → Cuts (79 ∷ 82 ∷ 32 ∷ bs) (or_word ∷ []) (32 ∷ bs)
or_cut bs = one_cut 79 (82 ∷ 32 ∷ bs) (32 ∷ bs) or_word 1 refl (or_first bs) refl

first_quote : (text rest : List ℕ) → AllByRecursion (λ b. b ≢ 34) text → position_or_len is_quote (text ++ 34 ∷ rest) ≡ length text
first_quote [] rest h = refl
first_quote (b ∷ text) rest h = rw (ne_eqb b 34 h.0, first_quote text rest h.1) (omega arith)

drop_front : (xs ys : List ℕ) (y : ℕ) → drop (length xs + 1) (xs ++ y ∷ ys) ≡ ys
drop_front [] ys y = refl
drop_front (x ∷ xs) ys y =
    let e : suc (length xs) + 1 ≡ suc (length xs + 1) = omega arith in
    ap (λ (k : ℕ). drop k (x ∷ (xs ++ y ∷ ys))) e ∙ drop_front xs ys y

-- a text between quotation marks, of which this many bytes after the second one belong to the
-- lexeme
quote_cut : (text behind rest : List ℕ) (l : Lexeme) (k : ℕ) → AllByRecursion (λ b. b ≢ 34) text → quoted_lexeme plain text behind ≡ l → tilde_len behind ≡ k → drop k behind ≡ rest
    → Cuts (34 ∷ text ++ 34 ∷ behind) (l ∷ []) rest
quote_cut text behind rest l k h e f r =
    let some : length text < length (text ++ 34 ∷ behind) = simp length-append (omega arith) in
    let n = length text + 1 in
    one_cut 34 (text ++ 34 ∷ behind) rest l (n + k) refl
    (first_quoted plain 34 (text ++ 34 ∷ behind) refl ∙ quoted_some plain (text ++ 34 ∷ behind) (length text) (sym (first_quote text behind h)) some
    ∙ ap (λ (xs : List ℕ). (quoted_lexeme plain (take (length text) (text ++ 34 ∷ behind)) xs, n + tilde_len xs)) (drop_front text behind 34)
    ∙ ap (λ (xs : List ℕ). (quoted_lexeme plain xs behind, n + tilde_len behind)) (front_taken text (34 ∷ behind))
    ∙ ap (λ (x : Lexeme). (x, n + tilde_len behind)) e ∙ ap (λ (j : ℕ). (l, n + j)) f)
    (skipped ∙ r)
  where
    skipped : drop (length text + 1 + k) (text ++ 34 ∷ behind) ≡ drop k behind
    skipped = sym (drop-drop k (length text + 1) (text ++ 34 ∷ behind)) ∙ ap (drop k) (drop_front text behind 34)

same_cut : (xs ys : List ℕ) (ls : List Lexeme) (rest : List ℕ) → xs ≡ ys → Cuts ys ls rest → Cuts xs ls rest
same_cut xs ys ls rest e h = subst (λ (zs : List ℕ). Cuts zs ls rest) (sym e) h

leaf_cut : (text rest : List ℕ) (terms : List (List ℕ)) (t : Tree) → IsNamed text terms → of_leaf (leaf_of terms) ≡ leaf t → is_run_end rest ≡ true
    → Cuts (in_quotes text ++ rest) (leaf t ∷ []) rest
unfolding text_lexeme
leaf_cut text rest terms t h e end =
    let bare_end = end_no_tilde rest end in
    same_cut (in_quotes text ++ rest) (34 ∷ text ++ 34 ∷ rest) (leaf t ∷ []) rest (ap (λ (zs : List ℕ). 34 ∷ zs) (append_assoc text (34 ∷ []) rest))
    (quote_cut text rest rest (leaf t) 0 h.unquoted (quoted_text plain text rest bare_end ∙ ap (λ (ts : List (List ℕ)). of_leaf (leaf_of ts)) h.tokens ∙ e) (no_tilde_len rest bare_end) refl)

window_leaf : (ts : List (List ℕ)) (w : ℕ) → 2 ≤ length ts → of_leaf (window_of ts w) ≡ leaf (window ts w)
window_leaf [] w h = absurd (omega arith)
window_leaf (t ∷ []) w h = absurd (omega arith)
window_leaf (t ∷ u ∷ ts) w h = refl

-- the quoted terms of a window, a tilde and the digits of its reach
window_cut : (ts : List (List ℕ)) (w : ℕ) (ds rest : List ℕ) → 2 ≤ length ts → 1 ≤ w → w ≤ most_reach → IsDecimal 4 w ds → IsNamed (spaced_terms ts) ts → is_run_end rest ≡ true
    → Cuts ((in_quotes (spaced_terms ts) ++ 126 ∷ ds) ++ rest) (leaf (window ts w) ∷ []) rest
unfolding window_lexeme
window_cut ts w ds rest several low high d h end =
    let text = spaced_terms ts in
    let behind = 126 ∷ ds ++ rest in
    let n : 1 + length ds ≡ suc (length ds) = omega arith in
    let e : (in_quotes text ++ 126 ∷ ds) ++ rest ≡ 34 ∷ text ++ 34 ∷ behind = simp append_assoc in
    same_cut ((in_quotes text ++ 126 ∷ ds) ++ rest) (34 ∷ text ++ 34 ∷ behind) (leaf (window ts w) ∷ []) rest e
    (quote_cut text behind rest (leaf (window ts w)) (1 + length ds) h.unquoted
    (quoted_window plain text behind refl ∙ ap (λ (r : Option ℕ). of_leaf (option_and_then (window_of (tokens_of text)) r)) (reach_written w ds rest d low high end)
    ∙ ap (λ (us : List (List ℕ)). of_leaf (window_of us w)) h.tokens ∙ window_leaf ts w several)
    (tilde_digits behind refl ∙ ap (λ (j : ℕ). 1 + j) (digits_first ds rest d.digits (end_no_digit rest end)))
    (ap (λ (j : ℕ). drop j behind) n ∙ front_dropped ds rest))

-- `since:` and the digits of a bound
since_cut : (x : ℕ) (ds rest : List ℕ) → x ≤ most_id → IsDecimal 20 x ds → is_run_end rest ≡ true → Cuts ((codes "since:" ++ ds) ++ rest) (leaf (since x) ∷ []) rest
since_cut x ds rest high d end =
    let n : 5 + length ds ≡ suc (suc (suc (suc (suc (length ds))))) = omega arith in
    one_cut 115 (105 ∷ 110 ∷ 99 ∷ 101 ∷ 58 ∷ ds ++ rest) rest (leaf (since x)) (5 + length ds) refl (since_first x ds rest high d end)
    (ap (λ (j : ℕ). drop j (105 ∷ 110 ∷ 99 ∷ 101 ∷ 58 ∷ ds ++ rest)) n ∙ front_dropped ds rest)

phrase_leaf : (ts : List (List ℕ)) → 2 ≤ length ts → of_leaf (leaf_of ts) ≡ leaf (phrase ts)
phrase_leaf [] h = absurd (omega arith)
phrase_leaf (t ∷ []) h = absurd (omega arith)
phrase_leaf (t ∷ u ∷ ts) h = refl

group_cut : (text rest : List ℕ) (ls : List Lexeme) → Cuts (text ++ 41 ∷ rest) ls (41 ∷ rest) → Cuts (in_parentheses text ++ rest) (opening ∷ ls ++ closing ∷ []) rest
group_cut text rest ls h =
    same_cut (in_parentheses text ++ rest) (40 ∷ text ++ 41 ∷ rest) (opening ∷ ls ++ closing ∷ []) rest (ap (λ (zs : List ℕ). 40 ∷ zs) (append_assoc text (41 ∷ []) rest))
    (then_cut (40 ∷ text ++ 41 ∷ rest) (text ++ 41 ∷ rest) rest (opening ∷ []) (ls ++ closing ∷ []) (open_cut (text ++ 41 ∷ rest))
    (then_cut (text ++ 41 ∷ rest) (41 ∷ rest) rest ls (closing ∷ []) h (close_cut rest)))

minus_then : (text rest : List ℕ) (ls : List Lexeme) → Cuts (text ++ rest) ls rest → Cuts (45 ∷ text ++ rest) (minus ∷ ls) rest
minus_then text rest ls h = then_cut (45 ∷ text ++ rest) (text ++ rest) rest (minus ∷ []) ls (minus_cut (text ++ rest)) h

both_cut : (xs ys rest : List ℕ) (ls ms : List Lexeme) → Cuts (xs ++ (ys ++ rest)) ls (ys ++ rest) → Cuts (ys ++ rest) ms rest → Cuts ((xs ++ ys) ++ rest) (ls ++ ms) rest
both_cut xs ys rest ls ms h k = same_cut ((xs ++ ys) ++ rest) (xs ++ (ys ++ rest)) (ls ++ ms) rest (append_assoc xs ys rest) (then_cut (xs ++ (ys ++ rest)) (ys ++ rest) rest ls ms h k)

-- what follows a part
and_more_end : (ts : Trees) (rest : List ℕ) → is_run_end rest ≡ true → is_run_end (and_more_text ts ++ rest) ≡ true
and_more_end no_trees rest end = end
and_more_end (trees t ts) rest end = refl

or_more_end : (ts : Trees) (rest : List ℕ) → is_run_end rest ≡ true → is_run_end (or_more_text ts ++ rest) ≡ true
or_more_end no_trees rest end = end
or_more_end (trees t ts) rest end = refl

window_text_cut : (ts : List (List ℕ)) (w : ℕ) (rest : List ℕ) → IsFormed (window ts w) → AreNamed (window ts w) → is_run_end rest ≡ true
    → Cuts (window_text ts w ++ rest) (leaf (window ts w) ∷ []) rest
window_text_cut ts w rest f h end = let high = f.2 in window_cut ts w (decimal w) rest f.0 f.1 f.2 (decimal_is 4 w (omega arith) (omega arith) (omega arith)) h end

since_text_cut : (x : ℕ) (rest : List ℕ) → AreNamed (since x) → is_run_end rest ≡ true → Cuts (since_text x ++ rest) (leaf (since x) ∷ []) rest
since_text_cut x rest h end = since_cut x (decimal x) rest h (decimal_is 20 x (omega arith) (omega arith) (omega arith)) end

mutual
  unary_cut : (t : Tree) (rest : List ℕ) → IsFormed t → AreNamed t → is_run_end rest ≡ true → Cuts (unary_text t ++ rest) (unary_lexemes t) rest
  unary_cut (word t) rest f h end = leaf_cut t rest (t ∷ []) (word t) h refl end
  unary_cut (phrase ts) rest f h end = leaf_cut (spaced_terms ts) rest ts (phrase ts) h (phrase_leaf ts f) end
  unary_cut (window ts w) rest f h end = window_text_cut ts w rest f h end
  unary_cut (since x) rest f h end = since_text_cut x rest h end
  unary_cut (negation t) rest f h end = minus_then (unary_text t) rest (unary_lexemes t) (unary_cut t rest f h end)
  unary_cut (conjunction ts) rest f h end = group_cut (and_text ts) rest (and_lexemes ts) (and_cut ts (41 ∷ rest) f.1 h refl)
  unary_cut (disjunction ts) rest f h end = group_cut (or_text ts) rest (or_lexemes ts) (or_text_cut ts (41 ∷ rest) f.1 h refl)

  part_cut : (t : Tree) (rest : List ℕ) → IsFormed t → AreNamed t → is_run_end rest ≡ true → Cuts (part_text t ++ rest) (part_lexemes t) rest
  part_cut (word t) rest f h end = leaf_cut t rest (t ∷ []) (word t) h refl end
  part_cut (phrase ts) rest f h end = leaf_cut (spaced_terms ts) rest ts (phrase ts) h (phrase_leaf ts f) end
  part_cut (window ts w) rest f h end = window_text_cut ts w rest f h end
  part_cut (since x) rest f h end = since_text_cut x rest h end
  part_cut (negation t) rest f h end = minus_then (unary_text t) rest (unary_lexemes t) (unary_cut t rest f h end)
  part_cut (conjunction ts) rest f h end = and_cut ts rest f.1 h end
  part_cut (disjunction ts) rest f h end = group_cut (or_text ts) rest (or_lexemes ts) (or_text_cut ts (41 ∷ rest) f.1 h refl)

  and_cut : (ts : Trees) (rest : List ℕ) → AreFormed ts → AllNamed ts → is_run_end rest ≡ true → Cuts (and_text ts ++ rest) (and_lexemes ts) rest
  and_cut no_trees rest f h end = nothing_cut rest
  and_cut (trees t ts) rest f h end =
      both_cut (unary_text t) (and_more_text ts) rest (unary_lexemes t) (and_lexemes ts) (unary_cut t (and_more_text ts ++ rest) f.0 h.0 (and_more_end ts rest end)) (and_more_cut ts rest f.1 h.1 end)

  and_more_cut : (ts : Trees) (rest : List ℕ) → AreFormed ts → AllNamed ts → is_run_end rest ≡ true → Cuts (and_more_text ts ++ rest) (and_lexemes ts) rest
  and_more_cut no_trees rest f h end = nothing_cut rest
  and_more_cut (trees t ts) rest f h end =
      then_cut (32 ∷ (unary_text t ++ and_more_text ts) ++ rest) ((unary_text t ++ and_more_text ts) ++ rest) rest [] (unary_lexemes t ++ and_lexemes ts)
      (blank_cut ((unary_text t ++ and_more_text ts) ++ rest))
      (both_cut (unary_text t) (and_more_text ts) rest (unary_lexemes t) (and_lexemes ts)
      (unary_cut t (and_more_text ts ++ rest) f.0 h.0 (and_more_end ts rest end)) (and_more_cut ts rest f.1 h.1 end))

  or_text_cut : (ts : Trees) (rest : List ℕ) → AreFormed ts → AllNamed ts → is_run_end rest ≡ true → Cuts (or_text ts ++ rest) (or_lexemes ts) rest
  or_text_cut no_trees rest f h end = nothing_cut rest
  or_text_cut (trees t ts) rest f h end =
      both_cut (part_text t) (or_more_text ts) rest (part_lexemes t) (or_more_lexemes ts) (part_cut t (or_more_text ts ++ rest) f.0 h.0 (or_more_end ts rest end)) (or_more_cut ts rest f.1 h.1 end)

  or_more_cut : (ts : Trees) (rest : List ℕ) → AreFormed ts → AllNamed ts → is_run_end rest ≡ true → Cuts (or_more_text ts ++ rest) (or_more_lexemes ts) rest
  or_more_cut no_trees rest f h end = nothing_cut rest
  or_more_cut (trees t ts) rest f h end =
      let more = (part_text t ++ or_more_text ts) ++ rest in
      let ls = part_lexemes t ++ or_more_lexemes ts in
      then_cut (32 ∷ 79 ∷ 82 ∷ 32 ∷ more) (79 ∷ 82 ∷ 32 ∷ more) rest [] (or_word ∷ ls) (blank_cut (79 ∷ 82 ∷ 32 ∷ more))
      (then_cut (79 ∷ 82 ∷ 32 ∷ more) (32 ∷ more) rest (or_word ∷ []) ls (or_cut more)
      (then_cut (32 ∷ more) more rest [] ls (blank_cut more)
      (both_cut (part_text t) (or_more_text ts) rest (part_lexemes t) (or_more_lexemes ts) (part_cut t (or_more_text ts ++ rest) f.0 h.0 (or_more_end ts rest end)) (or_more_cut ts rest f.1 h.1 end))))

query_cut : (t : Tree) (rest : List ℕ) → IsFormed t → AreNamed t → is_run_end rest ≡ true → Cuts (query_text t ++ rest) (query_lexemes t) rest
query_cut (word t) rest f h end = unary_cut (word t) rest f h end
query_cut (phrase ts) rest f h end = unary_cut (phrase ts) rest f h end
query_cut (window ts w) rest f h end = unary_cut (window ts w) rest f h end
query_cut (since x) rest f h end = unary_cut (since x) rest f h end
query_cut (negation t) rest f h end = unary_cut (negation t) rest f h end
query_cut (conjunction ts) rest f h end = and_cut ts rest f.1 h end
query_cut (disjunction ts) rest f h end = or_text_cut ts rest f.1 h end

pub written_lexemes : (t : Tree) (c : ℕ) → IsFormed t → AreNamed t → kinds (lexemes plain 0 c (query_text t)) ≡ query_lexemes t
unfolding Cuts
written_lexemes t c f h =
    let p = query_cut t [] f h refl c in
    ap (λ (zs : List ℕ). kinds (lexemes plain 0 c zs)) (sym (append-nil (query_text t))) ∙ p.1 ∙ ap (λ (ks : List Lexeme). query_lexemes t ++ ks) (no_lexemes p.0) ∙ append-nil (query_lexemes t)
  where
    no_lexemes : (d : ℕ) → kinds (lexemes plain 0 d []) ≡ []
    no_lexemes d = ap kinds (nothing_left plain d)
