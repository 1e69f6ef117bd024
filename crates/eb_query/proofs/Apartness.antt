-- Phrases and windows are of texts.
use Rattle.eb_fields.specs.Dialect.{Dialect}
use Rattle.std.proofs.Common.{◌≡◌, ℕ, zero, suc, ◌+◌, ◌<◌, ◌≤◌, nat_lt, eqb, inl, inr, ◌==◌, ◌&&◌, Bool, true, false, cond, List, [], ◌∷◌, ◌++◌, length, take, drop, codes}
use Rattle.std.proofs.Common.{Option, Some, None, option_map, option_and_then, refl, sym, arith, subst, zero-add}
use Rattle.std.proofs.lemmas.Bool.{ltb-true, eqb-true}
use Rattle.std.proofs.lemmas.List.{drop-drop, drop_all}
use Rattle.std.proofs.lemmas.Str.{IsCharBoundary-after_ascii, IsCharBoundary-start, IsUtf8-take, IsUtf8-drop, IsUtf8-nil}
use Rattle.std.specs.List.{position_or_len, starts_with}
use Rattle.std.specs.Str.{IsUtf8, IsCharBoundary, bytes_eq}
use Rattle.eb_base.specs.Query.{Tree, trees_of, and_of, or_of, leaf_of, window_of, since}
use Rattle.eb_text.specs.Pieces.{tokens_by}
use Rattle.eb_fields.specs.Fields.{begun_name}
use Rattle.eb_fields.proofs.Listed.{begun_colon}
use Rattle.eb_fields.specs.Digits.{is_no_digit}
use Rattle.eb_query.specs.Grammar.{Lexeme, opening, closing, minus, or_word, leaf, broken, IsUnary, a_leaf, a_minus, a_group, IsAnd, last, beside, IsOr, final, either, GivesTree}
use Rattle.eb_fields.specs.Ids.{id_of}
use Rattle.eb_query.specs.Lexemes.{Placed, is_blank, ends_run, is_quote, of_leaf, text_lexeme, reach_of, window_lexeme, has_tilde, quoted_lexeme, tilde_len, quoted, run_lexeme, bare, first}
use Rattle.eb_query.specs.Lexemes.{bare_value, quoted_value, value_lexeme, named_lexeme, first_with, lexemes}
use Rattle.eb_query.specs.Number.{digits_len, HasNumberUpTo, HasQueryNumber, lexemes_of_line}
use Rattle.eb_query.specs.Head.{is_count, range_len, IsHead, HasHead}
use Rattle.eb_query.specs.declared.ask.Ask.{Ask}
use Rattle.eb_query.proofs.Asks.{text_lexemes}
use Rattle.eb_query.specs.Reading.{Outcome, asks, IsOutcome, stands, cannot_stand, stands_too_deep, incomplete, large, complete, ReadsWith, without_number, with_number}
use Rattle.eb_query.specs.WatchLine as watch
use Rattle.eb_query.specs.WatchLine.{WatchOutcome, reads, ReadsWatchWith, alone, with_text}
use Rattle.eb_query.specs.Apart.{IsApart, AreApart}
use Rattle.eb_query.specs.Laws.{FieldsApart}
use Rattle.eb_query.proofs.Cuts.{blank_small, ends_run_small, is_quote_small}
use Rattle.eb_query.proofs.Values.{digits_within, apart_boundary}
use Rattle.eb_query.proofs.Leaves.{digits_boundary}
use Rattle.eb_query.proofs.FieldValues.{boundary_from, behind_quote}

-- a leaf is apart
abbrev IsOwn : Lexeme → Type 0
IsOwn (leaf t) = IsApart t
IsOwn opening = Unit {0}
IsOwn closing = Unit {0}
IsOwn minus = Unit {0}
IsOwn or_word = Unit {0}
IsOwn broken = Unit {0}

abbrev AreOwn : List Lexeme → Type 0
AreOwn [] = Unit {0}
AreOwn (l ∷ ls) = IsOwn l × AreOwn ls

abbrev All : List Tree → Type 0
All [] = Unit {0}
All (t ∷ ts) = IsApart t × All ts

all_apart : (ts : List Tree) → All ts → AreApart (trees_of ts)
all_apart [] h = tt
all_apart (t ∷ ts) h = (h.0, all_apart ts h.1)

some_and : (t : Tree) (ts : List Tree) → All (t ∷ ts) → IsApart (and_of (t ∷ ts))
some_and t [] h = h.0
some_and t (u ∷ ts) h = all_apart (t ∷ u ∷ ts) h

some_or : (t : Tree) (ts : List Tree) → All (t ∷ ts) → IsApart (or_of (t ∷ ts))
some_or t [] h = h.0
some_or t (u ∷ ts) h = all_apart (t ∷ u ∷ ts) h

mutual
  unary_apart : {ls rest : List Lexeme} {t : Tree} → IsUnary ls t rest → AreOwn ls → IsApart t × AreOwn rest
  unary_apart a_leaf s = (s.0, s.1)
  unary_apart (a_minus u) s = unary_apart u s.1
  unary_apart (a_group o) s = let h = or_apart o s.1 in (h.0.0, h.1.1)

  and_apart : {ls rest : List Lexeme} {ts : List Tree} → IsAnd ls ts rest → AreOwn ls → (IsApart (and_of ts) × All ts) × AreOwn rest
  and_apart (last {ls} {rest} {t} u) s = let h = unary_apart u s in ((h.0, (h.0, tt)), h.1)
  and_apart (beside {ls} {mid} {rest} {t} {ts} u a) s =
      let h = unary_apart u s in let k = and_apart a h.1 in ((some_and t ts (h.0, k.0.1), (h.0, k.0.1)), k.1)

  or_apart : {ls rest : List Lexeme} {ts : List Tree} → IsOr ls ts rest → AreOwn ls → (IsApart (or_of ts) × All ts) × AreOwn rest
  or_apart (final {ls} {rest} {ts} a) s = let h = and_apart a s in ((h.0.0, (h.0.0, tt)), h.1)
  or_apart (either {ls} {mid} {rest} {ts} {us} a o) s =
      let h = and_apart a s in let k = or_apart o h.1.1 in ((some_or (and_of ts) us (h.0.0, k.0.1), (h.0.0, k.0.1)), k.1)

gives_apart : {ls : List Lexeme} {t : Tree} → GivesTree ls t → AreOwn ls → IsApart t
gives_apart {ls} {t} g s = subst IsApart (sym g.2) (or_apart g.1 s).0.0

own_append : (ls : List Lexeme) (l : Lexeme) → AreOwn ls → IsOwn l → AreOwn (ls ++ l ∷ [])
own_append [] l s h = (h, tt)
own_append (k ∷ ls) l s h = (s.0, own_append ls l s.1 h)

abbrev ArePlacedOwn : List Placed → Type 0
ArePlacedOwn [] = Unit {0}
ArePlacedOwn (p ∷ ps) = IsOwn p.lexeme × ArePlacedOwn ps

outcome_apart : {line : List ℕ} {a : Ask} {before : List Lexeme} {ps : List Placed} {o : Outcome} → IsOutcome line a before ps o
    → (k : Ask) (t : Tree) → o ≡ asks k t → AreOwn before → ArePlacedOwn ps → IsApart t
outcome_apart (stands {before} {p} {ps} {o} c n r) k t e b s = outcome_apart r k t e (own_append before p.lexeme b s.0) s.1
outcome_apart (cannot_stand n) k t e b s = cc
outcome_apart (stands_too_deep c o n) k t e b s = cc
outcome_apart (incomplete n) k t e b s = cc
outcome_apart (large g l) k t e b s = cc
outcome_apart (complete {before} {t = u} g l) k t e b s = let same : u ≡ t = cc in subst IsApart same (gives_apart g b)

-- ---- texts

tail_text : (b : ℕ) (bs : List ℕ) → b < 128 → IsUtf8 (b ∷ bs) → IsUtf8 bs
tail_text b bs h u = IsUtf8-drop (b ∷ bs) 1 u (IsCharBoundary-after_ascii (b ∷ bs) 0 u (omega arith) h)

-- up to the first byte that passes, and from it on
cut_text : (p : ℕ → Bool) (bs : List ℕ) → ((b : ℕ) → p b ≡ true → b < 128) → IsUtf8 bs → IsUtf8 (take (position_or_len p bs) bs) × IsUtf8 (drop (position_or_len p bs) bs)
cut_text p bs small u =
    let b = subst (IsCharBoundary bs) (zero-add (position_or_len p bs)) (boundary_from p bs 0 (position_or_len p bs) small (omega arith) refl) in
    (IsUtf8-take bs _ u b, IsUtf8-drop bs _ u b)

behind_text : (bs : List ℕ) → IsUtf8 bs → position_or_len is_quote bs < length bs → IsUtf8 (drop (position_or_len is_quote bs + 1) bs)
behind_text bs u l =
    let b = subst (λ (n : ℕ). IsCharBoundary bs (n + 1)) (zero-add (position_or_len is_quote bs)) (behind_quote bs 0 (position_or_len is_quote bs) u (omega arith) refl (omega arith)) in
    IsUtf8-drop bs _ u b

end_text : (bs : List ℕ) → IsUtf8 (drop (length bs) bs)
end_text bs = subst IsUtf8 (sym (drop_all (length bs) bs (omega arith))) IsUtf8-nil

digits_text : (bs : List ℕ) → IsUtf8 bs → IsUtf8 (drop (position_or_len is_no_digit bs) bs)
digits_text bs u =
    let b = subst (IsCharBoundary bs) (zero-add (position_or_len is_no_digit bs)) (digits_boundary bs 0 (position_or_len is_no_digit bs) u (IsCharBoundary-start bs u) (omega arith) refl) in
    IsUtf8-drop bs _ u b

text_own : (how : Dialect) (text : List ℕ) → IsUtf8 text → IsOwn (text_lexeme how text)
unfolding text_lexeme
text_own how text u = go (tokens_by how.cut text) refl
  where
    go : (ts : List (List ℕ)) → tokens_by how.cut text ≡ ts → IsOwn (of_leaf (leaf_of ts))
    go [] e = tt
    go (t ∷ []) e = tt
    go (t ∷ s ∷ ts) e = (how.cut, text, u, sym e)

window_own : (how : Dialect) (text bs : List ℕ) → IsUtf8 text → IsOwn (window_lexeme how text bs)
unfolding window_lexeme
window_own how text bs u = go (reach_of bs) (tokens_by how.cut text) refl
  where
    some : (w : ℕ) (ts : List (List ℕ)) → tokens_by how.cut text ≡ ts → IsOwn (of_leaf (window_of ts w))
    some w [] e = tt
    some w (t ∷ []) e = tt
    some w (t ∷ s ∷ ts) e = (how.cut, text, u, sym e)

    go : (r : Option ℕ) (ts : List (List ℕ)) → tokens_by how.cut text ≡ ts → IsOwn (of_leaf (option_and_then (window_of ts) r))
    go None ts e = tt
    go (Some w) ts e = some w ts e

closed_own : (how : Dialect) (text bs : List ℕ) → IsUtf8 text → IsOwn (quoted_lexeme how text bs)
unfolding quoted_lexeme
closed_own how text bs u = go (has_tilde bs)
  where
    go : (b : Bool) → IsOwn (cond b (window_lexeme how text (drop 1 bs)) (text_lexeme how text))
    go true = window_own how text (drop 1 bs) u
    go false = text_own how text u

tilde_text : (bs : List ℕ) → IsUtf8 bs → IsUtf8 (drop (tilde_len bs) bs)
unfolding tilde_len
tilde_text [] u = u
tilde_text (b ∷ bs) u = go (eqb b 126) refl
  where
    go : (x : Bool) → eqb b 126 ≡ x → IsUtf8 (drop (cond x (1 + position_or_len is_no_digit bs) 0) (b ∷ bs))
    go false e = u
    go true e =
        let is = eqb-true b 126 e in let one : 1 + position_or_len is_no_digit bs ≡ suc (position_or_len is_no_digit bs) = omega arith in
        subst (λ (n : ℕ). IsUtf8 (drop n (b ∷ bs))) (sym one) (digits_text bs (tail_text b bs (omega arith) u))

bound_own : (id : Option ℕ) → IsOwn (of_leaf (option_map since id))
bound_own None = tt
bound_own (Some x) = tt

run_own : (how : Dialect) (run : List ℕ) → IsUtf8 run → IsOwn (run_lexeme how run)
unfolding run_lexeme
run_own how run u = go (bytes_eq run (codes "OR")) (starts_with eqb run (codes "since:"))
  where
    go : (a b : Bool) → IsOwn (cond a or_word (cond b (of_leaf (option_map since (id_of (drop 6 run)))) (text_lexeme how run)))
    go true b = tt
    go false true = bound_own (id_of (drop 6 run))
    go false false = text_own how run u

-- a lexeme is apart, and what follows it is a text
abbrev IsKept : List ℕ → Lexeme × ℕ → Type 0
IsKept bs p = IsOwn p.0 × IsUtf8 (drop p.1 bs)

chosen : (bs : List ℕ) (p q : Lexeme × ℕ) (b : Bool) → (b ≡ true → IsKept bs p) → (b ≡ false → IsKept bs q) → IsKept bs (cond {A = Lexeme × ℕ} b p q)
chosen bs p q true h k = h refl
chosen bs p q false h k = k refl

quoted_kept : (how : Dialect) (bs : List ℕ) → IsUtf8 bs → IsKept bs (quoted how bs)
unfolding quoted
quoted_kept how bs u =
    let n = position_or_len is_quote bs in
    chosen bs _ _ (nat_lt n (length bs))
    (λ e.
    let behind = behind_text bs u (ltb-true _ _ e) in
    (closed_own how (take n bs) (drop (n + 1) bs) (cut_text is_quote bs is_quote_small u).0, subst IsUtf8 (drop-drop (tilde_len (drop (n + 1) bs)) (n + 1) bs) (tilde_text _ behind)))
    (λ e. (tt, end_text bs))

bare_kept : (how : Dialect) (b : ℕ) (bs : List ℕ) → IsUtf8 (b ∷ bs) → IsKept bs (bare how b bs)
unfolding bare
bare_kept how b bs u =
    let n = position_or_len ends_run bs in
    let one : 1 + n ≡ suc n = omega arith in
    let c = subst (IsCharBoundary (b ∷ bs)) one (boundary_from ends_run (b ∷ bs) 1 n ends_run_small (omega arith) refl) in
    (run_own how (b ∷ take n bs) (IsUtf8-take (b ∷ bs) (suc n) u c), IsUtf8-drop (b ∷ bs) (suc n) u c)

first_kept : (how : Dialect) (b : ℕ) (bs : List ℕ) → IsUtf8 (b ∷ bs) → IsKept bs (first how b bs)
unfolding first
first_kept how b bs u =
    chosen bs _ _ (eqb b 40) (λ e. let i = eqb-true b 40 e in (tt, tail_text b bs (omega arith) u))
    (λ _. chosen bs _ _ (eqb b 41) (λ e. let i = eqb-true b 41 e in (tt, tail_text b bs (omega arith) u))
    (λ _. chosen bs _ _ (eqb b 45) (λ e. let i = eqb-true b 45 e in (tt, tail_text b bs (omega arith) u))
    (λ _. chosen bs _ _ (eqb b 34) (λ e. let i = eqb-true b 34 e in quoted_kept how bs (tail_text b bs (omega arith) u)) (λ _. bare_kept how b bs u))))

bare_value_kept : (name bs : List ℕ) → IsUtf8 bs → IsKept bs (bare_value name bs)
unfolding bare_value
bare_value_kept name bs u = chosen bs _ _ (eqb (position_or_len ends_run bs) 0) (λ _. (tt, u)) (λ _. (tt, (cut_text ends_run bs ends_run_small u).1))

quoted_value_kept : (name bs : List ℕ) → IsUtf8 bs → IsKept bs (quoted_value name bs)
unfolding quoted_value
quoted_value_kept name bs u = chosen bs _ _ (nat_lt (position_or_len is_quote bs) (length bs)) (λ e. (tt, behind_text bs u (ltb-true _ _ e))) (λ _. (tt, end_text bs))

value_kept : (name bs : List ℕ) → IsUtf8 bs → IsKept bs (value_lexeme name bs)
unfolding value_lexeme
value_kept name [] u = bare_value_kept name [] u
value_kept name (b ∷ bs) u =
    chosen (b ∷ bs) _ _ (is_quote b)
    (λ e.
    let q = quoted_value_kept name bs (tail_text b bs (is_quote_small b e) u) in
    let one : 1 + (quoted_value name bs).1 ≡ suc (quoted_value name bs).1 = omega arith in
    (q.0, subst (λ (n : ℕ). IsUtf8 (drop n (b ∷ bs))) (sym one) q.1))
    (λ _. bare_value_kept name (b ∷ bs) u)

named_kept : (how : Dialect) (name : Option (List ℕ)) (b : ℕ) (bs : List ℕ) → begun_name how.names (b ∷ bs) ≡ name → IsUtf8 (b ∷ bs) → IsKept bs (named_lexeme how name b bs)
named_kept how None b bs e u = first_kept how b bs u
named_kept how (Some name) b bs e u =
    let p = begun_colon how.names (b ∷ bs) name e in let is = p.1 in
    let one : length name + 1 ≡ suc (length name) = omega arith in
    let rest : IsUtf8 (drop (length name) bs) =
    IsUtf8-drop (b ∷ bs) (suc (length name)) u (subst (IsCharBoundary (b ∷ bs)) one (IsCharBoundary-after_ascii (b ∷ bs) (length name) u p.0 (omega arith))) in
    let v = value_kept name (drop (length name) bs) rest in
    (v.0, subst IsUtf8 (drop-drop (value_lexeme name (drop (length name) bs)).1 (length name) bs) v.1)

first_with_kept : (how : Dialect) (b : ℕ) (bs : List ℕ) → IsUtf8 (b ∷ bs) → IsKept bs (first_with how b bs)
unfolding first_with
first_with_kept how b bs u = named_kept how (begun_name how.names (b ∷ bs)) b bs refl u

lexemes_own : (how : Dialect) (k c : ℕ) (bs : List ℕ) → IsUtf8 (drop k bs) → ArePlacedOwn (lexemes how k c bs)
unfolding lexemes
lexemes_own how k c [] u = tt
lexemes_own how (suc k) c (b ∷ bs) u = lexemes_own how k (suc c) bs u
lexemes_own how zero c (b ∷ bs) u =
    go (is_blank b) refl (λ v. lexemes_own how zero (suc c) bs v) (lexemes_own how (first_with how b bs).1 (suc c) bs (first_with_kept how b bs u).1)
  where
    go : (x : Bool) → is_blank b ≡ x → (IsUtf8 bs → ArePlacedOwn (lexemes how zero (suc c) bs)) → ArePlacedOwn (lexemes how (first_with how b bs).1 (suc c) bs)
        → ArePlacedOwn (cond x (lexemes how zero (suc c) bs) (record { column = c; lexeme = (first_with how b bs).0 } ∷ lexemes how (first_with how b bs).1 (suc c) bs))
    go true e h i = h (tail_text b bs (blank_small b e) u)
    go false e h i = ((first_with_kept how b bs u).0, i)

line_within : (line : List ℕ) → 1 ≤ digits_len line → 1 + digits_len line ≤ length line
unfolding digits_len
line_within [] h = absurd (omega arith)
line_within (b ∷ bs) h = let w = digits_within (b ∷ bs) (omega arith) in omega arith

line_own : (how : Dialect) (line : List ℕ) (digits most : ℕ) → IsUtf8 line → HasNumberUpTo digits most line → ArePlacedOwn (lexemes_of_line how line)
unfolding lexemes_of_line
line_own how line digits most u h =
    let b = apart_boundary line (1 + digits_len line) (line_within line h.some) h.apart in
    lexemes_own how 0 (2 + digits_len line) (drop (1 + digits_len line) line) (IsUtf8-drop line (1 + digits_len line) u b)

both_so : (x y : Bool) → (x && y) ≡ true → y ≡ true
both_so true y e = e
both_so false y e = let no : ⊥ = cc in absurd no

counts_own : (how : Dialect) (line : List ℕ) (n : ℕ) → is_count how line ≡ true → n ≡ 1 + range_len line → IsUtf8 line → ArePlacedOwn (lexemes how 0 (n + 1) (drop n line))
unfolding range_len
counts_own how [] n c e u = let no : ⊥ = cc in absurd no
counts_own how (b ∷ bs) n c e u =
    let mark : b ≡ 35 = eqb-true b 35 (both_so how.counts (b == 35) c) in
    let rest = (cut_text is_blank bs blank_small (tail_text b bs (omega arith) u)).1 in
    let next : n ≡ suc (range_len (b ∷ bs)) = omega (arith, e) in
    lexemes_own how 0 (n + 1) (drop n (b ∷ bs)) (subst (λ (k : ℕ). IsUtf8 (drop k (b ∷ bs))) (sym next) rest)

newest_own : (how : Dialect) (line : List ℕ) (n : ℕ) → HasQueryNumber line → n ≡ 1 + digits_len line → IsUtf8 line → ArePlacedOwn (lexemes how 0 (n + 1) (drop n line))
newest_own how line n h e u = subst ArePlacedOwn (sym (text_lexemes how line n e)) (line_own how line _ _ u h.up_to)

head_own : (how : Dialect) (line : List ℕ) (a : Ask) (n : ℕ) → HasHead how line a n → IsUtf8 line → ArePlacedOwn (lexemes how 0 (n + 1) (drop n line))
head_own how line a n h u = go (is_count how line) refl h
  where
    go : (x : Bool) → is_count how line ≡ x → IsHead x line a n → ArePlacedOwn (lexemes how 0 (n + 1) (drop n line))
    go true e i = counts_own how line n e i.1 u
    go false e i = newest_own how line n i.0 i.2 u

query_apart : {how : Dialect} {line : List ℕ} {o : Outcome} → ReadsWith how line o → (k : Ask) (t : Tree) → o ≡ asks k t → IsUtf8 line → IsApart t
query_apart (without_number n) k t e u = cc
query_apart {how} {line} (with_number {a} n h r) k t e u = outcome_apart r k t e tt (head_own how line a n h u)

watch_apart : {how : Dialect} {line : List ℕ} {o : WatchOutcome} → ReadsWatchWith how line o → (k : Ask) (t : Tree) → o ≡ reads (asks k t) → IsUtf8 line → IsApart t
watch_apart (watch.without_number n) k t e u = cc
watch_apart (alone h n) k t e u = cc
watch_apart {how} {line} (with_text {o} h n r) k t e u = let same : o ≡ asks k t = cc in outcome_apart r k t same tt (line_own how line _ _ u h)

pub fields_are_apart : FieldsApart
fields_are_apart how line k t u (inl r) = query_apart r k t refl u
fields_are_apart how line k t u (inr r) = watch_apart r k t refl u
