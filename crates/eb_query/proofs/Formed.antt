-- What is read is formed well.
use Rattle.eb_fields.specs.Dialect.{Dialect}
use Rattle.std.proofs.Common.{◌≡◌, ℕ, zero, suc, ◌+◌, nat_lt, Bool, true, false, cond, List, [], ◌∷◌, ◌++◌, length, refl, sym, ap, ◌∙◌, arith, subst}
use Rattle.std.proofs.lemmas.Bool.{ltb-true, and_parts}
use Rattle.eb_base.specs.Query.{Tree, trees_of, and_of, or_of, size, IsFormed, AreFormed, IsWellFormed, leaf_of, window_of, most_size, most_reach, since}
use Rattle.eb_text.specs.Pieces.{tokens_by}
use Rattle.eb_fields.specs.Digits.{is_no_digit, decimal_after}
use Rattle.eb_fields.specs.Fields.{begun_name}
use Rattle.eb_query.specs.Grammar.{Lexeme, opening, closing, minus, or_word, leaf, broken, IsUnary, a_leaf, a_minus, a_group, IsAnd, last, beside, IsOr, final, either, GivesTree}
use Rattle.eb_fields.specs.Ids.{id_of}
use Rattle.eb_query.specs.Lexemes.{Placed, is_blank, ends_run, text_lexeme, is_reach, reach_by, reach_of, window_lexeme, has_tilde, quoted_lexeme}
use Rattle.eb_query.specs.Lexemes.{tilde_len, run_lexeme, of_leaf, quoted, bare, first, bare_value, quoted_value, has_quote, value_lexeme, named_lexeme}
use Rattle.eb_query.specs.Lexemes.{first_with, lexemes, is_quote}
use Rattle.eb_query.specs.declared.ask.Ask.{Ask}
use Rattle.eb_query.specs.Reading.{Outcome, asks, too_many_nodes, IsOutcome, stands, cannot_stand, stands_too_deep, incomplete, large, complete}
use Rattle.eb_query.specs.Machine.{start, sized, outcome}
use Rattle.std.specs.List.{position_or_len, starts_with}
use Rattle.std.specs.Str.{bytes_eq}
use Rattle.std.proofs.Common.{codes, eqb, take, drop, ◌≤◌, Option, Some, None, option_map, option_and_then, leb-true}
use Rattle.eb_query.proofs.Outcomes.{found}

-- a leaf is formed well
abbrev pub IsSound : Lexeme → Type 0
IsSound (leaf t) = IsFormed t
IsSound opening = Unit {0}
IsSound closing = Unit {0}
IsSound minus = Unit {0}
IsSound or_word = Unit {0}
IsSound broken = Unit {0}

abbrev pub AreSound : List Lexeme → Type 0
AreSound [] = Unit {0}
AreSound (l ∷ ls) = IsSound l × AreSound ls

abbrev All : List Tree → Type 0
All [] = Unit {0}
All (t ∷ ts) = IsFormed t × All ts

all_formed : (ts : List Tree) → All ts → AreFormed (trees_of ts)
all_formed [] h = tt
all_formed (t ∷ ts) h = (h.0, all_formed ts h.1)

some_and : (t : Tree) (ts : List Tree) → All (t ∷ ts) → IsFormed (and_of (t ∷ ts))
some_and t [] h = h.0
some_and t (u ∷ ts) h = (tt, all_formed (t ∷ u ∷ ts) h)

some_or : (t : Tree) (ts : List Tree) → All (t ∷ ts) → IsFormed (or_of (t ∷ ts))
some_or t [] h = h.0
some_or t (u ∷ ts) h = (tt, all_formed (t ∷ u ∷ ts) h)

mutual
  unary_formed : {ls rest : List Lexeme} {t : Tree} → IsUnary ls t rest → AreSound ls → IsFormed t × AreSound rest
  unary_formed a_leaf s = (s.0, s.1)
  unary_formed (a_minus u) s = unary_formed u s.1
  unary_formed (a_group o) s = let h = or_formed o s.1 in (h.0.0, h.1.1)

  and_formed : {ls rest : List Lexeme} {ts : List Tree} → IsAnd ls ts rest → AreSound ls → (IsFormed (and_of ts) × All ts) × AreSound rest
  and_formed (last {ls} {rest} {t} u) s = let h = unary_formed u s in ((h.0, (h.0, tt)), h.1)
  and_formed (beside {ls} {mid} {rest} {t} {ts} u a) s =
      let h = unary_formed u s in let k = and_formed a h.1 in ((some_and t ts (h.0, k.0.1), (h.0, k.0.1)), k.1)

  or_formed : {ls rest : List Lexeme} {ts : List Tree} → IsOr ls ts rest → AreSound ls → (IsFormed (or_of ts) × All ts) × AreSound rest
  or_formed (final {ls} {rest} {ts} a) s = let h = and_formed a s in ((h.0.0, (h.0.0, tt)), h.1)
  or_formed (either {ls} {mid} {rest} {ts} {us} a o) s =
      let h = and_formed a s in let k = or_formed o h.1.1 in ((some_or (and_of ts) us (h.0.0, k.0.1), (h.0.0, k.0.1)), k.1)

gives_formed : {ls : List Lexeme} {t : Tree} → GivesTree ls t → AreSound ls → IsFormed t
gives_formed {ls} {t} g s = subst IsFormed (sym g.2) (or_formed g.1 s).0.0

sound_append : (ls : List Lexeme) (l : Lexeme) → AreSound ls → IsSound l → AreSound (ls ++ l ∷ [])
sound_append [] l s h = (h, tt)
sound_append (k ∷ ls) l s h = (s.0, sound_append ls l s.1 h)

abbrev pub ArePlacedSound : List Placed → Type 0
ArePlacedSound [] = Unit {0}
ArePlacedSound (p ∷ ps) = IsSound p.lexeme × ArePlacedSound ps

outcome_formed : {line : List ℕ} {a : Ask} {before : List Lexeme} {ps : List Placed} {o : Outcome} → IsOutcome line a before ps o
    → (t : Tree) → o ≡ asks a t → AreSound before → ArePlacedSound ps → IsWellFormed t
outcome_formed (stands {before} {p} {ps} {o} c n r) t e b s = outcome_formed r t e (sound_append before p.lexeme b s.0) s.1
outcome_formed (cannot_stand n) t e b s = cc
outcome_formed (stands_too_deep c o n) t e b s = cc
outcome_formed (incomplete n) t e b s = cc
outcome_formed (large g l) t e b s = cc
outcome_formed (complete {before} {t = u} g l) t e b s =
    let k : u ≡ t = cc in
    subst IsWellFormed k (record { formed = gives_formed g b; within = l })

leaf_sound : (ts : List (List ℕ)) → IsSound (of_leaf (leaf_of ts))
leaf_sound [] = tt
leaf_sound (t ∷ []) = tt
leaf_sound (t ∷ u ∷ ts) = omega arith

text_sound : (how : Dialect) (text : List ℕ) → IsSound (text_lexeme how text)
unfolding text_lexeme
text_sound how text = leaf_sound (tokens_by how.cut text)

-- a window of a reach that a window may have
window_sound : (ts : List (List ℕ)) (w : ℕ) → 1 ≤ w → w ≤ most_reach → IsSound (of_leaf (window_of ts w))
window_sound [] w low high = tt
window_sound (t ∷ []) w low high = tt
window_sound (t ∷ u ∷ ts) w low high = (omega arith, low, high)

reach_sound : (how : Dialect) (text : List ℕ) (n : ℕ) (bs : List ℕ) → IsSound (of_leaf (option_and_then (window_of (tokens_by how.cut text)) (reach_by n bs)))
reach_sound how text n bs = go (is_reach n bs) refl
  where
    go : (b : Bool) → is_reach n bs ≡ b → IsSound (of_leaf (option_and_then (window_of (tokens_by how.cut text)) (cond b (Some (decimal_after 0 (take n bs))) None)))
    go false e = tt
    go true e =
        let values = (and_parts _ _ (and_parts _ _ e).1).0 in
        let within = and_parts _ _ values in
        window_sound (tokens_by how.cut text) (decimal_after 0 (take n bs)) (leb-true _ _ within.0) (leb-true _ _ within.1)

behind_sound : (how : Dialect) (text bs : List ℕ) → IsSound (window_lexeme how text bs)
unfolding window_lexeme reach_of
behind_sound how text bs = reach_sound how text (position_or_len is_no_digit bs) bs

closed_sound : (how : Dialect) (text bs : List ℕ) → IsSound (quoted_lexeme how text bs)
unfolding quoted_lexeme
closed_sound how text bs = go (has_tilde bs)
  where
    go : (b : Bool) → IsSound (cond b (window_lexeme how text (drop 1 bs)) (text_lexeme how text))
    go true = behind_sound how text (drop 1 bs)
    go false = text_sound how text

bound_sound : (id : Option ℕ) → IsSound (of_leaf (option_map since id))
bound_sound None = tt
bound_sound (Some x) = tt

run_sound : (how : Dialect) (run : List ℕ) → IsSound (run_lexeme how run)
unfolding run_lexeme
run_sound how run = go (bytes_eq run (codes "OR")) (starts_with eqb run (codes "since:"))
  where
    go : (a b : Bool) → IsSound (cond a or_word (cond b (of_leaf (option_map since (id_of (drop 6 run)))) (text_lexeme how run)))
    go true b = tt
    go false true = bound_sound (id_of (drop 6 run))
    go false false = text_sound how run

quoted_sound : (how : Dialect) (bs : List ℕ) → IsSound (quoted how bs).0
unfolding quoted
quoted_sound how bs =
    let n = position_or_len is_quote bs in
    let text = take n bs in
    let behind = drop (n + 1) bs in
    go (quoted_lexeme how text behind) (n + 1 + tilde_len behind) (closed_sound how text behind) (nat_lt n (length bs))
  where
    go : (l : Lexeme) (len : ℕ) → IsSound l → (b : Bool) → IsSound (cond {A = Lexeme × ℕ} b (l, len) (broken, length bs)).0
    go l len h true = h
    go l len h false = tt

bare_sound : (how : Dialect) (b : ℕ) (bs : List ℕ) → IsSound (bare how b bs).0
unfolding bare
bare_sound how b bs = run_sound how (b ∷ take (position_or_len ends_run bs) bs)

first_sound : (how : Dialect) (b : ℕ) (bs : List ℕ) → IsSound (first how b bs).0
unfolding first
first_sound how b bs = go (eqb b 40) (eqb b 41) (eqb b 45) (eqb b 34)
  where
    go : (i j k l : Bool) → IsSound (cond {A = Lexeme × ℕ} i (opening, 0) (cond j (closing, 0) (cond k (minus, 0) (cond l (quoted how bs) (bare how b bs))))).0
    go true j k l = tt
    go false true k l = tt
    go false false true l = tt
    go false false false true = quoted_sound how bs
    go false false false false = bare_sound how b bs

either_sound : (l m : Lexeme × ℕ) → IsSound l.0 → IsSound m.0 → (b : Bool) → IsSound (cond {A = Lexeme × ℕ} b l m).0
either_sound l m h k true = h
either_sound l m h k false = k

bare_value_sound : (name bs : List ℕ) → IsSound (bare_value name bs).0
unfolding bare_value
bare_value_sound name bs = either_sound _ _ tt tt (eqb (position_or_len ends_run bs) 0)

quoted_value_sound : (name bs : List ℕ) → IsSound (quoted_value name bs).0
unfolding quoted_value
quoted_value_sound name bs = either_sound _ _ tt tt (nat_lt (position_or_len is_quote bs) (length bs))

value_sound : (name bs : List ℕ) → IsSound (value_lexeme name bs).0
unfolding value_lexeme
value_sound name bs = either_sound _ _ (quoted_value_sound name (drop 1 bs)) (bare_value_sound name bs) (has_quote bs)

named_sound : (how : Dialect) (name : Option (List ℕ)) (b : ℕ) (bs : List ℕ) → IsSound (named_lexeme how name b bs).0
named_sound how None b bs = first_sound how b bs
named_sound how (Some name) b bs = value_sound name (drop (length name) bs)

first_with_sound : (how : Dialect) (b : ℕ) (bs : List ℕ) → IsSound (first_with how b bs).0
unfolding first_with
first_with_sound how b bs = named_sound how (begun_name how.names (b ∷ bs)) b bs

lexemes_sound : (how : Dialect) (k c : ℕ) (bs : List ℕ) → ArePlacedSound (lexemes how k c bs)
unfolding lexemes
lexemes_sound how k c [] = tt
lexemes_sound how (suc k) c (b ∷ bs) = lexemes_sound how k (suc c) bs
lexemes_sound how zero c (b ∷ bs) = go (is_blank b) (lexemes_sound how zero (suc c) bs) (lexemes_sound how (first_with how b bs).1 (suc c) bs)
  where
    go : (x : Bool) → ArePlacedSound (lexemes how zero (suc c) bs) → ArePlacedSound (lexemes how (first_with how b bs).1 (suc c) bs)
        → ArePlacedSound (cond x (lexemes how zero (suc c) bs) (record { column = c; lexeme = (first_with how b bs).0 } ∷ lexemes how (first_with how b bs).1 (suc c) bs))
    go true h i = h
    go false h i = (first_with_sound how b bs, i)

-- what the reader gives is formed well
pub given_formed : (a : Ask) (how : Dialect) (line : List ℕ) (c : ℕ) (bs : List ℕ) (t : Tree) → outcome line a (lexemes how 0 c bs) start ≡ asks a t → IsWellFormed t
given_formed a how line c bs t e = outcome_formed (found line a [] (lexemes how 0 c bs) start refl) t e tt (lexemes_sound how 0 c bs)

pub sized_fits : (a : Ask) (line : List ℕ) (t : Tree) → IsWellFormed t → sized a t ≡ asks a t
sized_fits a line t w = go (nat_lt most_size (size t)) refl
  where
    go : (b : Bool) → nat_lt most_size (size t) ≡ b → cond b too_many_nodes (asks a t) ≡ asks a t
    go true h = let k = ltb-true _ _ h in let l = w.within in absurd (omega arith)
    go false h = refl

pub sized_large : (a : Ask) (how : Dialect) (line : List ℕ) (c : ℕ) (bs : List ℕ) (t : Tree) → outcome line a (lexemes how 0 c bs) start ≡ sized a t
    → (IsWellFormed t → ⊥) → outcome line a (lexemes how 0 c bs) start ≡ too_many_nodes
sized_large a how line c bs t e n = go (nat_lt most_size (size t)) refl
  where
    go : (b : Bool) → nat_lt most_size (size t) ≡ b → outcome line a (lexemes how 0 c bs) start ≡ too_many_nodes
    go true h = e ∙ ap (λ (b : Bool). cond b too_many_nodes (asks a t)) h
    go false h = absurd (n (given_formed a how line c bs t (e ∙ ap (λ (b : Bool). cond b too_many_nodes (asks a t)) h)))
