-- The grammar over what is written.
use Rattle.std.proofs.Common.{◌≡◌, ℕ, suc, ◌≤◌, List, [], ◌∷◌, ◌++◌, length, refl, sym, ap, ◌∙◌, arith, subst, append_assoc, append-nil}
use Rattle.eb_base.specs.Query.{Tree, word, phrase, window, since, negation, conjunction, disjunction, Trees, no_trees}
use Rattle.eb_base.specs.Query.{trees, trees_of, and_of, or_of, size, IsFormed, AreFormed, AreSeveral, most_size}
use Rattle.eb_query.specs.Grammar.{Lexeme, opening, closing, minus, or_word, leaf, broken, IsUnary, a_leaf, a_minus, a_group, IsAnd, last, beside, IsOr, final, either, GivesTree}
use Rattle.eb_query.specs.Lexemes.{Placed}
use Rattle.eb_query.specs.Nesting.{Open, group, completed, closed, open_after, IsOpener, NestsWithin}
use Rattle.eb_query.specs.declared.ask.Ask.{Ask}
use Rattle.eb_query.specs.Reading.{asks, IsOutcome, stands, complete}
use Rattle.eb_query.specs.Nesting as nestings
use Rattle.eb_query.proofs.WrittenLexemes.{unary_lexemes, part_lexemes, and_lexemes, or_lexemes, or_more_lexemes, query_lexemes}
use Rattle.eb_query.proofs.Written.{kinds}

abbrev list : Trees → List Tree
list no_trees = []
list (trees t ts) = t ∷ list ts

trees_list : (ts : Trees) → trees_of (list ts) ≡ ts
trees_list no_trees = refl
trees_list (trees t ts) = ap (trees t) (trees_list ts)

and_list : (ts : Trees) → AreSeveral ts → and_of (list ts) ≡ conjunction ts
and_list no_trees h = absurd h
and_list (trees t no_trees) h = absurd h
and_list (trees t (trees u ts)) h = ap (λ (us : Trees). conjunction (trees t (trees u us))) (trees_list ts)

or_list : (ts : Trees) → AreSeveral ts → or_of (list ts) ≡ disjunction ts
or_list no_trees h = absurd h
or_list (trees t no_trees) h = absurd h
or_list (trees t (trees u ts)) h = ap (λ (us : Trees). disjunction (trees t (trees u us))) (trees_list ts)

-- an and before rest that is this tree
IsPart : List Lexeme → Tree → List Lexeme → Type 0
IsPart ls t rest = (ts : List Tree) × IsAnd ls ts rest × (and_of ts ≡ t)

grouped : (ls rest : List Lexeme) (ts : List Tree) (t : Tree) → IsOr (ls ++ closing ∷ rest) ts (closing ∷ rest) → or_of ts ≡ t → IsUnary ((opening ∷ ls ++ closing ∷ []) ++ rest) t rest
grouped ls rest ts t o e =
    subst (λ (u : Tree). IsUnary (opening ∷ ((ls ++ closing ∷ []) ++ rest)) u rest) e
    (subst (λ (ks : List Lexeme). IsUnary (opening ∷ ks) (or_of ts) rest) (sym (append_assoc ls (closing ∷ []) rest)) (a_group o))

mutual
  unfolding IsPart

  unary_derives : (t : Tree) (rest : List Lexeme) → IsFormed t → IsUnary (unary_lexemes t ++ rest) t rest
  unary_derives (word t) rest f = a_leaf
  unary_derives (phrase ts) rest f = a_leaf
  unary_derives (window ts w) rest f = a_leaf
  unary_derives (since x) rest f = a_leaf
  unary_derives (negation t) rest f = a_minus (unary_derives t rest f)
  unary_derives (conjunction ts) rest f = grouped (and_lexemes ts) rest (and_of (list ts) ∷ []) (conjunction ts) (final (and_derives ts (closing ∷ rest) f.0 f.1)) (and_list ts f.0)
  unary_derives (disjunction ts) rest f = grouped (or_lexemes ts) rest (list ts) (disjunction ts) (or_derives ts (closing ∷ rest) f.0 f.1) (or_list ts f.0)

  part_derives : (t : Tree) (rest : List Lexeme) → IsFormed t → IsPart (part_lexemes t ++ rest) t rest
  part_derives (word t) rest f = (word t ∷ [], last a_leaf, refl)
  part_derives (phrase ts) rest f = (phrase ts ∷ [], last a_leaf, refl)
  part_derives (window ts w) rest f = (window ts w ∷ [], last a_leaf, refl)
  part_derives (since x) rest f = (since x ∷ [], last a_leaf, refl)
  part_derives (negation t) rest f = (negation t ∷ [], last (a_minus (unary_derives t rest f)), refl)
  part_derives (conjunction ts) rest f = (list ts, and_derives ts rest f.0 f.1, and_list ts f.0)
  part_derives (disjunction ts) rest f =
      (disjunction ts ∷ [], last (grouped (or_lexemes ts) rest (list ts) (disjunction ts) (or_derives ts (closing ∷ rest) f.0 f.1) (or_list ts f.0)), refl)

  and_derives : (ts : Trees) (rest : List Lexeme) → AreSeveral ts → AreFormed ts → IsAnd (and_lexemes ts ++ rest) (list ts) rest
  and_derives no_trees rest s f = absurd s
  and_derives (trees t ts) rest s f =
      subst (λ (ks : List Lexeme). IsAnd ks (t ∷ list ts) rest) (sym (append_assoc (unary_lexemes t) (and_lexemes ts) rest))
      (and_more ts rest (unary_lexemes t ++ (and_lexemes ts ++ rest)) t f.1 (unary_derives t (and_lexemes ts ++ rest) f.0))

  and_more : (ts : Trees) (rest xs : List Lexeme) (t : Tree) → AreFormed ts → IsUnary xs t (and_lexemes ts ++ rest) → IsAnd xs (t ∷ list ts) rest
  and_more no_trees rest xs t f u = last u
  and_more (trees v ts) rest xs t f u =
      beside u (subst (λ (ks : List Lexeme). IsAnd ks (v ∷ list ts) rest) (sym (append_assoc (unary_lexemes v) (and_lexemes ts) rest))
      (and_more ts rest (unary_lexemes v ++ (and_lexemes ts ++ rest)) v f.1 (unary_derives v (and_lexemes ts ++ rest) f.0)))

  or_derives : (ts : Trees) (rest : List Lexeme) → AreSeveral ts → AreFormed ts → IsOr (or_lexemes ts ++ rest) (list ts) rest
  or_derives no_trees rest s f = absurd s
  or_derives (trees t ts) rest s f =
      let p = part_derives t (or_more_lexemes ts ++ rest) f.0 in
      subst (λ (ks : List Lexeme). IsOr ks (t ∷ list ts) rest) (sym (append_assoc (part_lexemes t) (or_more_lexemes ts) rest))
      (subst (λ (u : Tree). IsOr (part_lexemes t ++ (or_more_lexemes ts ++ rest)) (u ∷ list ts) rest) p.2 (or_more ts rest (part_lexemes t ++ (or_more_lexemes ts ++ rest)) p.0 f.1 p.1))

  or_more : (ts : Trees) (rest xs : List Lexeme) (us : List Tree) → AreFormed ts → IsAnd xs us (or_more_lexemes ts ++ rest) → IsOr xs (and_of us ∷ list ts) rest
  or_more no_trees rest xs us f a = final a
  or_more (trees v ts) rest xs us f a =
      let p = part_derives v (or_more_lexemes ts ++ rest) f.0 in
      let b = subst (λ (ks : List Lexeme). IsAnd xs us (or_word ∷ ks)) (append_assoc (part_lexemes v) (or_more_lexemes ts) rest) a in
      subst (λ (u : Tree). IsOr xs (and_of us ∷ u ∷ list ts) rest) p.2 (either b (or_more ts rest (part_lexemes v ++ (or_more_lexemes ts ++ rest)) p.0 f.1 p.1))

-- the whole text gives the query
pub query_derives : (t : Tree) → IsFormed t → GivesTree (query_lexemes t) t
query_derives (word t) f = (word t ∷ [], final (last a_leaf), refl)
query_derives (phrase ts) f = (phrase ts ∷ [], final (last a_leaf), refl)
query_derives (window ts w) f = (window ts w ∷ [], final (last a_leaf), refl)
query_derives (since x) f = (since x ∷ [], final (last a_leaf), refl)
query_derives (negation t) f =
    (negation t ∷ [], final (last (a_minus (subst (λ (ks : List Lexeme). IsUnary ks t []) (append-nil (unary_lexemes t)) (unary_derives t [] f)))), refl)
query_derives (conjunction ts) f =
    (and_of (list ts) ∷ [], final (subst (λ (ks : List Lexeme). IsAnd ks (list ts) []) (append-nil (and_lexemes ts)) (and_derives ts [] f.0 f.1)), sym (and_list ts f.0))
query_derives (disjunction ts) f =
    (list ts, subst (λ (ks : List Lexeme). IsOr ks (list ts) []) (append-nil (or_lexemes ts)) (or_derives ts [] f.0 f.1), sym (or_list ts f.0))

opened : (before : List Lexeme) (l : Lexeme) (os : List Open) → IsOpener l → length (open_after (before ++ l ∷ []) os) ≡ suc (length (open_after before os))
opened [] opening os i = refl
opened [] minus os i = refl
opened [] closing os i = absurd i
opened [] or_word os i = absurd i
opened [] (leaf t) os i = absurd i
opened [] broken os i = absurd i
opened (opening ∷ ls) l os i = opened ls l (group ∷ os) i
opened (minus ∷ ls) l os i = opened ls l (nestings.negation ∷ os) i
opened (leaf t ∷ ls) l os i = opened ls l (completed os) i
opened (closing ∷ ls) l os i = opened ls l (closed os) i
opened (or_word ∷ ls) l os i = opened ls l os i
opened (broken ∷ ls) l os i = opened ls l os i

-- a text that gives a query and doesn't nest too deep has this outcome
pub reads : (line : List ℕ) (a : Ask) (t : Tree) → size t ≤ most_size → (before : List Lexeme) (ps : List Placed)
    → GivesTree (before ++ kinds ps) t → NestsWithin (before ++ kinds ps) → IsOutcome line a before ps (asks a t)
reads line a t fits before [] g n = complete (subst (λ (ks : List Lexeme). GivesTree ks t) (append-nil before) g) fits
reads line a t fits before (p ∷ ps) g n =
    let e : before ++ p.lexeme ∷ kinds ps ≡ (before ++ p.lexeme ∷ []) ++ kinds ps = sym (append_assoc before (p.lexeme ∷ []) (kinds ps)) in
    let h = subst (λ (ks : List Lexeme). GivesTree ks t) e g in
    stands (kinds ps, t, h) (λ i. let o = opened before p.lexeme [] i in let m = n (before ++ p.lexeme ∷ []) (kinds ps) e in omega arith)
    (reads line a t fits (before ++ p.lexeme ∷ []) ps h (λ xs ys k. n xs ys (e ∙ k)))
