-- A line has one reading.
use Rattle.eb_fields.specs.Dialect.{Dialect}
use Rattle.std.proofs.Common.{◌≡◌, ℕ, ◌+◌, length, ◌<◌, ◌≤◌, ◌⊎◌, inl, inr, Bool, true, false, ◌&&◌, ◌==◌, List, [], ◌∷◌, ◌++◌, drop, Option, Some, refl, sym, ap, ap₂, subst, ◌∙◌, arith}
use Rattle.eb_base.specs.Query.{Tree, size, most_size}
use Rattle.eb_query.specs.Grammar.{Lexeme, GivesTree, Continues}
use Rattle.eb_query.specs.Lexemes.{Placed, lexemes}
use Rattle.eb_query.specs.Nesting.{nesting, IsOpener, most_open}
use Rattle.eb_query.specs.Number.{number_in_line, HasWatchNumber, lexemes_of_line}
use Rattle.eb_query.specs.Head.{is_count, IsHead, HasHead}
use Rattle.eb_query.specs.Laws.{NewestAlone}
use Rattle.eb_query.specs.declared.ask.Ask.{Ask}
use Rattle.eb_query.specs.declared.ask.Ask.TheVariants.{Newest}
use Rattle.eb_query.specs.Reading.{Outcome, asks, bad_query, too_deep, too_many_nodes, IsOutcome, ReadsWith, bad_number}
use Rattle.eb_query.specs.Reading.{without_number, with_number, stands, cannot_stand, stands_too_deep, incomplete, large, complete}
use Rattle.eb_query.specs.WatchLine as watch
use Rattle.eb_query.specs.WatchLine.{WatchOutcome, ReadsWatchWith, removes, reads, alone, with_text}
use Rattle.eb_query.proofs.Machine.{one_query}

-- what the rules say at one lexeme, and at the end
At : List ℕ → Ask → List Lexeme → List Placed → Outcome → Type 0
At line ask before [] o = ((o ≡ bad_query (length line + 1)) × ((t : Tree) → GivesTree before t → ⊥)) ⊎ (t : Tree) × GivesTree before t
    × (((o ≡ too_many_nodes) × (most_size < size t)) ⊎ ((o ≡ asks ask t) × (size t ≤ most_size)))
At line ask before (p ∷ ps) o = ((o ≡ bad_query p.column) × (Continues (before ++ p.lexeme ∷ []) → ⊥))
    ⊎ (Continues (before ++ p.lexeme ∷ [])
    × (((o ≡ too_deep) × IsOpener p.lexeme × (most_open ≤ nesting before)) ⊎ ((IsOpener p.lexeme → nesting before < most_open) × IsOutcome line ask (before ++ p.lexeme ∷ []) ps o)))

at_outcome : {line : List ℕ} {ask : Ask} {before : List Lexeme} {ps : List Placed} {o : Outcome} → IsOutcome line ask before ps o → At line ask before ps o
unfolding At
at_outcome (stands c n r) = inr (c, inr (n, r))
at_outcome (cannot_stand n) = inl (refl, n)
at_outcome (stands_too_deep c i d) = inr (c, inl (refl, i, d))
at_outcome (incomplete n) = inl (refl, n)
at_outcome (large {before} {t} g l) = inr (t, g, inl (refl, l))
at_outcome (complete {before} {t} g l) = inr (t, g, inr (refl, l))

end_same : (line : List ℕ) (ask : Ask) (before : List Lexeme) (a b : Outcome) → At line ask before [] a → At line ask before [] b → a ≡ b
unfolding At
end_same line ask before a b (inl h) (inl k) = h.0 ∙ sym k.0
end_same line ask before a b (inl h) (inr k) = absurd (h.1 k.0 k.1)
end_same line ask before a b (inr h) (inl k) = absurd (k.1 h.0 h.1)
end_same line ask before a b (inr h) (inr k) = go h.2 k.2
  where
    e : h.0 ≡ k.0
    e = one_query h.1 k.1

    s : size h.0 ≡ size k.0
    s = ap size e

    go : ((a ≡ too_many_nodes) × (most_size < size h.0)) ⊎ ((a ≡ asks ask h.0) × (size h.0 ≤ most_size))
        → ((b ≡ too_many_nodes) × (most_size < size k.0)) ⊎ ((b ≡ asks ask k.0) × (size k.0 ≤ most_size)) → a ≡ b
    go (inl x) (inl y) = x.0 ∙ sym y.0
    go (inl x) (inr y) = let i = x.1 in let j = y.1 in absurd (omega (arith, s))
    go (inr x) (inl y) = let i = x.1 in let j = y.1 in absurd (omega (arith, s))
    go (inr x) (inr y) = x.0 ∙ ap (asks ask) e ∙ sym y.0

same : (line : List ℕ) (ask : Ask) (ps : List Placed) (before : List Lexeme) (a b : Outcome) → IsOutcome line ask before ps a → IsOutcome line ask before ps b → a ≡ b
unfolding At
same line ask [] before a b h k = end_same line ask before a b (at_outcome h) (at_outcome k)
same line ask (p ∷ ps) before a b h k = go (λ i j. same line ask ps (before ++ p.lexeme ∷ []) a b i j) (at_outcome h) (at_outcome k)
  where
    deep : ((a ≡ too_deep) × IsOpener p.lexeme × (most_open ≤ nesting before)) ⊎ ((IsOpener p.lexeme → nesting before < most_open) × IsOutcome line ask (before ++ p.lexeme ∷ []) ps a)
        → ((b ≡ too_deep) × IsOpener p.lexeme × (most_open ≤ nesting before)) ⊎ ((IsOpener p.lexeme → nesting before < most_open) × IsOutcome line ask (before ++ p.lexeme ∷ []) ps b)
        → (IsOutcome line ask (before ++ p.lexeme ∷ []) ps a → IsOutcome line ask (before ++ p.lexeme ∷ []) ps b → a ≡ b) → a ≡ b
    deep (inl x) (inl y) m = x.0 ∙ sym y.0
    deep (inl x) (inr y) m = let i = x.2 in let j = y.0 x.1 in absurd (omega arith)
    deep (inr x) (inl y) m = let i = y.2 in let j = x.0 y.1 in absurd (omega arith)
    deep (inr x) (inr y) m = m x.1 y.1

    go : (IsOutcome line ask (before ++ p.lexeme ∷ []) ps a → IsOutcome line ask (before ++ p.lexeme ∷ []) ps b → a ≡ b) → At line ask before (p ∷ ps) a → At line ask before (p ∷ ps) b → a ≡ b
    go m (inl x) (inl y) = x.0 ∙ sym y.0
    go m (inl x) (inr y) = absurd (x.1 y.0)
    go m (inr x) (inl y) = absurd (y.1 x.0)
    go m (inr x) (inr y) = deep x.1 y.1 m

-- what the rules say of the whole line
Read : Dialect → List ℕ → Outcome → Type 0
Read how line o = ((o ≡ bad_number) × ((a : Ask) (n : ℕ) → HasHead how line a n → ⊥))
    ⊎ ((a : Ask) × (n : ℕ) × HasHead how line a n × IsOutcome line a [] (lexemes how 0 (n + 1) (drop n line)) o)

read_as : {how : Dialect} {line : List ℕ} {o : Outcome} → ReadsWith how line o → Read how line o
unfolding Read
read_as (without_number n) = inl (refl, n)
read_as (with_number {a} n h r) = inr (a, n, h, r)

-- a line has one head
one_ask : {x : Option Ask} {a b : Ask} → x ≡ Some a → x ≡ Some b → a ≡ b
one_ask e f = let same = sym e ∙ f in cc

one_head_by : (counts : Bool) (line : List ℕ) (a b : Ask) (m n : ℕ) → IsHead counts line a m → IsHead counts line b n → (a ≡ b) × (m ≡ n)
one_head_by true line a b m n h k = (one_ask h.0 k.0, h.1 ∙ sym k.1)
one_head_by false line a b m n h k = (h.1 ∙ sym k.1, h.2 ∙ sym k.2)

one_read : (how : Dialect) (line : List ℕ) (a b : Outcome) → Read how line a → Read how line b → a ≡ b
unfolding Read
one_read how line a b (inl x) (inl y) = x.0 ∙ sym y.0
one_read how line a b (inl x) (inr y) = absurd (x.1 y.0 y.1 y.2)
one_read how line a b (inr x) (inl y) = absurd (y.1 x.0 x.1 x.2)
one_read how line a b (inr (k, m, h, r)) (inr (l, n, i, s)) =
    let heads = one_head_by (is_count how line) line k l m n h i in
    same line l (lexemes how 0 (n + 1) (drop n line)) [] a b
    (subst (λ (x : Ask × ℕ). IsOutcome line x.0 [] (lexemes how 0 (x.1 + 1) (drop x.1 line)) a) (ap₂ (λ y z. (y, z)) heads.0 heads.1) r) s

pub one_outcome : (how : Dialect) (line : List ℕ) (a b : Outcome) → ReadsWith how line a → ReadsWith how line b → a ≡ b
one_outcome how line a b h k = one_read how line a b (read_as h) (read_as k)

-- where the dialect has no counts, a query line asks for the newest matches alone
no_count : (how : Dialect) (line : List ℕ) → how.counts ≡ false → is_count how line ≡ false
no_count how [] e = refl
no_count how (b ∷ bs) e = ap (λ x. x && b == 35) e

newest_head : (how : Dialect) (line : List ℕ) (a : Ask) (n : ℕ) → how.counts ≡ false → HasHead how line a n → (k : ℕ) × (a ≡ Newest k)
newest_head how line a n none h = let i : IsHead false line a n = subst (λ x. IsHead x line a n) (no_count how line none) h in (number_in_line line, i.1)

same_ask : {line : List ℕ} {a b : Ask} {t : Tree} {before : List Lexeme} {ps : List Placed} {o : Outcome} → IsOutcome line b before ps o → o ≡ asks a t → a ≡ b
same_ask (stands c n r) e = same_ask r e
same_ask (cannot_stand n) e = cc
same_ask (stands_too_deep c i d) e = cc
same_ask (incomplete n) e = cc
same_ask (large g l) e = cc
same_ask (complete g l) e = cc

pub newest_alone : NewestAlone
newest_alone how line a t none r = go r refl
  where
    go : {o : Outcome} → ReadsWith how line o → o ≡ asks a t → (k : ℕ) × (a ≡ Newest k)
    go (without_number h) e = let no : ⊥ = cc in absurd no
    go (with_number {a = b} n h o) e = newest_head how line a n none (subst (λ x. HasHead how line x n) (sym (same_ask o e)) h)

-- what the rules say of a watch line
WatchRead : Dialect → List ℕ → WatchOutcome → Type 0
WatchRead how line o = ((o ≡ reads bad_number) × (HasWatchNumber line → ⊥))
    ⊎ (HasWatchNumber line × (((lexemes_of_line how line ≡ []) × (o ≡ removes (number_in_line line)))
    ⊎ ((q : Outcome) × (lexemes_of_line how line ≡ [] → ⊥) × IsOutcome line (Newest (number_in_line line)) [] (lexemes_of_line how line) q × (o ≡ reads q))))

watch_read_as : {how : Dialect} {line : List ℕ} {o : WatchOutcome} → ReadsWatchWith how line o → WatchRead how line o
unfolding WatchRead
watch_read_as (watch.without_number n) = inl (refl, n)
watch_read_as (alone h e) = inr (h, inl (e, refl))
watch_read_as (with_text {o} h n r) = inr (h, inr (o, n, r, refl))

one_watch_read : (how : Dialect) (line : List ℕ) (a b : WatchOutcome) → WatchRead how line a → WatchRead how line b → a ≡ b
unfolding WatchRead
one_watch_read how line a b (inl x) (inl y) = x.0 ∙ sym y.0
one_watch_read how line a b (inl x) (inr y) = absurd (x.1 y.0)
one_watch_read how line a b (inr x) (inl y) = absurd (y.1 x.0)
one_watch_read how line a b (inr (h, inl x)) (inr (k, inl y)) = x.1 ∙ sym y.1
one_watch_read how line a b (inr (h, inl x)) (inr (k, inr y)) = absurd (y.1 x.0)
one_watch_read how line a b (inr (h, inr x)) (inr (k, inl y)) = absurd (x.1 y.0)
one_watch_read how line a b (inr (h, inr x)) (inr (k, inr y)) = x.3 ∙ ap reads (same line (Newest (number_in_line line)) (lexemes_of_line how line) [] x.0 y.0 x.2 y.2) ∙ sym y.3

pub one_watch_outcome : (how : Dialect) (line : List ℕ) (a b : WatchOutcome) → ReadsWatchWith how line a → ReadsWatchWith how line b → a ≡ b
one_watch_outcome how line a b h k = one_watch_read how line a b (watch_read_as h) (watch_read_as k)
