-- The outcome that the machine finds is the one of the rules.
use Rattle.std.proofs.Common.{ltb-false, leb-false, ◌≡◌, ℕ, zero, suc, ◌+◌, ◌<◌, ◌≤◌, nat_lt, Bool, true, false, cond}
use Rattle.std.proofs.Common.{List, [], ◌∷◌, ◌++◌, length, Option, Some, None, option_and_then, refl, ◌∙◌, ap, arith}
use Rattle.std.proofs.lemmas.Bool.{ltb-true, leb-true}
use Rattle.eb_base.specs.Query.{Tree, size, or_of, most_size}
use Rattle.eb_query.specs.Grammar.{Lexeme, opening, closing, minus, or_word, leaf, broken}
use Rattle.eb_query.specs.Lexemes.{Placed}
use Rattle.eb_query.specs.Nesting.{Open, group, negation, completed, closed, open_after, nesting, IsOpener, most_open}
use Rattle.eb_query.specs.declared.ask.Ask.{Ask}
use Rattle.eb_query.specs.Reading.{asks, too_many_nodes, IsOutcome, stands, cannot_stand, stands_too_deep, incomplete, large, complete}
use Rattle.eb_query.proofs.Machine as machine
use Rattle.eb_query.proofs.Machine.{run_append}
use Rattle.eb_query.specs.Machine.{Level, level, State, state, step, run, finish, start, taken, parts, depth, nest, ending, stepped, is_deep, outcome}

abbrev over : ℕ → List Open → List Open
over zero os = os
over (suc m) os = negation ∷ over m os

abbrev under : List Level → List Open
under [] = []
under (level ors ands m ∷ below) = group ∷ over m (under below)

abbrev openers : State → List Open
openers (state (level ors ands m) below) = over m (under below)

completed_over : (m : ℕ) (os : List Open) → completed (over m os) ≡ completed os
completed_over zero os = refl
completed_over (suc m) os = completed_over m os

completed_under : (below : List Level) → completed (under below) ≡ under below
completed_under [] = refl
completed_under (level ors ands m ∷ below) = refl

closed_over : (m : ℕ) (os : List Open) → closed (over m os) ≡ closed os
closed_over zero os = refl
closed_over (suc m) os = closed_over m os

after_leaf : (m : ℕ) (below : List Level) → completed (over m (under below)) ≡ under below
after_leaf m below = completed_over m (under below) ∙ completed_under below

openers_run : (ls : List Lexeme) (l : Level) (below : List Level) (s : State) → run ls (state l below) ≡ Some s → open_after ls (openers (state l below)) ≡ openers s
openers_run [] (level ors ands m) below (state (level ps bs n) under') e =
    let k : state (level ors ands m) below ≡ state (level ps bs n) under' = cc in ap openers k
openers_run (opening ∷ ls) (level ors ands m) below s e = openers_run ls (level [] [] 0) (level ors ands m ∷ below) s e
openers_run (minus ∷ ls) (level ors ands m) below s e = openers_run ls (level ors ands (suc m)) below s e
openers_run (leaf u ∷ ls) (level ors ands m) below s e = ap (open_after ls) (after_leaf m below) ∙ openers_run ls (taken u (level ors ands m)) below s e
openers_run (broken ∷ ls) l below s e = cc
openers_run (or_word ∷ ls) (level ors [] m) below s e = cc
openers_run (or_word ∷ ls) (level ors (u ∷ ts) (suc m)) below s e = cc
openers_run (or_word ∷ ls) (level ors (u ∷ ts) zero) below s e = openers_run ls (level (parts ors (u ∷ ts)) [] 0) below s e
openers_run (closing ∷ ls) l [] s e = cc
openers_run (closing ∷ ls) (level ors [] m) (b ∷ below) s e = cc
openers_run (closing ∷ ls) (level ors (u ∷ ts) (suc m)) (b ∷ below) s e = cc
openers_run (closing ∷ ls) (level ors (u ∷ ts) zero) (level os bs m ∷ below) s e =
    ap (open_after ls) (after_leaf m below) ∙ openers_run ls (taken (or_of (parts ors (u ∷ ts))) (level os bs m)) below s e

length-over : (m : ℕ) (os : List Open) → length (over m os) ≡ m + length os
length-over zero os = omega arith
length-over (suc m) os = let e = length-over m os in omega arith

length-under : (below : List Level) → length (under below) ≡ depth below
length-under [] = refl
length-under (level ors ands m ∷ below) = let e = length-over m (under below) in let h = length-under below in omega arith

nest_is : (s : State) → length (openers s) ≡ nest s
nest_is (state (level ors ands m) below) = let e = length-over m (under below) in let h = length-under below in omega arith

nesting_is : (ls : List Lexeme) (s : State) → run ls start ≡ Some s → nesting ls ≡ nest s
nesting_is ls s e = ap length (openers_run ls (level [] [] 0) [] s e) ∙ nest_is s

run_one : (before : List Lexeme) (l : Lexeme) (s : State) → run before start ≡ Some s → run (before ++ l ∷ []) start ≡ step l s
run_one before l s e = run_append before (l ∷ []) start ∙ ap (option_and_then (run (l ∷ []))) e ∙ go (step l s)
  where
    go : (o : Option State) → option_and_then (run []) o ≡ o
    go None = refl
    go (Some r) = refl

ended : (line : List ℕ) (a : Ask) (before : List Lexeme) (o : Option Tree) → option_and_then finish (run before start) ≡ o → IsOutcome line a before [] (ending line a o)
ended line a before None e = incomplete (λ t g. let h = machine.complete g in cc)
ended line a before (Some t) e = go (nat_lt most_size (size t)) refl
  where
    go : (b : Bool) → nat_lt most_size (size t) ≡ b → IsOutcome line a before [] (cond b too_many_nodes (asks a t))
    go true h = large (machine.sound before t e) (ltb-true _ _ h)
    go false h = complete (machine.sound before t e) (ltb-false _ _ h)

deep_is : (l : Lexeme) (s : State) → is_deep l s ≡ true → IsOpener l × (most_open ≤ nest s)
deep_is opening s h = (tt, leb-true _ _ h)
deep_is minus s h = (tt, leb-true _ _ h)
deep_is closing s h = cc
deep_is or_word s h = cc
deep_is (leaf t) s h = cc
deep_is broken s h = cc

not_deep : (l : Lexeme) (s : State) → is_deep l s ≡ false → IsOpener l → nest s < most_open
not_deep opening s h i = leb-false _ _ h
not_deep minus s h i = leb-false _ _ h
not_deep closing s h i = absurd i
not_deep or_word s h i = absurd i
not_deep (leaf t) s h i = absurd i
not_deep broken s h i = absurd i

-- From a state that these lexemes lead to, the machine finds the outcome of the rules.
pub found : (line : List ℕ) (a : Ask) (before : List Lexeme) (ps : List Placed) (s : State) → run before start ≡ Some s → IsOutcome line a before ps (outcome line a ps s)
found line a before [] s e = ended line a before (finish s) (ap (option_and_then finish) e)
found line a before (p ∷ ps) s e = go (λ r h. found line a (before ++ p.lexeme ∷ []) ps r h) (step p.lexeme s) refl (is_deep p.lexeme s) refl
  where
    go : ((r : State) → run (before ++ p.lexeme ∷ []) start ≡ Some r → IsOutcome line a (before ++ p.lexeme ∷ []) ps (outcome line a ps r))
        → (o : Option State) → step p.lexeme s ≡ o → (b : Bool) → is_deep p.lexeme s ≡ b → IsOutcome line a before (p ∷ ps) (stepped (outcome line a ps) p.column b o)
    go more None h b k = cannot_stand (machine.stops (before ++ p.lexeme ∷ []) (run_one before p.lexeme s e ∙ h))
    go more (Some r) h true k =
        let d = deep_is p.lexeme s k in
        stands_too_deep (machine.continues (before ++ p.lexeme ∷ []) r (run_one before p.lexeme s e ∙ h)) d.0 (rw (nesting_is before s e) d.1)
    go more (Some r) h false k =
        let run_is = run_one before p.lexeme s e ∙ h in
        stands (machine.continues (before ++ p.lexeme ∷ []) r run_is) (λ i. rw (nesting_is before s e) (not_deep p.lexeme s k i)) (more r run_is)
