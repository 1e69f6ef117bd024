-- From what the reader finds to what the line reads as.
use Rattle.eb_fields.specs.Dialect.{Dialect}
use Rattle.std.proofs.Common.{◌≡◌, ℕ, suc, ◌+◌, Bool, true, false, true≢false, ◌&&◌, cond, List, [], ◌∷◌, drop, Result, Ok, Err, IsErrAnd, IfErr, subst, ap, ◌∙◌, refl, sym, arith}
use Rattle.std.specs.List.{list_all}
use Rattle.eb_base.specs.Query.{tree}
use Rattle.eb_base.specs.declared.query.Query.{Query}
use Rattle.eb_query.specs.Lexemes.{Placed, is_blank, lexemes}
use Rattle.std.proofs.lemmas.Bool.{leb-true}
use Rattle.std.proofs.Common.{Option, Some, None, nat_le}
use Rattle.std.specs.Prelude.{option_and_then}
use Rattle.eb_fields.specs.Ids.{id_of}
use Rattle.eb_query.specs.Head.{parts_round, number_of, are_buckets, buckets_by, buckets_in, counts_in, range_text, most_buckets, IsHead, HasHead, IsWithin}
use Rattle.eb_query.specs.declared.ask.Ask.{Ask}
use Rattle.eb_query.specs.declared.ask.Ask.TheVariants.{Newest, Counts}
use Rattle.eb_query.specs.Number.{HasWatchNumber, digits_len, number_in_line, lexemes_of_line}
use Rattle.eb_query.specs.Reading.{Outcome, IsOutcome, ReadsWith, with_number, asks, bad_query, too_deep, too_many_nodes}
use Rattle.eb_query.specs.Refusal.{IsFaultOf, IsRefusedWith, IsWatchRefusedWith}
use Rattle.eb_query.specs.WatchLine.{ReadsWatchWith, removes, reads, alone, with_text}
use Rattle.eb_query.specs.Machine.{outcome, start}
use Rattle.eb_query.specs.Views.{Finds}
use Rattle.eb_query.specs.declared.read.QueryFault.{QueryFault}
use Rattle.eb_query.specs.declared.read.QueryFault.TheVariants as faults
use Rattle.eb_query.proofs.Outcomes.{found}

pub text_lexemes : (how : Dialect) (line : List ℕ) (from : ℕ) → from ≡ 1 + digits_len line → lexemes how 0 (from + 1) (drop from line) ≡ lexemes_of_line how line
unfolding lexemes_of_line
text_lexemes how line from e =
    let f : from + 1 ≡ 2 + digits_len line = omega (arith, e) in
    ap (λ (c : ℕ). lexemes how 0 c (drop from line)) f ∙ ap (λ (k : ℕ). lexemes how 0 (2 + digits_len line) (drop k line)) e

-- the outcome that the reader finds for the query text
text_found : (a : Ask) (how : Dialect) (line : List ℕ) (from : ℕ) (o : Outcome) → outcome line a (lexemes how 0 (from + 1) (drop from line)) start ≡ o
    → IsOutcome line a [] (lexemes how 0 (from + 1) (drop from line)) o
text_found a how line from o q =
    subst (λ (x : Outcome). IsOutcome line a [] (lexemes how 0 (from + 1) (drop from line)) x) q (found line a [] (lexemes how 0 (from + 1) (drop from line)) start refl)

-- what a fault of the query text says of the line
text_fault : (a : Ask) (how : Dialect) (line : List ℕ) (from : ℕ) (Holds : Outcome → Type 0)
    → ((o : Outcome) → IsOutcome line a [] (lexemes how 0 (from + 1) (drop from line)) o → Holds o) → (f : QueryFault)
    → Finds a (outcome line a (lexemes how 0 (from + 1) (drop from line)) start) (Err f) → IsFaultOf Holds f
text_fault a how line from Holds gives faults.BadNumber q = absurd q
text_fault a how line from Holds gives (faults.BadQuery c) q = gives (bad_query c) (text_found a how line from (bad_query c) q)
text_fault a how line from Holds gives faults.TooDeep q = gives too_deep (text_found a how line from too_deep q)
text_fault a how line from Holds gives faults.TooManyNodes q = gives too_many_nodes (text_found a how line from too_many_nodes q)
text_fault a how line from Holds gives faults.NoMemory q = tt

-- what a query line asks
pub asked : (how : Dialect) (line : List ℕ) (a : Ask) (from : ℕ) (q : Query) → HasHead how line a from
    → Finds a (outcome line a (lexemes how 0 (from + 1) (drop from line)) start) (Ok q) → ReadsWith how line (asks a (tree q))
asked how line a from q h f = with_number from h (text_found a how line from (asks a (tree q)) f)

-- why it is refused
pub faulted : (how : Dialect) (line : List ℕ) (a : Ask) (from : ℕ) → HasHead how line a from → (f : QueryFault)
    → Finds a (outcome line a (lexemes how 0 (from + 1) (drop from line)) start) (Err f) → IsRefusedWith how line f
faulted how line a from h f q = text_fault a how line from (ReadsWith how line) (λ o r. with_number from h r) f q

-- a query line asks what is within the bounds
pub within_by : (counts : Bool) (line : List ℕ) (a : Ask) (n : ℕ) → IsHead counts line a n → IsWithin a
unfolding buckets_in buckets_by
within_by false line a n h = subst IsWithin (sym h.1) (h.0.positive, h.0.up_to.within)
within_by true line a n h = counts_within (range_text line) a h.0
  where
    numbers : (x w n : ℕ) (a : Ask) → are_buckets x w n ≡ Some a → IsWithin a
    numbers x w n a e = go (nat_le 1 w) refl (nat_le 1 n) (nat_le n most_buckets) refl e
      where
        go : (p : Bool) → nat_le 1 w ≡ p → (q r : Bool) → nat_le n most_buckets ≡ r → cond (p && (q && r)) (Some (Counts x w n)) None ≡ Some a → IsWithin a
        go true i true true j e = let same : Counts x w n ≡ a = cc in subst IsWithin same (leb-true _ _ i, leb-true _ _ j)
        go false i q r j e = let no : ⊥ = cc in absurd no
        go true i false r j e = let no : ⊥ = cc in absurd no
        go true i true false j e = let no : ⊥ = cc in absurd no

    texts : (x w n : Option ℕ) (a : Ask) → option_and_then (λ a. option_and_then (λ b. option_and_then (are_buckets a b) n) w) x ≡ Some a → IsWithin a
    texts (Some x) (Some w) (Some n) a e = numbers x w n a e
    texts (Some x) (Some w) None a e = let no : ⊥ = cc in absurd no
    texts (Some x) None n a e = let no : ⊥ = cc in absurd no
    texts None w n a e = let no : ⊥ = cc in absurd no

    second : (x : List ℕ) (p : Option (List ℕ × List ℕ)) (a : Ask) → option_and_then (λ (q : List ℕ × List ℕ). buckets_by x q.0 q.1) p ≡ Some a → IsWithin a
    second x (Some q) a e = texts (id_of x) (id_of q.0) (number_of q.1) a e
    second x None a e = let no : ⊥ = cc in absurd no

    first : (p : Option (List ℕ × List ℕ)) (a : Ask)
        → option_and_then (λ (p : List ℕ × List ℕ). option_and_then (λ (q : List ℕ × List ℕ). buckets_by p.0 q.0 q.1) (parts_round 42 p.1)) p ≡ Some a → IsWithin a
    first (Some p) a e = second p.0 (parts_round 42 p.1) a e
    first None a e = let no : ⊥ = cc in absurd no

    counts_within : (text : List ℕ) (a : Ask) → counts_in text ≡ Some a → IsWithin a
    counts_within [] a e = let same : Counts 0 1 0 ≡ a = cc in subst IsWithin same (omega arith, omega arith)
    counts_within (b ∷ bs) a e = first (parts_round 43 (b ∷ bs)) a e

-- nothing but blanks gives no lexeme
blanks : (how : Dialect) (c : ℕ) (bs : List ℕ) → list_all is_blank bs ≡ true → lexemes how 0 c bs ≡ []
unfolding lexemes
blanks how c [] h = refl
blanks how c (b ∷ bs) h = go (λ g. blanks how (suc c) bs g) _ _ (is_blank b) h
  where
    go : (list_all is_blank bs ≡ true → lexemes how 0 (suc c) bs ≡ []) → (p : Placed) (ps : List Placed) (x : Bool) → (x && list_all is_blank bs) ≡ true
        → cond x (lexemes how 0 (suc c) bs) (p ∷ ps) ≡ []
    go more p ps true k = more k
    go more p ps false k = cc

-- where there is no lexeme, all are blanks
no_lexeme : (how : Dialect) (c : ℕ) (bs : List ℕ) → lexemes how 0 c bs ≡ [] → list_all is_blank bs ≡ true
unfolding lexemes
no_lexeme how c [] h = refl
no_lexeme how c (b ∷ bs) h = go (λ g. no_lexeme how (suc c) bs g) _ _ (is_blank b) h
  where
    go : (lexemes how 0 (suc c) bs ≡ [] → list_all is_blank bs ≡ true) → (p : Placed) (ps : List Placed) (x : Bool) → cond x (lexemes how 0 (suc c) bs) (p ∷ ps) ≡ []
        → (x && list_all is_blank bs) ≡ true
    go more p ps true k = more k
    go more p ps false k = cc

-- a watch line that has no query text
pub removed : (how : Dialect) (line : List ℕ) (from number : ℕ) → HasWatchNumber line → from ≡ 1 + digits_len line → number ≡ number_in_line line
    → list_all is_blank (drop from line) ≡ true → ReadsWatchWith how line (removes number)
removed how line from number h e n b = subst (λ (k : ℕ). ReadsWatchWith how line (removes k)) (sym n) (alone h (sym (text_lexemes how line from e) ∙ blanks how (from + 1) (drop from line) b))

-- the outcome of the text after the line's number
of_line : (how : Dialect) (line : List ℕ) (from number : ℕ) (o : Outcome) → from ≡ 1 + digits_len line → number ≡ number_in_line line
    → IsOutcome line (Newest number) [] (lexemes how 0 (from + 1) (drop from line)) o → IsOutcome line (Newest (number_in_line line)) [] (lexemes_of_line how line) o
of_line how line from number o e n r =
    subst (λ (ps : List Placed). IsOutcome line (Newest (number_in_line line)) [] ps o) (text_lexemes how line from e)
    (subst (λ (k : ℕ). IsOutcome line (Newest k) [] (lexemes how 0 (from + 1) (drop from line)) o) n r)

-- a watch line that has one
has_text : (how : Dialect) (line : List ℕ) (from : ℕ) → from ≡ 1 + digits_len line → list_all is_blank (drop from line) ≡ false → lexemes_of_line how line ≡ [] → ⊥
has_text how line from e b none = true≢false (sym (no_lexeme how (from + 1) (drop from line) (text_lexemes how line from e ∙ none)) ∙ b)

-- what it sets
pub watch_set : (how : Dialect) (line : List ℕ) (from number : ℕ) (q : Query) → HasWatchNumber line → from ≡ 1 + digits_len line → number ≡ number_in_line line
    → list_all is_blank (drop from line) ≡ false → Finds (Newest number) (outcome line (Newest number) (lexemes how 0 (from + 1) (drop from line)) start) (Ok q)
    → ReadsWatchWith how line (reads (asks (Newest number) (tree q)))
watch_set how line from number q h e n b f = with_text h (has_text how line from e b) (of_line how line from number (asks (Newest number) (tree q)) e n (text_found (Newest number) how line from _ f))

-- why it is refused
pub watch_faulted : (how : Dialect) (line : List ℕ) (from number : ℕ) → HasWatchNumber line → from ≡ 1 + digits_len line → number ≡ number_in_line line
    → list_all is_blank (drop from line) ≡ false → (f : QueryFault)
    → Finds (Newest number) (outcome line (Newest number) (lexemes how 0 (from + 1) (drop from line)) start) (Err f) → IsWatchRefusedWith how line f
watch_faulted how line from number h e n b f q =
    text_fault (Newest number) how line from (λ o. ReadsWatchWith how line (reads o)) (λ o r. with_text h (has_text how line from e b) (of_line how line from number o e n r)) f q

-- a fault that is passed up
pub handed_on : {T : Type 0} (Refused : QueryFault → Type 0) (f : QueryFault) (r : Result T QueryFault) → IsErrAnd r (λ g. g ≡ f) → Refused f → IfErr r Refused
handed_on Refused f (Ok x) a h = tt
handed_on Refused f (Err g) a h = subst Refused (sym a) h
