-- Each line has a reading.
use Rattle.eb_fields.specs.Dialect.{Dialect}
use Rattle.std.proofs.Common.{◌≡◌, ℕ, ◌+◌, nat_lt, Bool, true, false, true≢false, ◌⊎◌, inl, inr, List, [], ◌∷◌, drop, Option, Some, None, refl, sym, ◌∙◌, arith, ltb-false}
use Rattle.std.proofs.lemmas.Bool.{ltb-true}
use Rattle.eb_base.specs.Match.{most_matches}
use Rattle.eb_query.specs.Lexemes.{Placed, lexemes}
use Rattle.eb_query.specs.Head.{is_count, counts_in, range_text, range_len, IsHead}
use Rattle.eb_query.specs.declared.ask.Ask.{Ask}
use Rattle.eb_query.specs.declared.ask.Ask.TheVariants.{Newest}
use Rattle.eb_query.specs.Number.{digits_len, number_in_line, is_blank_or_end, HasNumberUpTo, HasQueryNumber, HasWatchNumber, lexemes_of_line}
use Rattle.eb_query.specs.Reading.{Outcome, bad_number, ReadsWith, without_number, with_number}
use Rattle.eb_query.specs.WatchLine as watch
use Rattle.eb_query.specs.WatchLine.{WatchOutcome, ReadsWatchWith, removes, reads, alone, with_text}
use Rattle.eb_query.specs.Machine.{outcome, start}
use Rattle.eb_query.proofs.Outcomes.{found}

has_number_up_to : (digits most : ℕ) (line : List ℕ) → HasNumberUpTo digits most line ⊎ (HasNumberUpTo digits most line → ⊥)
has_number_up_to digits most line =
    go (nat_lt 0 (digits_len line)) refl (nat_lt digits (digits_len line)) refl (nat_lt most (number_in_line line)) refl (is_blank_or_end (drop (1 + digits_len line) line)) refl
  where
    go : (a : Bool) → nat_lt 0 (digits_len line) ≡ a → (b : Bool) → nat_lt digits (digits_len line) ≡ b → (c : Bool) → nat_lt most (number_in_line line) ≡ c
        → (d : Bool) → is_blank_or_end (drop (1 + digits_len line) line) ≡ d → HasNumberUpTo digits most line ⊎ (HasNumberUpTo digits most line → ⊥)
    go false p b q c r d s = inr (λ h. let i = ltb-false _ _ p in let j = h.some in omega arith)
    go true p true q c r d s = inr (λ h. let i = ltb-true _ _ q in let j = h.few in omega arith)
    go true p false q true r d s = inr (λ h. let i = ltb-true _ _ r in let j = h.within in omega arith)
    go true p false q false r false s = inr (λ h. true≢false (sym h.apart ∙ s))
    go true p false q false r true s = inl (record { some = ltb-true _ _ p; few = ltb-false _ _ q; within = ltb-false _ _ r; apart = s })

has_number : (line : List ℕ) → HasQueryNumber line ⊎ (HasQueryNumber line → ⊥)
has_number line = go (has_number_up_to 4 most_matches line) (nat_lt 0 (number_in_line line)) refl
  where
    go : HasNumberUpTo 4 most_matches line ⊎ (HasNumberUpTo 4 most_matches line → ⊥) → (b : Bool) → nat_lt 0 (number_in_line line) ≡ b → HasQueryNumber line ⊎ (HasQueryNumber line → ⊥)
    go (inr n) b e = inr (λ h. n h.up_to)
    go (inl u) true e = inl (record { up_to = u; positive = ltb-true _ _ e })
    go (inl u) false e = inr (λ h. let i = ltb-false _ _ e in let j = h.positive in omega arith)

some_head_by : (counts : Bool) (line : List ℕ) → ((a : Ask) × (n : ℕ) × IsHead counts line a n) ⊎ ((a : Ask) (n : ℕ) → IsHead counts line a n → ⊥)
some_head_by true line = go (counts_in (range_text line)) refl
  where
    go : (x : Option Ask) → counts_in (range_text line) ≡ x → ((a : Ask) × (n : ℕ) × IsHead true line a n) ⊎ ((a : Ask) (n : ℕ) → IsHead true line a n → ⊥)
    go None e = inr (λ a n h. let no = sym e ∙ h.0 in cc)
    go (Some a) e = inl (a, 1 + range_len line, (e, refl))
some_head_by false line =
    elim (has_number line) [
      | inl h ↦ inl (Newest (number_in_line line), 1 + digits_len line, (h, refl, refl))
      | inr n ↦ inr (λ a m h. n h.0)
    ]

pub some_outcome : (how : Dialect) (line : List ℕ) → (o : Outcome) × ReadsWith how line o
some_outcome how line =
    elim (some_head_by (is_count how line) line) [
      | inl (a, n, h) ↦ (outcome line a (lexemes how 0 (n + 1) (drop n line)) start, with_number n h (found line a [] (lexemes how 0 (n + 1) (drop n line)) start refl))
      | inr n ↦ (bad_number, without_number n)
    ]

pub some_watch_outcome : (how : Dialect) (line : List ℕ) → (o : WatchOutcome) × ReadsWatchWith how line o
some_watch_outcome how line = go (has_number_up_to 10 4294967295 line) (lexemes_of_line how line) refl
  where
    go : HasWatchNumber line ⊎ (HasWatchNumber line → ⊥) → (ps : List Placed) → lexemes_of_line how line ≡ ps → (o : WatchOutcome) × ReadsWatchWith how line o
    go (inr n) ps e = (reads bad_number, watch.without_number n)
    go (inl h) [] e = (removes (number_in_line line), alone h e)
    go (inl h) (p ∷ ps) e =
        let some : lexemes_of_line how line ≡ [] → ⊥ = λ none. cc in
        (reads (outcome line (Newest (number_in_line line)) (lexemes_of_line how line) start), with_text h some (found line (Newest (number_in_line line)) [] (lexemes_of_line how line) start refl))
