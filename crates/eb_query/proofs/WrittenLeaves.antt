-- The digits of a written window and of a written bound read back.
use Rattle.eb_fields.specs.Dialect.{plain}
use Rattle.std.proofs.Common.{◌≡◌, ℕ, suc, ◌+◌, ◌≤◌, true, false, List, [], ◌∷◌, ◌++◌, length, take, Some, refl, ap, ◌∙◌, arith, le-leb, eq-eqb, ne_eqb}
use Rattle.std.specs.List.{position_or_len}
use Rattle.eb_base.specs.Query.{since, most_reach}
use Rattle.eb_fields.specs.Digits.{is_no_digit}
use Rattle.eb_query.specs.Grammar.{Lexeme, leaf}
use Rattle.eb_query.specs.Lexemes.{ends_run, is_run_end, reach_by, reach_of, run_lexeme, first}
use Rattle.eb_fields.specs.Ids.{most_id, id_of}
use Rattle.eb_query.proofs.Cuts.{ends_run_by, first_bare, bare_is}
use Rattle.eb_fields.proofs.Decimals.{IsDecimal, AreDigits, in_range, digits_first, digits_all, front_taken, front_dropped}

-- where a run ends, there is no digit
pub end_no_digit : (bs : List ℕ) → is_run_end bs ≡ true → position_or_len is_no_digit bs ≡ 0
end_no_digit [] h = refl
end_no_digit (b ∷ bs) h = let e : is_no_digit b ≡ true = ends_run_by (λ n. is_no_digit n ≡ true) b h refl refl refl refl refl in rw e refl

pub reach_written : (w : ℕ) (ds rest : List ℕ) → IsDecimal 4 w ds → 1 ≤ w → w ≤ most_reach → is_run_end rest ≡ true → reach_of (ds ++ rest) ≡ Some w
unfolding reach_of
reach_written w ds rest d low high end =
    ap (λ (n : ℕ). reach_by n (ds ++ rest)) (digits_first ds rest d.digits (end_no_digit rest end))
    ∙ rw (front_taken ds rest, front_dropped ds rest, d.value, le-leb 1 (length ds) d.some, le-leb (length ds) 4 d.few, le-leb 1 w low, le-leb w most_reach high, end) refl

pub id_written : (x : ℕ) (ds : List ℕ) → x ≤ most_id → IsDecimal 20 x ds → id_of ds ≡ Some x
unfolding id_of
id_written x ds high d =
    rw (eq-eqb (position_or_len is_no_digit ds) (length ds) (digits_all ds d.digits), d.value, le-leb 1 (length ds) d.some, le-leb (length ds) 20 d.few, le-leb x most_id high) refl

-- a digit is part of a run
digit_runs : (b : ℕ) → is_no_digit b ≡ false → ends_run b ≡ false
digit_runs b h =
    let r = in_range b h in let low = r.0 in
    rw (ne_eqb b 32 (λ e. omega arith), ne_eqb b 9 (λ e. omega arith), ne_eqb b 40 (λ e. omega arith), ne_eqb b 41 (λ e. omega arith), ne_eqb b 34 (λ e. omega arith)) refl

run_ends : (rest : List ℕ) → is_run_end rest ≡ true → position_or_len ends_run rest ≡ 0
run_ends [] h = refl
run_ends (b ∷ bs) h = rw h refl

digits_run : (ds rest : List ℕ) → AreDigits ds → is_run_end rest ≡ true → position_or_len ends_run (ds ++ rest) ≡ length ds
digits_run [] rest h end = run_ends rest end
digits_run (d ∷ ds) rest h end = rw (digit_runs d h.0, digits_run ds rest h.1 end) (omega arith)

since_run : (x : ℕ) (ds : List ℕ) → id_of ds ≡ Some x → run_lexeme plain (115 ∷ 105 ∷ 110 ∷ 99 ∷ 101 ∷ 58 ∷ ds) ≡ leaf (since x)
unfolding run_lexeme
since_run x ds e = rw e refl

pub since_first : (x : ℕ) (ds rest : List ℕ) → x ≤ most_id → IsDecimal 20 x ds → is_run_end rest ≡ true
    → first plain 115 (105 ∷ 110 ∷ 99 ∷ 101 ∷ 58 ∷ ds ++ rest) ≡ (leaf (since x), 5 + length ds)
since_first x ds rest high d end =
    let bs = 105 ∷ 110 ∷ 99 ∷ 101 ∷ 58 ∷ ds ++ rest in
    let ends : 5 + length ds ≡ position_or_len ends_run bs = rw (digits_run ds rest d.digits end) (omega arith) in
    let front : take (5 + length ds) bs ≡ 105 ∷ 110 ∷ 99 ∷ 101 ∷ 58 ∷ ds =
    (let five : 5 + length ds ≡ suc (suc (suc (suc (suc (length ds))))) = omega arith in
    ap (λ (j : ℕ). take j bs) five ∙ ap (λ (zs : List ℕ). 105 ∷ 110 ∷ 99 ∷ 101 ∷ 58 ∷ zs) (front_taken ds rest)) in
    first_bare plain 115 bs (λ e. omega arith) (λ e. omega arith) (λ e. omega arith) (λ e. omega arith) ∙ bare_is plain 115 bs (5 + length ds) ends
    ∙ ap (λ (zs : List ℕ). (run_lexeme plain (115 ∷ zs), 5 + length ds)) front ∙ ap (λ (l : Lexeme). (l, 5 + length ds)) (since_run x ds (id_written x ds high d))
