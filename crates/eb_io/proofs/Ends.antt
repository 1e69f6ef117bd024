-- Where the first line of what is held ends.
use Rattle.std.proofs.Common.{◌≡◌, ◌≢◌, ℕ, ◌+◌, ◌-◌, ◌≤◌, List, ◌∷◌, ◌++◌, take, drop, slice_index, slice_range, Option, Some, None, option_map, sym, ap, ◌∙◌, subst, inl, inr, arith}
use Rattle.std.specs.Prelude.{MatchOption, ⊤}
use Rattle.std.proofs.lemmas.Bool.{cases_lt}
use Rattle.std.proofs.lemmas.List.Elements.{All-drop}
use Rattle.std.proofs.lemmas.List.{drop_more, drop-take, drop-drop, get_or-take, length-drop, length-take, take-append-drop}
use Rattle.eb_io.specs.Lines.{IsUncut, IsFirstLf, IsEnd}
use Rattle.eb_io.proofs.Bytes.{drop_range}
use Rattle.eb_io.proofs.Given.{lf_next}

-- at the place of a LF there is one
is_lf : (bytes : List ℕ) (at : ℕ) → IsFirstLf bytes at → slice_index bytes at ≡ 10
is_lf bytes at f = ap (λ xs. slice_index xs 0) (sym (drop_more bytes at 0 f.within) ∙ lf_next bytes at f.within f.cut)

not_before : (bytes : List ℕ) (at n : ℕ) → IsFirstLf bytes at → IsUncut (take n bytes) → n ≤ at
not_before bytes at n f uncut = elim (cases_lt at n) [
  | inl lt ↦ absurd (uncut at 0 (omega (arith, length-take n bytes, f.within)) (get_or-take n bytes at 0 lt ∙ is_lf bytes at f))
  | inr ge ↦ ge
]

-- there is no LF before it
pub end_behind : (bytes : List ℕ) (end : Option ℕ) (n : ℕ) → IsEnd bytes end → IsUncut (take n bytes) → MatchOption end ⊤ (λ at. n ≤ at)
end_behind bytes None n h uncut = tt
end_behind bytes (Some at) n h uncut = not_before bytes at n h uncut

first_behind : (bytes : List ℕ) (at n : ℕ) → IsFirstLf bytes at → n ≤ at → IsFirstLf (drop n bytes) (at - n)
first_behind bytes at n f le =
    let sum : n + (at - n) ≡ at = omega arith in
    let front : take (at - n) (drop n bytes) ≡ drop n (take at bytes) = sym (drop-take n (at - n) bytes) ∙ ap (λ k. drop n (take k bytes)) sum in
    let back : drop (at - n) (drop n bytes) ≡ drop at bytes = drop-drop (at - n) n bytes ∙ ap (λ k. drop k bytes) sum in
    let more : n + (at - n + 1) ≡ at + 1 = omega arith in
    let after : drop (at - n + 1) (drop n bytes) ≡ drop (at + 1) bytes = drop-drop (at - n + 1) n bytes ∙ ap (λ k. drop k bytes) more in
    record {
      within = omega (arith, f.within, length-drop n bytes);
      uncut = subst IsUncut (sym front) (All-drop (λ b. b ≢ 10) n (take at bytes) f.uncut);
      cut = sym (take-append-drop (at - n) (drop n bytes)) ∙ ap (λ z. take (at - n) (drop n bytes) ++ z) (back ∙ lf_next bytes at f.within f.cut ∙ ap (λ z. 10 ∷ z) (sym after));
    }

behind : (bytes : List ℕ) (end : Option ℕ) (n : ℕ) → IsEnd bytes end → MatchOption end ⊤ (λ at. n ≤ at) → IsEnd (drop n bytes) (option_map (λ at. at - n) end)
behind bytes None n h le = All-drop (λ b. b ≢ 10) n bytes h
behind bytes (Some at) n h le = first_behind bytes at n h le

-- where what is left then ends
pub range_behind : (xs : List ℕ) (from to n : ℕ) (end : Option ℕ) → n ≤ to - from → IsEnd (slice_range xs from to) end → IsUncut (take n (slice_range xs from to))
    → IsEnd (slice_range xs (from + n) to) (option_map (λ at. at - n) end)
range_behind xs from to n end le h uncut =
    subst (λ bytes. IsEnd bytes (option_map (λ at. at - n) end)) (sym (drop_range xs from to n le)) (behind _ end n h (end_behind _ end n h uncut))

-- where the prefix of a piece ends
pub end_of_front : (xs ys : List ℕ) (n : ℕ) (end : Option ℕ) → ys ≡ xs → IsEnd (take n ys) end → IsEnd (slice_range xs 0 n) end
end_of_front xs ys n end same h = let whole : n - 0 ≡ n = omega arith in subst (λ bytes. IsEnd bytes end) (sym (ap (λ k. take k xs) whole ∙ ap (take n) (sym same))) h
