-- The heads of query lines in the line.
use Rattle.std.proofs.Common.{◌≡◌, ◌==◌, ◌&&◌, ◌||◌, Bool, true, false, ℕ, ◌+◌, ◌-◌, ◌<◌, ◌≤◌, List, [], ◌∷◌, length, take, drop, get_or, Some, sym, ap, ◌∙◌, arith, subst}
use Rattle.std.specs.Prelude.{slice_get}
use Rattle.std.specs.List.{position_or_len}
use Rattle.std.specs.Str.{IsUtf8, IsCharBoundary}
use Rattle.std.proofs.lemmas.Str.{IsCharBoundary-after_ascii}
use Rattle.eb_query.specs.Lexemes.{is_blank}
use Rattle.std.proofs.lemmas.Bool.{eqb-true}
use Rattle.eb_fields.specs.Dialect.{Dialect}
use Rattle.eb_query.specs.Head.{range_len, range_text, begins_query}
use Rattle.eb_query.proofs.Cuts.{found_len, cut_within, cut_before, blank_small}

module _ (line : List ℕ) (mark : slice_get line 0 ≡ Some 35) where
  pub some_byte : 0 < length line
  some_byte = go line mark
    where
      go : (xs : List ℕ) → slice_get xs 0 ≡ Some 35 → 0 < length xs
      go [] e = let no : ⊥ = cc in absurd no
      go (x ∷ xs) e = omega arith

  pub after_mark : IsUtf8 line → IsCharBoundary line 1
  after_mark u = IsCharBoundary-after_ascii line 0 u some_byte (go line mark)
    where
      go : (xs : List ℕ) → slice_get xs 0 ≡ Some 35 → get_or xs 0 0 < 128
      go [] e = let no : ⊥ = cc in absurd no
      go (x ∷ xs) e = let same : x ≡ 35 = cc in omega (arith, same)

  module _ (bytes : List ℕ) (n : ℕ) (same : bytes ≡ line) (is : n ≡ position_or_len is_blank (take (length bytes - 1) (drop 1 bytes))) where
    pub blank_len : n ≡ position_or_len is_blank (drop 1 line)
    blank_len = found_len is_blank bytes line 0 n same is

    pub range_len_is : n ≡ range_len line
    unfolding range_len
    range_len_is = blank_len

    pub blank_within : 1 + n ≤ length line
    blank_within = let w = cut_within is_blank line 0 n some_byte blank_len in omega arith

    pub blank_boundary : IsCharBoundary line (1 + n)
    blank_boundary =
        let e : 0 + 1 + n ≡ 1 + n = omega arith in
        subst (IsCharBoundary line) e (cut_before is_blank line 0 n blank_small some_byte blank_len)

    pub range_text_is : (text : List ℕ) → text ≡ take (1 + n - 1) (drop 1 line) → text ≡ range_text line
    unfolding range_text
    range_text_is text h =
        let e : 1 + n - 1 ≡ range_len line = omega (arith, range_len_is) in
        h ∙ ap (λ (k : ℕ). take k (drop 1 line)) e

-- without counts a query line begins with a question mark
pub begins_newest : (how : Dialect) (bytes : List ℕ) → how.counts ≡ false → begins_query how bytes ≡ true → slice_get bytes 0 ≡ Some 63
begins_newest how [] none e = let no : ⊥ = cc in absurd no
begins_newest how (b ∷ bs) none e =
    let mark : (b == 63) ≡ true = sym (ap (λ (c : Bool). (c && b == 35) || b == 63) none) ∙ e in
    ap (λ (x : ℕ). Some x) (eqb-true b 63 mark)
